use Rattle.placing_search.specs.Stacks.{IsStackOf}
use Rattle.placing_search.proofs.stacking.Stack.raise.Given as goal

abbrev pub invariant-loop-place : goal.invariant-loop-place
invariant-loop-place l = IsStackOf l.instance l.self
