use Rattle.placing_search.specs.Stacks.{IsStackOf}
use Rattle.placing_search.proofs.stacking.Stack.clear.Given as goal

abbrev pub invariant-loop-b : goal.invariant-loop-b
invariant-loop-b l = IsStackOf l.instance l.self
