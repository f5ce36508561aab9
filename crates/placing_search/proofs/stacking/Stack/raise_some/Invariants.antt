use Rattle.placing_search.specs.Stacks.{IsStackOf}
use Rattle.placing_search.proofs.stacking.Stack.raise_some.Given as goal

abbrev pub invariant-loop : goal.invariant-loop
invariant-loop l = IsStackOf l.instance l.self
