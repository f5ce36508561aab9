use Rattle.placing_search.specs.Stacks.{IsStackOf}
use Rattle.placing_search.proofs.stacking.Stack.take_off.Given as goal

abbrev pub invariant-loop-column : goal.invariant-loop-column
invariant-loop-column l = IsStackOf l.instance l.self
