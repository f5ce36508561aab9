use Rattle.std.proofs.Common.{◌≤◌}
use Rattle.placing_search.specs.Stacks.{IsStackOf}
use Rattle.placing_search.proofs.stacking.Stack.restack.Given as goal

abbrev pub invariant-loop-k : goal.invariant-loop-k
invariant-loop-k l = IsStackOf l.instance l.self × (l.height ≤ l.limit)
