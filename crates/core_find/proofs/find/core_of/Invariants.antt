use Rattle.std.proofs.Common.{◌+◌, ◌≤◌, length}
use Rattle.core_find.specs.Looking.{IsLooking, ahead}
use Rattle.core_find.proofs.find.core_of.Given as goal

abbrev pub invariant-loop-asker : goal.invariant-loop-asker
invariant-loop-asker g l = record {
  looking : IsLooking l.instance l.capacity l.looking;
  asks : g.A.Ask.asks l.asker + ahead l.looking ≤ g.A.Ask.asks l.fn.asker + length l.instance;
}

abbrev pub decreases-loop-asker : goal.decreases-loop-asker
decreases-loop-asker g l = ahead l.looking
