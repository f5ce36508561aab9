use Rattle.std.proofs.Common.{[]}
use Rattle.conflicts.specs.Walks.{AreOf, IsWalk}
use Rattle.conflicts.proofs.parts.small_part.Given as goal

abbrev pub invariant-loop-back : goal.invariant-loop-back
invariant-loop-back l = record {
  unmet : IsWalk l.lows.instance.now l.lows.claim.now l.unmet [];
  of_claim : AreOf l.lows.claim.now l.best.met.items;
}
