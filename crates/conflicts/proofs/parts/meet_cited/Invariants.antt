use Rattle.conflicts.specs.Walks.{IsWalk}
use Rattle.conflicts.proofs.parts.meet_cited.Given as goal

abbrev pub invariant-loop-pair : goal.invariant-loop-pair
invariant-loop-pair l = IsWalk l.lows.instance.now l.lows.claim.now l.unmet l.walk.met.items
