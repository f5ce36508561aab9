use Rattle.conflicts.specs.Walks.{IsWalk}
use Rattle.conflicts.proofs.parts.walk_from.Given as goal

abbrev pub invariant-loop : goal.invariant-loop
invariant-loop l = IsWalk l.lows.instance.now l.lows.claim.now l.unmet l.walk.met.items
