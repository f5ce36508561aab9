use Rattle.std.proofs.Common.{◌-◌}
use Rattle.placing_search.proofs.Climbs.{IsClimbing}
use Rattle.placing_search.proofs.climbing.climbed.Given as goal

abbrev pub invariant-loop-made : goal.invariant-loop-made
invariant-loop-made l = IsClimbing l.instance l.ranking l.best l.next l.height l.made l.passes

abbrev pub decreases-loop-made : goal.decreases-loop-made
decreases-loop-made l = l.passes - l.made
