use Rattle.std.proofs.Common.{◌-◌, ◌<◌}
use Rattle.placing_search.proofs.Climbs.{IsImproving}
use Rattle.placing_search.proofs.improving.improve.Given as goal

abbrev pub invariant-loop-made : goal.invariant-loop-made
invariant-loop-made l = IsImproving l.instance l.fn.start l.best l.floor l.made l.passes × (l.number < 12)

abbrev pub decreases-loop-made : goal.decreases-loop-made
decreases-loop-made l = l.passes - l.made
