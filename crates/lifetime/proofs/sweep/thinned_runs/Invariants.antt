use Rattle.std.proofs.Common.{◌-◌, length}
use Rattle.lifetime.proofs.RunThinning.{IsThinning}
use Rattle.lifetime.proofs.sweep.thinned_runs.Given as goal

abbrev pub decreases-loop-next : goal.decreases-loop-next
decreases-loop-next l = length l.edges - l.next

abbrev pub invariant-loop-next : goal.invariant-loop-next
invariant-loop-next l = IsThinning l.instance l.edges l.next l.live.items l.thinned
