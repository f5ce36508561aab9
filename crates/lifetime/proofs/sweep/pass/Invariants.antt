use Rattle.std.proofs.Common.{◌-◌, length}
use Rattle.lifetime.proofs.Passing.{IsPassing}
use Rattle.lifetime.proofs.sweep.pass.Given as goal

abbrev pub decreases-loop-next : goal.decreases-loop-next
decreases-loop-next l = length l.edges - l.next

abbrev pub invariant-loop-next : goal.invariant-loop-next
invariant-loop-next l = IsPassing l.instance l.edges l.first l.moment l.next l.changed l.live.items
