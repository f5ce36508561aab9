use Rattle.std.proofs.Common.{◌≡◌, ◌+◌, ◌-◌, ◌≤◌, length, drop}
use Rattle.layout_picture.specs.Rectangles.{front}
use Rattle.layout_picture.proofs.rectangle.run_end.Given as goal

abbrev pub invariant-loop-end : goal.invariant-loop-end
invariant-loop-end l = (l.end + front (drop l.end l.flags) ≡ l.k + front (drop l.k l.flags)) × (l.end ≤ length l.flags)

abbrev pub decreases-loop-end : goal.decreases-loop-end
decreases-loop-end l = length l.flags - l.end
