use Rattle.std.proofs.Common.{◌≡◌, ◌+◌, take, slice_index}
use Rattle.skyline.specs.Places.{set_each}
use Rattle.skyline.proofs.rows.burden.Given as goal

abbrev pub invariant-loop-i : goal.invariant-loop-i
invariant-loop-i l = l.loads ≡ set_each (λ s. slice_index l.initial.loads s + l.size)
    (take l.i l.sections) l.initial.loads
