use Rattle.std.proofs.Common.{◌≡◌, ℕ, List, take, slice_index}
use Rattle.skyline.specs.Places.{set_each, at_places}
use Rattle.skyline.proofs.rows.restore.Given as goal

abbrev pub invariant-loop-i : goal.invariant-loop-i
invariant-loop-i l = (kept : List ℕ) → l.saved ≡ at_places kept l.sections → l.heights ≡ set_each (slice_index kept)
    (take l.i l.sections) l.initial.heights
