use Rattle.std.proofs.Common.{◌≡◌, ◌-◌, length, find, slice_index}
use Rattle.std.specs.List.{range_with_len}
use Rattle.dsa_terms.specs.Buffers.{buffer}
use Rattle.dsa_model.specs.LayoutFaults.{is_too_low, first_too_low}
use Rattle.dsa_model.proofs.layout.first_too_low.Given as goal

-- what is left to look at has the answer
abbrev pub invariant-loop-b : goal.invariant-loop-b
invariant-loop-b l =
    first_too_low l.instance l.offsets
    ≡ find (λ b. is_too_low (buffer l.instance b) (slice_index l.offsets b))
    (range_with_len l.b (length l.instance - l.b))
