use Rattle.std.proofs.Common.{◌≡◌, ◌+◌, ◌-◌, length, map, max, slice_index}
use Rattle.std.specs.List.{range_with_len}
use Rattle.dsa_terms.specs.Buffers.{buffer}
use Rattle.dsa_terms.specs.Logs.{greatest}
use Rattle.dsa_terms.specs.Plans.{layout_height}
use Rattle.dsa_model.proofs.heights.height.Given as goal

-- the top so far, or what is left reaches higher
abbrev pub invariant-loop-b : goal.invariant-loop-b
invariant-loop-b l =
    layout_height l.instance l.offsets
    ≡ max l.top (greatest (map (λ b. slice_index l.offsets b + (buffer l.instance b).size)
    (range_with_len l.b (length l.instance - l.b))))
