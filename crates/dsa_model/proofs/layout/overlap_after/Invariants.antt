use Rattle.std.proofs.Common.{◌≡◌, ◌-◌, length}
use Rattle.std.specs.List.{range_with_len}
use Rattle.dsa_terms.specs.Search.{first_some}
use Rattle.dsa_model.specs.LayoutFaults.{overlap, overlap_after}
use Rattle.dsa_model.proofs.layout.overlap_after.Given as goal

-- what is left to look at has the answer
abbrev pub invariant-loop-second : goal.invariant-loop-second
invariant-loop-second l =
    overlap_after l.instance l.offsets l.first
    ≡ first_some (overlap l.instance l.offsets l.first) (range_with_len l.second (length l.instance - l.second))
