use Rattle.std.proofs.Common.{◌≡◌, ◌-◌, length}
use Rattle.std.specs.List.{range_with_len}
use Rattle.dsa_terms.specs.Search.{first_some}
use Rattle.dsa_model.specs.LayoutFaults.{overlap_after, first_overlap}
use Rattle.dsa_model.proofs.layout.first_overlap.Given as goal

-- what is left to look at has the answer
abbrev pub invariant-loop-first : goal.invariant-loop-first
invariant-loop-first l =
    first_overlap l.instance l.offsets
    ≡ first_some (overlap_after l.instance l.offsets) (range_with_len l.first (length l.instance - l.first))
