-- Each start is within 2 ^ 60, so a capacity above it is decided as it is.
use Rattle.std.proofs.Common.{◌≡◌, ◌^◌, ◌≤◌, ℕ, List, length, Some, refl, arith}
use Rattle.std.specs.List.{All}
use Rattle.dsa_terms.specs.Buffers.{Instance}
use Rattle.dsa_terms.specs.Fits.{first_fit}
use Rattle.dsa_terms.specs.Orders.{orders}
use Rattle.dsa_terms.specs.Plans.{layout_height}
use Rattle.dsa_terms.specs.Starts.{starts}
use Rattle.dsa_terms.proofs.NumberTests.{is_at_most}
use Rattle.dsa_model.specs.Buffer.{IsBuffer, buffer_limit}
use Rattle.planner.specs.FirstStart.{start_within}
use Rattle.packer.proofs.BestStart.{by_size, first_low}

-- the first of the six starts
abbrev pub first_start : Instance → List ℕ
first_start I = first_fit I (by_size I)

pub within_wide : (I : Instance) (C : ℕ) → All IsBuffer I → length I ≤ buffer_limit → 2 ^ 60 ≤ C →
    start_within I C ≡ Some (first_start I)
unfolding starts orders
within_wide I C all few wide =
    let low = first_low I all few in
    rw (is_at_most (layout_height I (first_start I)) C (omega arith)) refl
