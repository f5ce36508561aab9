-- The arrays of a call, as they are put together.
use Rattle.std.proofs.Common.{◌≡◌, ◌∙◌, ℕ, List, map, refl}
use Rattle.dsa_plan.specs.Arrays.{Arrays, without_gaps}
use Rattle.dsaplan_c.specs.Given.{given, pair_of}
use Rattle.dsaplan_c.specs.declared.arrays.Gap.{Gap}

-- with the gaps they are those that are given
pub are_given : (lower upper size alignment lowest : List ℕ) (gaps : List Gap) (counts : List ℕ)
    (pairs passed : List (ℕ × ℕ)) (plain all : Arrays) → plain ≡ without_gaps lower upper size alignment lowest →
    all ≡ record plain { gaps = passed; gap_counts = counts } → passed ≡ pairs → pairs ≡ map pair_of gaps →
    all ≡ given lower upper size alignment lowest gaps counts
are_given lower upper size alignment lowest gaps counts pairs passed plain all e f g h =
    f ∙ rw (e, g, h) refl
