-- What is known of a buffer of size 3 beside one of size 1 that stands at multiples of 4 alone, within 4: a layout of
-- both, and none of the second one at 3 or above.
use Rattle.std.proofs.Common.{◌≡◌, ℕ, List, [], ◌∷◌, Some, None, refl, sym, ◌∙◌, arith}
use Rattle.branching.proofs.Words.{Line, first, small_below, IsCoveredBy}
use Rattle.claim_levels.proofs.LevelFacts.{rest, root}
use Rattle.branching.specs.Trying.{IsKnown}
use Rattle.branching.proofs.Computing.{computing_first}
use Rattle.branching.proofs.OverFacts.{over, over_covers}

pub root_layout : first small_below 4 root ≡ Some ((0, 1) ∷ (1, 0) ∷ [])
unfolding computing_first
root_layout = refl

pub rest_has_none : first small_below 4 rest ≡ None
unfolding computing_first
rest_has_none = refl

pub rest_covered : IsCoveredBy small_below (over ∷ []) rest 0
rest_covered = record { limit = omega arith; line = over; stands = refl; covers = over_covers }

-- ---- a line that covers a claim without layout
pub rest_known : IsKnown small_below 4 (over ∷ []) rest 0
rest_known = record { none = rest_has_none; covered = rest_covered }

-- there is no second line
not_by_the_second : IsKnown small_below 4 (over ∷ []) rest 1 → ⊥
not_by_the_second h = let e = h.covered.stands in absurd cc

root_not_known : (lines : List Line) (k : ℕ) → IsKnown small_below 4 lines root k → ⊥
root_not_known lines k h = let e = sym root_layout ∙ h.none in absurd cc
