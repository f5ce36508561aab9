-- Worked cites of another buffer: below and twin.
use Rattle.std.proofs.Common.{◌≡◌, ℕ, true, false, List, [], ◌∷◌, Some, None, refl}
use Rattle.dsa_terms.specs.Buffers.{Buffer, Instance, is_live, buffer, have_same_moments, some_before}
use Rattle.dsa_terms.specs.Claims.{up}
use Rattle.dsa_terms.specs.Logs.{ends_below, is_twin}
use Rattle.canonical_order.specs.Claims.{least_buffer}
use Rattle.prune_rules.specs.Twins.{are_alike}

abbrev made : ℕ → ℕ → ℕ → ℕ → List (ℕ × ℕ) → Buffer
made lower upper size alignment gaps = record {
  lower = lower;
  upper = upper;
  size = size;
  alignment = alignment;
  gaps = gaps;
  lowest = 0;
}

-- two buffers of size 1 at even offsets and one of size 2
abbrev three : Instance
three = made 0 1 1 2 [] ∷ made 0 1 1 2 [] ∷ made 0 1 2 1 [] ∷ []

-- three that are live at the moments 0 to 3 and 6 to 9, with gaps written in three ways, and one that is not
abbrev gapped : Instance
gapped = made 0 10 4 1 ((4, 6) ∷ []) ∷ made 0 10 4 1 ((4, 5) ∷ (5, 6) ∷ []) ∷ made 0 10 4 1 ((4, 6) ∷ (4, 5) ∷ []) ∷
    made 0 10 4 1 ((4, 5) ∷ []) ∷ []

-- ---- below
-- buffer 2 ends at 4, at the low of buffer 1, though above its bound, 3
below_by_low : ends_below three (2, 2) (1, 3) ≡ true
unfolding ends_below up buffer
below_by_low = refl

not_below : ends_below three (1, 3) (2, 2) ≡ false
unfolding ends_below up buffer
not_below = refl

-- not below itself
itself : ends_below three (2, 0) (2, 0) ≡ false
unfolding ends_below up buffer
itself = refl

-- of two that are below, the least answers
least_below : least_buffer (λ f. ends_below three f (2, 9)) ((0, 7) ∷ (1, 0) ∷ (2, 9) ∷ []) ≡ Some 0
unfolding ends_below up buffer
least_below = refl

none_below : least_buffer (λ f. ends_below three f (2, 2)) ((0, 3) ∷ (1, 3) ∷ (2, 2) ∷ []) ≡ None
unfolding ends_below up buffer
none_below = refl

-- ---- alike, at whatever lows
alike_with_gaps_in_pieces : are_alike (made 0 10 4 1 ((4, 6) ∷ [])) (made 0 10 4 1 ((4, 5) ∷ (5, 6) ∷ [])) ≡ true
unfolding have_same_moments some_before is_live
alike_with_gaps_in_pieces = refl

alike_but_for_a_moment : are_alike (made 0 10 4 1 ((4, 6) ∷ [])) (made 0 10 4 1 ((4, 5) ∷ [])) ≡ false
unfolding have_same_moments some_before is_live
alike_but_for_a_moment = refl

alike_but_for_the_size : are_alike (made 0 1 1 2 []) (made 0 1 2 2 []) ≡ false
alike_but_for_the_size = refl

-- lowests may differ, since the bounds of a claim say how low its buffers start
alike_at_other_lowests : are_alike (record (made 0 1 1 2 []) { lowest = 6 }) (made 0 1 1 2 []) ≡ true
unfolding have_same_moments some_before is_live
alike_at_other_lowests = refl

-- ---- twins
twin : is_twin three (0, 1) (1, 2) ≡ true
unfolding is_twin have_same_moments some_before is_live up buffer
twin = refl

-- the greater number is no twin before the smaller one
not_before : is_twin three (1, 1) (0, 2) ≡ false
unfolding is_twin have_same_moments some_before is_live up buffer
not_before = refl

-- the low 4 is above the low 2
not_lower : is_twin three (0, 3) (1, 2) ≡ false
unfolding is_twin have_same_moments some_before is_live up buffer
not_lower = refl

other_size : is_twin three (1, 0) (2, 0) ≡ false
unfolding is_twin have_same_moments some_before is_live up buffer
other_size = refl

-- a lowest of its own does not matter where the low is no higher
abbrev lifted : Instance
lifted = record (made 0 1 1 2 []) { lowest = 6 } ∷ made 0 1 1 2 [] ∷ []

twin_at_another_lowest : is_twin lifted (0, 6) (1, 6) ≡ true
unfolding is_twin have_same_moments some_before is_live up buffer
twin_at_another_lowest = refl

lifted_above : is_twin lifted (0, 6) (1, 0) ≡ false
unfolding is_twin have_same_moments some_before is_live up buffer
lifted_above = refl

-- the same moments, however the gaps are written
gaps_in_pieces : is_twin gapped (0, 0) (1, 0) ≡ true
unfolding is_twin have_same_moments some_before is_live up buffer
gaps_in_pieces = refl

gaps_that_meet : is_twin gapped (1, 0) (2, 0) ≡ true
unfolding is_twin have_same_moments some_before is_live up buffer
gaps_that_meet = refl

shorter_gap : is_twin gapped (0, 0) (3, 0) ≡ false
unfolding is_twin have_same_moments some_before is_live up buffer
shorter_gap = refl

least_twin : least_buffer (λ f. is_twin gapped f (2, 0)) ((0, 1) ∷ (1, 0) ∷ (2, 0) ∷ []) ≡ Some 1
unfolding is_twin have_same_moments some_before is_live up buffer
least_twin = refl
