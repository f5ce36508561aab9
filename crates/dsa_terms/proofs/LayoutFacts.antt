-- Moments and layouts: what holds of small instances, and what does not.
use Rattle.std.proofs.Common.{◌≡◌, ℕ, zero, suc, ◌+◌, ◌<◌, ◌≤◌, ◌≢◌, ◌⊎◌, inl, inr, true, false, [], ◌∷◌, map, slice_index, refl, arith}
use Rattle.dsa_terms.specs.Buffers.{Buffer, is_within, is_live, IsLive, Share, some_before, do_share, HaveSameMoments, have_same_moments, no_buffer, buffer}
use Rattle.dsa_terms.specs.Layouts.{IsMultiple, IsApart, IsLayout, IsFeasible, IsInfeasible}
use Rattle.dsa_terms.proofs.Moments.{do_share-false, same_moments}
use Rattle.dsa_terms.proofs.Examples.{plain, two_of_four, evens, gapped, filled, overrun, small_below}

-- ---- moments
-- the gap 4..6 holds 4 and 5
gap_holds : map (λ t. is_within t (4, 6)) (3 ∷ 4 ∷ 5 ∷ 6 ∷ []) ≡ false ∷ true ∷ true ∷ false ∷ []
gap_holds = refl

-- a buffer with the gap 4..6 and one of 4..7 are both live at 6
overrun_shared : Share gapped (plain 4 7 4 1)
unfolding is_live
overrun_shared = (6, refl, refl)

-- it shares no moment with one of 4..6
filled_not_shared : Share gapped (plain 4 6 4 1) → ⊥
unfolding do_share some_before is_live
filled_not_shared s = do_share-false gapped (plain 4 6 4 1) s.0 refl s.1 s.2

-- a lifetime 0..9 with the gaps 0..2 and 5..9 leaves the moments of 2..5
abbrev middle : Buffer
middle = record { lower = 0; upper = 9; size = 4; alignment = 1; gaps = (5, 9) ∷ (0, 2) ∷ []; lowest = 0 }

middle_moments : HaveSameMoments middle (plain 2 5 1 2)
unfolding have_same_moments some_before is_live
middle_moments = same_moments middle (plain 2 5 1 2) refl

-- at 9 the one with the gap is live, and one of 0..9 is not; at 4 it is the other way round
other_end : HaveSameMoments gapped (plain 0 9 4 1) → ⊥
unfolding is_live
other_end h = let k = h 9 in cc

in_gap_alone : HaveSameMoments (plain 0 10 4 1) gapped → ⊥
unfolding is_live
in_gap_alone h = let k = h 4 in cc

-- there is no buffer 3 of three, and what stands for it is never live
past_the_last : buffer evens 3 ≡ no_buffer
unfolding buffer
past_the_last = refl

never_live : map (is_live no_buffer) (0 ∷ 1 ∷ []) ≡ false ∷ false ∷ []
unfolding is_live
never_live = refl

-- ---- multiples, and buffers that are apart
eight_by_four : IsMultiple 8 4
eight_by_four = refl

six_by_four : IsMultiple 6 4 → ⊥
six_by_four h = cc

-- size 3 at 0 and size 5 at 3 meet without overlap, in either order; one place nearer they overlap
first_ends : IsApart (plain 0 1 3 1) 0 (plain 0 1 5 1) 3
first_ends = inl (omega arith)

second_ends : IsApart (plain 0 1 3 1) 5 (plain 0 1 5 1) 0
second_ends = inr (omega arith)

first_overlaps : IsApart (plain 0 1 3 1) 0 (plain 0 1 5 1) 2 → ⊥
first_overlaps (inl h) = omega arith
first_overlaps (inr h) = omega arith

second_overlaps : IsApart (plain 0 1 3 1) 4 (plain 0 1 5 1) 0 → ⊥
second_overlaps (inl h) = omega arith
second_overlaps (inr h) = omega arith

-- ---- what fits
-- size 3 at 1 above size 1 at 0, which is aligned to four, reaches 4
small_below_layout : IsLayout small_below 4 (1 ∷ 0 ∷ [])
unfolding buffer
small_below_layout = record { count = refl; aligned = aligned; above = above; within = within; apart = apart }
  where
    aligned : (b : ℕ) → b < 2 → IsMultiple (slice_index (1 ∷ 0 ∷ []) b) (buffer small_below b).alignment
    aligned zero lt = refl
    aligned (suc zero) lt = refl
    aligned (suc (suc b)) lt = absurd (omega arith)

    above : (b : ℕ) → b < 2 → (buffer small_below b).lowest ≤ slice_index (1 ∷ 0 ∷ []) b
    above zero lt = omega arith
    above (suc zero) lt = omega arith
    above (suc (suc b)) lt = absurd (omega arith)

    within : (b : ℕ) → b < 2 → slice_index (1 ∷ 0 ∷ []) b + (buffer small_below b).size ≤ 4
    within zero lt = omega arith
    within (suc zero) lt = omega arith
    within (suc (suc b)) lt = absurd (omega arith)

    apart : (b c t : ℕ) → b < 2 → c < 2 → b ≢ c → IsLive (buffer small_below b) t → IsLive (buffer small_below c) t →
        IsApart (buffer small_below b) (slice_index (1 ∷ 0 ∷ []) b) (buffer small_below c) (slice_index (1 ∷ 0 ∷ []) c)
    apart zero zero t l m n p q = absurd (n refl)
    apart zero (suc zero) t l m n p q = inr (omega arith)
    apart (suc zero) zero t l m n p q = inl (omega arith)
    apart (suc zero) (suc zero) t l m n p q = absurd (n refl)
    apart (suc (suc b)) c t l m n p q = absurd (omega arith)
    apart b (suc (suc c)) t l m n p q = absurd (omega arith)

small_below_fits : IsFeasible small_below 4
small_below_fits = (1 ∷ 0 ∷ [], small_below_layout)

small_below_at_4 : IsInfeasible small_below 4 → ⊥
small_below_at_4 none = none (1 ∷ 0 ∷ []) small_below_layout

-- two of size 3 aligned to four: at 6 both would have to start at 0
two_of_four_at_6 : IsInfeasible two_of_four 6
unfolding buffer is_live
two_of_four_at_6 offsets l =
    close (slice_index offsets 0) (slice_index offsets 1) (l.aligned 0 two.0) (l.aligned 1 two.1) (l.within 0 two.0)
    (l.within 1 two.1) (l.apart 0 1 0 two.0 two.1 (λ q. omega arith) refl refl)
  where
    two : (0 < 2) × (1 < 2)
    two = (omega arith, omega arith)

    close : (x y : ℕ) → IsMultiple x 4 → IsMultiple y 4 → x + 3 ≤ 6 → y + 3 ≤ 6 → (x + 3 ≤ y) ⊎ (y + 3 ≤ x) → ⊥
    close x y p q a b (inl h) = omega arith
    close x y p q a b (inr h) = omega arith

-- two of size 4 that are both live at 6, past the gap of one of them, do not fit into 7
overrun_at_7 : IsInfeasible overrun 7
unfolding buffer is_live
overrun_at_7 offsets l =
    close (slice_index offsets 0) (slice_index offsets 1) (l.within 0 two.0) (l.within 1 two.1)
    (l.apart 0 1 6 two.0 two.1 (λ q. omega arith) refl refl)
  where
    two : (0 < 2) × (1 < 2)
    two = (omega arith, omega arith)

    close : (x y : ℕ) → x + 4 ≤ 7 → y + 4 ≤ 7 → (x + 4 ≤ y) ⊎ (y + 4 ≤ x) → ⊥
    close x y a b (inl h) = omega arith
    close x y a b (inr h) = omega arith

-- one of which is live in the gap of the other alone: both fit at 0 into 4
filled_fits : IsFeasible filled 4
unfolding buffer
filled_fits = (0 ∷ 0 ∷ [], record { count = refl; aligned = aligned; above = above; within = within; apart = apart })
  where
    aligned : (b : ℕ) → b < 2 → IsMultiple (slice_index (0 ∷ 0 ∷ []) b) (buffer filled b).alignment
    aligned zero lt = refl
    aligned (suc zero) lt = refl
    aligned (suc (suc b)) lt = absurd (omega arith)

    above : (b : ℕ) → b < 2 → (buffer filled b).lowest ≤ slice_index (0 ∷ 0 ∷ []) b
    above zero lt = omega arith
    above (suc zero) lt = omega arith
    above (suc (suc b)) lt = absurd (omega arith)

    within : (b : ℕ) → b < 2 → slice_index (0 ∷ 0 ∷ []) b + (buffer filled b).size ≤ 4
    within zero lt = omega arith
    within (suc zero) lt = omega arith
    within (suc (suc b)) lt = absurd (omega arith)

    apart : (b c t : ℕ) → b < 2 → c < 2 → b ≢ c → IsLive (buffer filled b) t → IsLive (buffer filled c) t →
        IsApart (buffer filled b) (slice_index (0 ∷ 0 ∷ []) b) (buffer filled c) (slice_index (0 ∷ 0 ∷ []) c)
    apart zero zero t l m n p q = absurd (n refl)
    apart zero (suc zero) t l m n p q = absurd (filled_not_shared (t, p, q))
    apart (suc zero) zero t l m n p q = absurd (filled_not_shared (t, q, p))
    apart (suc zero) (suc zero) t l m n p q = absurd (n refl)
    apart (suc (suc b)) c t l m n p q = absurd (omega arith)
    apart b (suc (suc c)) t l m n p q = absurd (omega arith)
