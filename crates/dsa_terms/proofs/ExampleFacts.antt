-- What moments, layouts, claims, children and the two rules come to on small instances.
use Rattle.std.proofs.Common.{◌≡◌, ℕ, ◌≤◌, ◌⊎◌, inl, inr, true, false, List, [], ◌∷◌, map, Some, None, refl, arith}
use Rattle.dsa_terms.specs.Firsts.{when, first_fault}
use Rattle.dsa_terms.specs.Buffers.{Buffer, is_live, buffer, do_share, have_same_moments, some_before}
use Rattle.dsa_terms.specs.Layouts.{IsLayout}
use Rattle.dsa_terms.specs.Claims.{up, number_of, step, child}
use Rattle.dsa_terms.specs.Logs.{greatest, ends_below, is_twin}
use Rattle.dsa_terms.specs.Parts.{has}
use Rattle.dsa_terms.specs.Sorts.{ordered_by}
use Rattle.dsa_terms.specs.Search.{comes_before}
use Rattle.dsa_terms.specs.Plans.{layout_height}
use Rattle.dsa_terms.proofs.Examples.{plain, evens, gapped, filled, overrun, made, one_by_one}

-- ---- moments: from lower on, before upper, and in no gap, which ends before its second number
gapped_is_live :
    map (is_live gapped) (0 ∷ 3 ∷ 4 ∷ 5 ∷ 6 ∷ 9 ∷ 10 ∷ [])
    ≡ true ∷ true ∷ false ∷ false ∷ true ∷ true ∷ false ∷ []
unfolding is_live
gapped_is_live = refl

plain_is_live : map (is_live (plain 3 9 4 1)) (2 ∷ 3 ∷ 8 ∷ 9 ∷ []) ≡ false ∷ true ∷ true ∷ false ∷ []
unfolding is_live
plain_is_live = refl

-- gaps that touch, that overlap, and that are written otherwise leave the same moments
abbrev with_gaps : List (ℕ × ℕ) → Buffer
with_gaps gaps = record { lower = 0; upper = 9; size = 1; alignment = 1; gaps = gaps; lowest = 0 }

touching : have_same_moments (with_gaps ((2, 4) ∷ (4, 6) ∷ [])) (with_gaps ((2, 6) ∷ [])) ≡ true
unfolding have_same_moments some_before is_live
touching = refl

overlapping : have_same_moments (with_gaps ((3, 6) ∷ (2, 5) ∷ [])) (with_gaps ((2, 6) ∷ [])) ≡ true
unfolding have_same_moments some_before is_live
overlapping = refl

unlike_moments : have_same_moments (with_gaps ((2, 5) ∷ [])) (with_gaps ((2, 6) ∷ [])) ≡ false
unfolding have_same_moments some_before is_live
unlike_moments = refl

-- gaps over the whole lifetime leave no moment
covered : some_before 9 (is_live (with_gaps ((0, 6) ∷ (4, 9) ∷ []))) ≡ false
unfolding some_before is_live
covered = refl

-- a buffer that is live in the gap alone shares no moment, one that outlasts it does, and one that follows does not
filled_share : do_share gapped (plain 4 6 4 1) ≡ false
unfolding do_share some_before is_live
filled_share = refl

overrun_share : do_share gapped (plain 4 7 4 1) ≡ true
unfolding do_share some_before is_live
overrun_share = refl

followed_share : do_share (plain 0 3 4 1) (plain 3 9 4 1) ≡ false
unfolding do_share some_before is_live
followed_share = refl

-- ---- no layouts: too few offsets, one that is not aligned, one too high, and two that overlap past the gap
too_few : IsLayout evens 9 (0 ∷ 2 ∷ []) → ⊥
too_few l = let h = l.count in cc

unaligned : IsLayout evens 9 (0 ∷ 3 ∷ 4 ∷ []) → ⊥
unfolding buffer
unaligned l = let h = l.aligned 1 (omega arith) in cc

too_high : IsLayout evens 4 (2 ∷ 4 ∷ 0 ∷ []) → ⊥
unfolding buffer
too_high l = let h = l.within 1 (omega arith) in omega arith

overlap_past_gap : IsLayout overrun 10 (0 ∷ 2 ∷ []) → ⊥
unfolding buffer is_live
overlap_past_gap l = neither (l.apart 0 1 6 (omega arith) (omega arith) (λ q. omega arith) refl refl)
  where
    neither : (4 ≤ 2) ⊎ (6 ≤ 0) → ⊥
    neither (inl h) = omega arith
    neither (inr h) = omega arith

evens_height : layout_height evens (2 ∷ 4 ∷ 0 ∷ []) ≡ 5
unfolding layout_height buffer
evens_height = refl

-- ---- up: the least multiple of the alignment at or above the bound
ups : map (up made) ((0, 0) ∷ (0, 1) ∷ (0, 4) ∷ (1, 4) ∷ (1, 52) ∷ []) ≡ 0 ∷ 4 ∷ 4 ∷ 6 ∷ 54 ∷ []
unfolding up buffer
ups = refl

-- ---- children: past a buffer that shares a moment, past its offset where the number is smaller, else at it
child_sharing : child evens ((0, 0) ∷ (1, 0) ∷ (2, 0) ∷ []) (2, 0) ≡ (0, 2) ∷ (1, 2) ∷ []
unfolding child up step do_share some_before is_live buffer
child_sharing = refl

-- from the ups, 2 and 1, and not from the bounds, 1 and 1
child_from_up : child evens ((1, 1) ∷ (2, 1) ∷ []) (1, 1) ≡ (2, 3) ∷ []
unfolding child up step do_share some_before is_live buffer
child_from_up = refl

child_earlier : child one_by_one ((0, 0) ∷ (1, 4) ∷ []) (1, 4) ≡ (0, 5) ∷ []
unfolding child up step do_share some_before is_live buffer
child_earlier = refl

child_later : child one_by_one ((0, 4) ∷ (1, 0) ∷ []) (0, 4) ≡ (1, 4) ∷ []
unfolding child up step do_share some_before is_live buffer
child_later = refl

-- what is higher already stays
child_higher : child one_by_one ((0, 4) ∷ (1, 9) ∷ []) (0, 4) ≡ (1, 9) ∷ []
unfolding child up step do_share some_before is_live buffer
child_higher = refl

-- the other is live in the gap alone
child_in_gap : child filled ((0, 0) ∷ (1, 0) ∷ []) (0, 0) ≡ (1, 0) ∷ []
unfolding child up step do_share some_before is_live buffer
child_in_gap = refl

-- ---- below: by the ups, since 2 + 2 is at most 4, though it is above the bound 3; and never below itself
below_by_up : ends_below evens (2, 2) (1, 3) ≡ true
unfolding ends_below up buffer
below_by_up = refl

not_below : ends_below evens (2, 3) (1, 3) ≡ false
unfolding ends_below up buffer
not_below = refl

not_below_itself : ends_below evens (2, 0) (2, 9) ≡ false
unfolding ends_below up buffer
not_below_itself = refl

-- ---- twins: the smaller number, the same moments, size and alignment, and an up that is no higher
twin_before : is_twin evens (0, 0) (1, 0) ≡ true
unfolding is_twin have_same_moments some_before is_live up buffer
twin_before = refl

twin_of_later : is_twin evens (1, 0) (0, 0) ≡ false
unfolding is_twin have_same_moments some_before is_live up buffer
twin_of_later = refl

-- the ups are equal, though the bounds are not
twin_by_up : is_twin evens (0, 2) (1, 1) ≡ true
unfolding is_twin have_same_moments some_before is_live up buffer
twin_by_up = refl

higher_is_no_twin : is_twin evens (0, 3) (1, 1) ≡ false
unfolding is_twin have_same_moments some_before is_live up buffer
higher_is_no_twin = refl

other_size_is_no_twin : is_twin (plain 0 1 3 1 ∷ plain 0 1 2 1 ∷ []) (0, 0) (1, 0) ≡ false
unfolding is_twin have_same_moments some_before is_live up buffer
other_size_is_no_twin = refl

other_alignment_is_no_twin : is_twin (plain 0 1 2 1 ∷ plain 0 1 2 2 ∷ []) (0, 0) (1, 0) ≡ false
unfolding is_twin have_same_moments some_before is_live up buffer
other_alignment_is_no_twin = refl

other_moments_are_no_twin : is_twin (plain 0 1 2 1 ∷ plain 0 2 2 1 ∷ []) (0, 0) (1, 0) ≡ false
unfolding is_twin have_same_moments some_before is_live up buffer
other_moments_are_no_twin = refl

-- ---- the order of the choices: by up, then by number
choices_in_order : ordered_by (comes_before evens) ((0, 1) ∷ (1, 0) ∷ (2, 2) ∷ []) ≡ (1, 0) ∷ (0, 1) ∷ (2, 2) ∷ []
unfolding comes_before up buffer
choices_in_order = refl

-- ---- the first fault
second_is_first : first_fault {F = ℕ} (when false 1 ∷ when true 2 ∷ when true 3 ∷ []) ≡ Some 2
second_is_first = refl

no_fault : first_fault {F = ℕ} (when false 1 ∷ when false 2 ∷ []) ≡ None
no_fault = refl

-- ---- lists of numbers and of entries
sevens : greatest (3 ∷ 7 ∷ 5 ∷ []) ≡ 7
sevens = refl

has_of_numbers : has 5 (2 ∷ 5 ∷ []) ≡ true
unfolding has
has_of_numbers = refl

has_not : has 3 (2 ∷ 5 ∷ []) ≡ false
unfolding has
has_not = refl

numbers_of : map (number_of ((1, 4) ∷ (2, 5) ∷ [])) (0 ∷ 1 ∷ 2 ∷ []) ≡ 0 ∷ 4 ∷ 5 ∷ []
numbers_of = refl
