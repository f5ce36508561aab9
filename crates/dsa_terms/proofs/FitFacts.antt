-- Fits and orders: the two rules, the tightest range, buffers placed in turn, and lists in order.
use Rattle.std.proofs.Common.{◌≡◌, ℕ, ◌+◌, ◌==◌, inl, inr, Bool, true, false, List, [], ◌∷◌, map, Some, None, refl}
use Rattle.dsa_terms.specs.Buffers.{Buffer, Instance, is_live, buffer, do_share, some_before}
use Rattle.dsa_terms.specs.Claims.{Entry, IsIn}
use Rattle.dsa_terms.specs.Fits.{top, highest, neighbours, is_free, FitRule, first_place, Range, stretches, free_ranges, holds, is_tighter, tightest, start_in, best_place, fitted, least_from, is_clear}
use Rattle.dsa_terms.specs.Sorts.{comes_first, put_by, ordered_by, IsOrdered}
use Rattle.dsa_terms.specs.Orders.{falls_by, area}
use Rattle.dsa_terms.proofs.Examples.{plain, evens, gapped, filled, overrun}

-- ---- one buffer beside placed ones: ranges 3..4 and 5..6 are taken, so 0..3 and 4..5 are free
abbrev pub taken : List Entry
taken = (0, 3) ∷ (1, 5) ∷ []

-- buffers 0 and 1 are placed; 2 is small, 3 begins at multiples of three, 4 at multiples of five
abbrev pub sizes : Instance
sizes = plain 0 1 1 1 ∷ plain 0 1 1 1 ∷ plain 0 1 1 1 ∷ plain 0 1 2 3 ∷ plain 0 1 4 5 ∷ []

-- the two rules: the lowest place, and the shortest range
two_rules : map (λ (rule : FitRule). rule sizes 2 taken) (first_place ∷ best_place ∷ []) ≡ 0 ∷ 4 ∷ []
unfolding first_place is_clear best_place free_ranges stretches holds least_from is_tighter is_free highest top
    buffer
two_rules = refl

-- ---- where 3 is clear: at 3 it meets what is taken, and 1 and 2 are no multiples of three
clear_at : map (is_clear sizes 3 taken) (0 ∷ 1 ∷ 2 ∷ 3 ∷ 6 ∷ []) ≡ true ∷ false ∷ false ∷ false ∷ true ∷ []
unfolding is_clear is_free top buffer
clear_at = refl

-- ---- ranges
unfoldable pub range : ℕ → ℕ → Range
range x y = record { start = x; stop = y }

-- ---- the tightest range: the shorter, and of two of one length the lower
shorter : tightest (range 0 3 ∷ range 4 5 ∷ []) ≡ Some (range 4 5)
unfolding is_tighter range
shorter = refl

lower_of_two : tightest (range 5 7 ∷ range 0 2 ∷ []) ≡ Some (range 0 2)
unfolding is_tighter range
lower_of_two = refl

first_of_two : tightest (range 0 2 ∷ range 5 7 ∷ []) ≡ Some (range 0 2)
unfolding is_tighter range
first_of_two = refl

alone : tightest (range 5 7 ∷ []) ≡ Some (range 5 7)
unfolding is_tighter range
alone = refl

tightest_of_four : tightest (range 0 3 ∷ range 9 11 ∷ range 4 6 ∷ range 20 90 ∷ []) ≡ Some (range 4 6)
unfolding is_tighter range
tightest_of_four = refl

tightest_of_none : tightest [] ≡ None
tightest_of_none = refl

-- in 4..9 a multiple of three is at 6; without a range past the tops 4 and 6 a multiple of five is at 10
start_in_range : start_in sizes 3 taken (Some (range 4 9)) ≡ 6
unfolding range least_from buffer
start_in_range = refl

start_past_all : start_in sizes 4 taken None ≡ 10
unfolding least_from highest top buffer
start_past_all = refl

-- ---- placed in turn, the last first: each beside those alone that it shares a moment with
evens_fitted : fitted first_place evens (2 ∷ 0 ∷ 1 ∷ []) [] ≡ (1, 4) ∷ (0, 2) ∷ (2, 0) ∷ []
unfolding neighbours first_place is_clear least_from is_free highest top do_share some_before is_live buffer
evens_fitted = refl

-- in the gap of the first, and past it
filled_fitted : fitted best_place filled (0 ∷ 1 ∷ []) [] ≡ (1, 0) ∷ (0, 0) ∷ []
unfolding neighbours best_place free_ranges stretches holds least_from is_tighter is_free highest top do_share
    some_before is_live buffer
filled_fitted = refl

overrun_fitted : fitted best_place overrun (0 ∷ 1 ∷ []) [] ≡ (1, 4) ∷ (0, 0) ∷ []
unfolding neighbours best_place free_ranges stretches holds least_from is_tighter is_free highest top do_share
    some_before is_live buffer
overrun_fitted = refl

-- beside two that are placed already
fitted_on : fitted first_place evens (1 ∷ []) ((2, 1) ∷ (0, 0) ∷ []) ≡ (1, 4) ∷ (2, 1) ∷ (0, 0) ∷ []
unfolding neighbours first_place is_clear least_from is_free highest top do_share some_before is_live buffer
fitted_on = refl

-- ---- what comes first: the smaller measure, whatever the numbers are, and of equal measures the smaller number; none
-- comes before itself
smaller_measure : map (λ m. comes_first m 4 9 2) (3 ∷ 4 ∷ 5 ∷ []) ≡ true ∷ false ∷ false ∷ []
smaller_measure = refl

smaller_number : map (λ b. comes_first 4 4 b 2) (1 ∷ 2 ∷ 3 ∷ []) ≡ true ∷ false ∷ false ∷ []
smaller_number = refl

-- ---- orders: by size falling, the largest is 2, and 0 comes before its equal 1
by_size : ℕ → ℕ → Bool
by_size = falls_by (λ (b : Buffer). b.size) evens

put_second : put_by by_size 0 (2 ∷ 1 ∷ []) ≡ 2 ∷ 0 ∷ 1 ∷ []
unfolding by_size falls_by buffer
put_second = refl

put_last : put_by by_size 1 (2 ∷ 0 ∷ []) ≡ 2 ∷ 0 ∷ 1 ∷ []
unfolding by_size falls_by buffer
put_last = refl

three_ordered : ordered_by by_size (1 ∷ 0 ∷ 2 ∷ []) ≡ 2 ∷ 0 ∷ 1 ∷ []
unfolding by_size falls_by buffer
three_ordered = refl

is_ordered : IsOrdered by_size (2 ∷ 0 ∷ 1 ∷ [])
unfolding by_size falls_by buffer
is_ordered = (after_two, (after_zero, ((λ c i. absurd i), tt)))
  where
    after_two : (c : ℕ) → IsIn c (0 ∷ 1 ∷ []) → by_size 2 c ≡ true
    after_two c (inl q) = rw q refl
    after_two c (inr (inl q)) = rw q refl
    after_two c (inr (inr i)) = absurd i

    after_zero : (c : ℕ) → IsIn c (1 ∷ []) → by_size 0 c ≡ true
    after_zero c (inl q) = rw q refl
    after_zero c (inr i) = absurd i

-- 1 comes after the larger 2
is_not_ordered : IsOrdered by_size (1 ∷ 2 ∷ []) → ⊥
unfolding by_size falls_by buffer
is_not_ordered o = let h = o.0 2 (inl refl) in cc

-- where each comes before the next number alone, the first does not come before the last
next_alone : IsOrdered (λ b c. b + 1 == c) (0 ∷ 1 ∷ 2 ∷ []) → ⊥
next_alone o = let h = o.0 2 (inr (inl refl)) in cc

-- size 14 from 2 to 7, and size 4 from 0 to 10, its gap included
areas : map area (plain 2 7 14 4 ∷ gapped ∷ []) ≡ 70 ∷ 40 ∷ []
areas = refl
