-- Bounds of a few small instances, and the best of several.
use Rattle.std.proofs.Common.{◌≡◌, ◌+◌, ◌-◌, ◌<◌, ◌≤◌, ◌⊎◌, ◌&&◌, ℕ, zero, suc, inl, inr, Bool, true, false, cond, nat_le, [], ◌∷◌, map, sum_by, refl, ◌∙◌, sym, lit<, lit≤, arith}
use Rattle.dsa_terms.specs.Bounds.{counted, heights, highest_at, stack}
use Rattle.dsa_terms.specs.Buffers.{buffer, floor, is_live}
use Rattle.dsa_terms.specs.Claims.{IsIn, up}
use Rattle.dsa_terms.specs.Logs.{greatest, is_stacked, rounded, rounding}
use Rattle.dsa_terms.specs.Parts.{is_empty}
use Rattle.dsa_terms.proofs.Examples.{low}
use Rattle.dsa_start_laws.specs.Piles.{counted_buffers, pile, rounded_size}
use Rattle.dsa_start_laws.proofs.Piles.{stack_is_pile}
use Rattle.dsa_start_laws.proofs.Stacks.{zero_height}
use Rattle.lower_bounds.specs.Best.{IsBest, IsBoundOf, IsFirstToReach, IsLeastHeight, IsRaised, no_bound, stack_at}
use Rattle.lower_bounds.specs.declared.value.Bound.{Bound}
use Rattle.lower_bounds.proofs.StackFacts.{fours, one, three}

abbrev bound_at : ℕ → ℕ → ℕ → Bound
bound_at capacity modulus height = record { capacity = capacity; moment = 0; modulus = modulus; height = height }

-- ---- a bound with its moment, its modulus and its height
ten_from_6 : IsBoundOf low (bound_at 10 1 6)
unfolding stack counted is_stacked rounded rounding up floor buffer is_live
ten_from_6 = inr (lit≤ tt, refl, refl)

-- the other one, which can start below 6, is not counted
not_both_from_6 : IsBoundOf low (bound_at 14 1 6) → ⊥
unfolding stack counted is_stacked rounded rounding up floor buffer is_live
not_both_from_6 (inl e) = omega arith
not_both_from_6 (inr h) = let e : 14 ≡ 10 = h.2 in omega arith

fifteen_by_four : IsBoundOf fours (bound_at 15 4 8)
unfolding stack counted is_stacked rounded rounding up floor buffer is_live
fifteen_by_four = inr (lit≤ tt, refl, refl)

-- from 6 on they come to 13, but 6 is no multiple of four
not_from_6 : IsBoundOf fours (bound_at 13 4 6) → ⊥
not_from_6 (inl e) = omega arith
not_from_6 (inr h) = let e : 2 ≡ 0 = h.1 in omega arith

seven_by_four : IsBoundOf three (bound_at 7 4 0)
unfolding stack counted is_stacked rounded rounding up floor buffer is_live
seven_by_four = inr (lit≤ tt, refl, refl)

zero_is_always : IsBoundOf three no_bound
zero_is_always = inl refl

six_by_four : IsBoundOf three (bound_at 6 4 0) → ⊥
unfolding stack counted is_stacked rounded rounding up floor buffer is_live
six_by_four (inl e) = omega arith
six_by_four (inr h) = let e : 6 ≡ 7 = h.2 in omega arith

eight_by_four : IsBoundOf three (bound_at 8 4 0) → ⊥
unfolding stack counted is_stacked rounded rounding up floor buffer is_live
eight_by_four (inl e) = omega arith
eight_by_four (inr h) = let e : 8 ≡ 7 = h.2 in omega arith

-- nothing is live at 1
seven_later : IsBoundOf three (record { capacity = 7; moment = 1; modulus = 4; height = 0 }) → ⊥
unfolding stack counted is_stacked rounded rounding up floor buffer is_live
seven_later (inl e) = omega arith
seven_later (inr h) = let e : 7 ≡ 0 = h.2 in omega arith

eight_by_no_modulus : IsBoundOf three (bound_at 8 0 0) → ⊥
eight_by_no_modulus (inl e) = omega arith
eight_by_no_modulus (inr h) = let k = h.0 in omega arith

-- ---- the least height
stack_at_start : stack_at three one 4 0 ≡ 7
unfolding highest_at heights stack counted is_stacked rounded rounding up floor buffer is_live
stack_at_start = refl

fours_at_start : stack_at fours one 4 0 ≡ 15
unfolding highest_at heights stack counted is_stacked rounded rounding up floor buffer is_live
fours_at_start = refl

fours_from : (H : ℕ) → stack fours 0 H 4 ≡ cond (nat_le H 8) (H + 7) 0
unfolding pile counted_buffers rounded_size floor buffer is_live
fours_from H = stack_is_pile fours 0 H 4 ∙ go (nat_le H 8)
  where
    go : (c : Bool) →
        (let bs = cond (true && c && true) (0 ∷ cond (true && c && true) (1 ∷ []) [])
        (cond (true && c && true) (1 ∷ []) []) in
        cond (is_empty bs) 0 (H + (sum_by (rounded_size fours 4) bs
        - greatest (map (λ b. rounded_size fours 4 b - (buffer fours b).size) bs)))) ≡ cond c (H + 7) 0
    go true = refl
    go false = refl

from_8_by_four : IsLeastHeight fours 0 4 15 8
unfolding heights floor
from_8_by_four = record {
  among = inr (inl refl);
  reached = fours_from 8;
  least = λ H e. least H (nat_le H 8) (sym (fours_from H) ∙ e);
}
  where
    least : (H : ℕ) (c : Bool) → cond c (H + 7) 0 ≡ 15 → 8 ≤ H
    least H true e = omega arith
    least H false e = omega arith

-- 4 is no floor
not_from_4 : IsLeastHeight fours 0 4 11 4 → ⊥
unfolding heights floor
not_from_4 h = go h.among
  where
    go : IsIn {X = ℕ} 4 (0 ∷ 8 ∷ 8 ∷ []) → ⊥
    go (inl e) = omega arith
    go (inr (inl e)) = omega arith
    go (inr (inr (inl e))) = omega arith
    go (inr (inr (inr i))) = absurd i

-- ---- the best of several: at 0 the three come to 8 by 1, and to 7 by 4
from_0 : (G value : ℕ) → stack three 0 0 G ≡ value → IsLeastHeight three 0 G value 0
from_0 G value e = record { among = zero_height three G; reached = e; least = λ H q. omega arith }

first_by_one : IsFirstToReach three one 1 1 (bound_at 8 1 0)
unfolding highest_at heights stack counted is_stacked rounded rounding up floor buffer is_live
first_by_one = record {
  place = 0;
  in_range = lit< tt;
  moment = refl;
  reached = refl;
  height = from_0 1 8 refl;
  first = λ s lt. absurd (omega arith);
}

first_by_four : IsFirstToReach three one 4 1 (bound_at 7 4 0)
unfolding highest_at heights stack counted is_stacked rounded rounding up floor buffer is_live
first_by_four = record {
  place = 0;
  in_range = lit< tt;
  moment = refl;
  reached = refl;
  height = from_0 4 7 refl;
  first = λ s lt. absurd (omega arith);
}

-- nothing comes to 7 at 0 by 1
not_seven_by_one : IsFirstToReach three one 1 1 (bound_at 7 1 0) → ⊥
unfolding highest_at heights stack counted is_stacked rounded rounding up floor buffer is_live
not_seven_by_one h = go h.place h.in_range h.reached
  where
    go : (p : ℕ) → p < 1 → stack_at three one 1 p ≡ 7 → ⊥
    go zero lt e = let k : 8 ≡ 7 = e in omega arith
    go (suc p) lt e = omega arith

most_by : (G s : ℕ) → IsIn G (1 ∷ 4 ∷ []) → s < 1 → stack_at three one G s ≤ 8
unfolding highest_at heights stack counted is_stacked rounded rounding up floor buffer is_live
most_by G zero (inl e) lt = rw e (lit≤ tt)
most_by G zero (inr (inl e)) lt = rw e (lit≤ tt)
most_by G zero (inr (inr i)) lt = absurd i
most_by G (suc s) i lt = absurd (omega arith)

raised : IsRaised three one 1 1 (bound_at 7 4 0) (bound_at 8 1 0)
raised = record { most = λ s lt. most_by 1 s (inl refl) lt; found = inr (lit< tt, refl, first_by_one) }

not_kept : IsRaised three one 1 1 (bound_at 7 4 0) (bound_at 7 4 0) → ⊥
unfolding highest_at heights stack counted is_stacked rounded rounding up floor buffer is_live
not_kept r = let k : 8 ≤ 7 = r.most 0 (lit< tt) in omega arith

best : IsBest three one (1 ∷ 4 ∷ []) (bound_at 8 1 0)
best = record { most = most_by; found = inr (lit< tt, inl refl, first_by_one); least = least }
  where
    least : (G s : ℕ) → IsIn G (1 ∷ 4 ∷ []) → G < 1 → s < 1 →
        (bound_at 8 1 0 ≡ no_bound) ⊎ (stack_at three one G s < 8)
    least G s (inl e) lt below = absurd (omega arith)
    least G s (inr (inl e)) lt below = absurd (omega arith)
    least G s (inr (inr i)) lt below = absurd i

not_best : IsBest three one (1 ∷ 4 ∷ []) (bound_at 7 4 0) → ⊥
unfolding highest_at heights stack counted is_stacked rounded rounding up floor buffer is_live
not_best b = let k : 8 ≤ 7 = b.most 1 0 (inl refl) (lit< tt) in omega arith
