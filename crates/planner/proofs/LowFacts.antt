-- Two buffers of size 4, of which the first may not be below 6: the bound is 10, from the height 6 on, and its log.
use Rattle.std.proofs.Common.{◌≡◌, ℕ, ◌≤◌, inl, inr, [], ◌∷◌, refl, subst, lit≤, arith}
use Rattle.dsa_terms.specs.Bounds.{bound_modulus, counted, heights, highest_at, highest_stack, least_of, line_height, lower_bound, moduli, moments, stack, stack_line, stack_log}
use Rattle.dsa_terms.specs.Buffers.{buffer, floor, is_live}
use Rattle.dsa_terms.specs.Claims.{IsIn, up}
use Rattle.dsa_terms.specs.Logs.{Over, is_stacked, rounded, rounding}
use Rattle.dsa_terms.proofs.Examples.{low, tied}
use Rattle.lower_bounds.specs.declared.value.Bound.{Bound}
use Rattle.lower_bounds.proofs.MomentFacts.{low_moment}
use Rattle.planner.specs.Decides.{IsBoundLog}
use Rattle.planner.specs.FirstBracket.{IsLowerBound}

abbrev ten_from : ℕ → Bound
ten_from height = record { capacity = 10; moment = 0; modulus = 1; height = height }

-- from 0 on the sizes come to 8
no_lower : (H : ℕ) → IsIn H (heights low 1) → stack low 0 H 1 ≡ 10 → 6 ≤ H
unfolding heights floor stack counted is_stacked rounded rounding up is_live buffer
no_lower H (inl e) h = let z = subst (λ k. stack low 0 k 1 ≡ 10) e h in omega (arith, z)
no_lower H (inr (inl e)) h = omega (arith, e)
no_lower H (inr (inr (inl e))) h = let z = subst (λ k. stack low 0 k 1 ≡ 10) e h in omega (arith, z)
no_lower H (inr (inr (inr i))) h = absurd i

ten_from_six : IsLowerBound low (ten_from 6)
unfolding bound_modulus least_of lower_bound highest_stack highest_at heights floor stack counted is_stacked rounded
    rounding up moduli moments is_live buffer
ten_from_six = record {
  capacity = refl;
  modulus = refl;
  moment = λ some. low_moment;
  reached = inr (lit≤ tt, refl, refl);
  from = λ some. inr (inl refl);
  least = no_lower;
}

ten_from_zero : IsLowerBound low (ten_from 0) → ⊥
unfolding stack counted is_stacked rounded rounding up floor is_live buffer
ten_from_zero h = elim h.reached [
  | inl e ↦ omega (arith, e)
  | inr r ↦ let e = r.2 in omega (arith, e)
]

-- two of which one just fits below the other come to 8 from 0 on and from 4 on, and the bound has the lower height
eight_from_four : IsLowerBound tied (record { capacity = 8; moment = 0; modulus = 1; height = 4 }) → ⊥
unfolding heights floor stack counted is_stacked rounded rounding up is_live buffer
eight_from_four h = let k : 4 ≤ 0 = h.least 0 (inl refl) refl in omega arith

-- the first buffer alone, from 6 on, is too much for 9
low_log : IsBoundLog low 9 (record { count = 2; capacity = 9; lines = Over ((0, 6) ∷ []) 0 6 1 ∷ []; final = 0 })
unfolding bound_modulus least_of lower_bound highest_stack highest_at heights floor stack counted is_stacked rounded
    rounding up moduli moments is_live buffer stack_log stack_line line_height
low_log = record {
  moment = 0;
  height = 6;
  its_moment = low_moment;
  from = inr (inl refl);
  reached = refl;
  least = no_lower;
  one_line = refl;
}
