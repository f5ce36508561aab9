-- What reaches lower bounds of small instances: stacks, moments, heights, and starts of sections.
use Rattle.std.proofs.Common.{◌≡◌, ℕ, zero, suc, ◌<◌, inl, inr, true, false, [], ◌∷◌, map, sym, refl, ap, ◌∙◌, arith}
use Rattle.dsa_terms.specs.Buffers.{is_live, IsLive, buffer, floor}
use Rattle.dsa_terms.specs.Claims.{IsIn, up}
use Rattle.dsa_terms.specs.Bounds.{counted, stack, moduli, moments, highest_stack, lower_bound, bound_modulus, heights, highest_at, least_of}
use Rattle.dsa_terms.proofs.Examples.{two_of_four, overrun, low, lifted, high_fours, tied}
use Rattle.dsa_terms.specs.Logs.{is_stacked, rounded, rounding}
use Rattle.dsa_start_laws.specs.Reaching.{IsReached, bound_moment, bound_height, HasSections}

-- the first start of a section at which the bound is reached
overrun_moment : bound_moment overrun (0 ∷ 4 ∷ 6 ∷ 7 ∷ []) ≡ 6
unfolding bound_moment bound_modulus least_of lower_bound highest_stack highest_at heights floor stack counted
    is_stacked rounded rounding up moduli moments is_live buffer
overrun_moment = refl

none_moment : bound_moment [] [] ≡ 0
unfolding bound_moment bound_modulus least_of lower_bound highest_stack highest_at heights floor stack counted
    is_stacked rounded rounding up moduli moments
none_moment = refl

-- ---- what reaches a bound: two sizes of 3 by the modulus 4, which is an alignment, at moment 0
two_of_four_reached : IsReached two_of_four 7
unfolding moduli heights floor stack counted is_stacked rounded rounding up is_live buffer
two_of_four_reached = record {
  modulus = 4;
  moment = 0;
  height = 0;
  among = inr (inl refl);
  from = inl refl;
  reached = refl;
}

-- past the gap two sizes of 4 by the modulus 1
overrun_reached : IsReached overrun 8
unfolding moduli heights floor stack counted is_stacked rounded rounding up is_live buffer
overrun_reached = record {
  modulus = 1;
  moment = 6;
  height = 0;
  among = inl refl;
  from = inl refl;
  reached = refl;
}

-- no buffers have no stack
none_reaches_1 : IsReached [] 1 → ⊥
unfolding stack counted is_stacked rounded rounding up
none_reaches_1 r = let h = r.reached in cc

-- ---- sections: both are live at 6, and at each of 0 and 4 one of them alone
overrun_sections : HasSections overrun (6 ∷ [])
unfolding is_live buffer
overrun_sections t b lt live = (6, inl refl, λ c below live. at_6 c below)
  where
    at_6 : (c : ℕ) → c < 2 → IsLive (buffer overrun c) 6
    at_6 zero lt = refl
    at_6 (suc zero) lt = refl
    at_6 (suc (suc c)) lt = absurd (omega arith)

overrun_missed : HasSections overrun (0 ∷ 4 ∷ []) → ⊥
unfolding is_live buffer
overrun_missed h = close (h 6 0 (omega arith) refl)
  where
    close :
        (s : ℕ) × IsIn s (0 ∷ 4 ∷ []) × ((c : ℕ) → c < 2 → IsLive (buffer overrun c) 6 → IsLive (buffer overrun c) s)
        → ⊥
    close (s, inl q, all) =
        let k : false ≡ true = ap (is_live (buffer overrun 1)) (sym q) ∙ all 1 (omega arith) refl in cc
    close (s, inr (inl q), all) =
        let k : false ≡ true = ap (is_live (buffer overrun 0)) (sym q) ∙ all 0 (omega arith) refl in cc
    close (s, inr (inr i), all) = i

low_reaching : bound_modulus low ∷ bound_moment low (0 ∷ []) ∷ bound_height low (0 ∷ []) ∷ [] ≡ 1 ∷ 0 ∷ 6 ∷ []
unfolding bound_height bound_moment bound_modulus least_of lower_bound highest_stack highest_at heights floor stack
    counted is_stacked rounded rounding up moduli moments is_live buffer
low_reaching = refl

lifted_reaching :
    bound_modulus lifted ∷ bound_moment lifted (0 ∷ []) ∷ bound_height lifted (0 ∷ []) ∷ [] ≡ 1 ∷ 0 ∷ 0 ∷ []
unfolding bound_height bound_moment bound_modulus least_of lower_bound highest_stack highest_at heights floor stack
    counted is_stacked rounded rounding up moduli moments is_live buffer
lifted_reaching = refl

fours_reaching :
    lower_bound high_fours ∷ bound_modulus high_fours ∷ bound_moment high_fours (0 ∷ 1 ∷ [])
    ∷ bound_height high_fours (0 ∷ 1 ∷ []) ∷ [] ≡ 15 ∷ 4 ∷ 0 ∷ 8 ∷ []
unfolding bound_height bound_moment bound_modulus least_of lower_bound highest_stack highest_at heights floor stack
    counted is_stacked rounded rounding up moduli moments is_live buffer
fours_reaching = refl

-- ---- two heights that reach the bound: the least one is the bound's, and its line counts both
tied_reaching :
    lower_bound tied ∷ bound_height tied (0 ∷ []) ∷ map (λ H. stack tied 0 H 1) (0 ∷ 4 ∷ []) ≡ 8 ∷ 0 ∷ 8 ∷ 8 ∷ []
unfolding bound_height bound_moment bound_modulus least_of lower_bound highest_stack highest_at heights floor stack
    counted is_stacked rounded rounding up moduli moments is_live buffer
tied_reaching = refl
