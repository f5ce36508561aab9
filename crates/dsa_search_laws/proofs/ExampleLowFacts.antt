-- Logs of an instance with a lowest: one that ends at the floor is accepted, and one above it is not.
use Rattle.std.proofs.Common.{◌≡◌, ℕ, zero, suc, true, [], ◌∷◌, slice_get, take, Some, inl, inr, refl, subst, sym, arith}
use Rattle.dsa_terms.specs.Buffers.{Instance, is_live, buffer, floor}
use Rattle.dsa_terms.specs.Claims.{up, IsWhole}
use Rattle.dsa_terms.specs.Logs.{is_stacked, rounded, rounding, Line, Over, claim_of, Log, IsLegal, IsAccepted}
use Rattle.dsa_terms.proofs.Examples.{low, lifted}
use Rattle.dsa_search_laws.proofs.LineTests.{do_rise, is_claim, is_over, has_reason, is_legal, legal}

-- a log of one line
abbrev of_one : ℕ → Line → Log
of_one C line = record { count = 2; capacity = C; lines = line ∷ []; final = 0 }

one_line : (I : Instance) (C : ℕ) (line : Line) → is_legal I C [] line ≡ true → (k : ℕ) (found : Line) →
    slice_get (line ∷ []) k ≡ Some found → IsLegal I C (take k (line ∷ [])) found
one_line I C line t zero found h = let e : line ≡ found = cc in rw (← e) (legal I C [] line t)
one_line I C line t (suc k) found h = absurd cc

-- ---- size 4 from 6 on ends above 9, and from 7 on too
abbrev from_6 : Line
from_6 = Over ((0, 6) ∷ []) 0 6 1

abbrev from_7 : Line
from_7 = Over ((0, 7) ∷ []) 0 7 1

from_6_passes : is_legal low 9 [] from_6 ≡ true
unfolding is_legal has_reason is_over is_claim do_rise is_stacked rounded rounding up is_live buffer
from_6_passes = refl

from_7_passes : is_legal low 9 [] from_7 ≡ true
unfolding is_legal has_reason is_over is_claim do_rise is_stacked rounded rounding up is_live buffer
from_7_passes = refl

-- the bound 6 is the floor of the buffer
six_is_whole : IsWhole low (claim_of from_6)
unfolding buffer floor
six_is_whole e (inl q) = rw q (omega arith)
six_is_whole e (inr i) = absurd i

six_is_accepted : IsAccepted low (of_one 9 from_6)
six_is_accepted = record {
  same_count = refl;
  legal = one_line low 9 from_6 from_6_passes;
  whole = (from_6, refl, six_is_whole);
}

-- but 7 is above it
seven_is_not_whole : IsWhole low (claim_of from_7) → ⊥
unfolding buffer floor
seven_is_not_whole w = let h = w (0, 7) (inl refl) in omega arith

seven_is_not_accepted : IsAccepted low (of_one 9 from_7) → ⊥
seven_is_not_accepted h =
    seven_is_not_whole (subst (λ (line : Line). IsWhole low (claim_of line)) (sym (same h.whole.0 h.whole.1)) h.whole.2)
  where
    same : (line : Line) → slice_get (from_7 ∷ []) 0 ≡ Some line → from_7 ≡ line
    same line q = cc

-- ---- a bound below the floor is whole too: at 5 the least height with which the line is legal is 2
from_2_passes : is_legal low 5 [] (Over ((0, 2) ∷ []) 0 2 1) ≡ true
unfolding is_legal has_reason is_over is_claim do_rise is_stacked rounded rounding up is_live buffer
from_2_passes = refl

two_is_whole : IsWhole low ((0, 2) ∷ [])
unfolding buffer floor
two_is_whole e (inl q) = rw q (omega arith)
two_is_whole e (inr i) = absurd i

two_is_accepted : IsAccepted low (of_one 5 (Over ((0, 2) ∷ []) 0 2 1))
two_is_accepted = record {
  same_count = refl;
  legal = one_line low 5 (Over ((0, 2) ∷ []) 0 2 1) from_2_passes;
  whole = (Over ((0, 2) ∷ []) 0 2 1, refl, two_is_whole);
}

-- ---- sizes 3 and 2 from 0 on are above 4, though the first may not stand at 0
both_pass : is_legal lifted 4 [] (Over ((0, 0) ∷ (1, 0) ∷ []) 0 0 1) ≡ true
unfolding is_legal has_reason is_over is_claim do_rise is_stacked rounded rounding up is_live buffer
both_pass = refl

both_are_whole : IsWhole lifted ((0, 0) ∷ (1, 0) ∷ [])
unfolding buffer floor
both_are_whole e (inl q) = rw q (omega arith)
both_are_whole e (inr (inl q)) = rw q (omega arith)
both_are_whole e (inr (inr i)) = absurd i

both_are_accepted : IsAccepted lifted (of_one 4 (Over ((0, 0) ∷ (1, 0) ∷ []) 0 0 1))
both_are_accepted = record {
  same_count = refl;
  legal = one_line lifted 4 (Over ((0, 0) ∷ (1, 0) ∷ []) 0 0 1) both_pass;
  whole = (Over ((0, 0) ∷ (1, 0) ∷ []) 0 0 1, refl, both_are_whole);
}
