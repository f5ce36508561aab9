-- Logs of one line while a search grows them.
use Rattle.std.proofs.Common.{◌≡◌, ℕ, zero, suc, ◌<◌, List, [], ◌∷◌, slice_get, take, Some, inl, inr, refl, sym, subst, arith, ap}
use Rattle.branching.proofs.Words.{IsLive, buffer, is_live, Covers, Entry, IsIn, up, IsLeanLine, IsLegal, Line, Over, claim_of, is_stacked, rounded, rounding, small_below, same_some, OpenLog, HasBuffer}
use Rattle.claim_levels.proofs.LevelFacts.{differ}
use Rattle.branching.specs.Logs.{IsSearchLog, AreUncovered, Extends}
use Rattle.branching.proofs.OverFacts.{over, over_is_legal}

abbrev log_of : List Line → OpenLog
log_of lines = record { count = 2; capacity = 4; lines = lines }

-- one modulus lower it comes to the capacity
not_lower : (earlier : List Line) → IsLegal small_below 4 earlier (Over ((1, 3) ∷ []) 0 3 1) → ⊥
unfolding is_stacked rounded rounding up is_live buffer
not_lower earlier h = let k : 4 < 4 = h.reason.too_high in omega arith

over_is_lean : IsLeanLine small_below 4 [] over
unfolding is_live buffer
over_is_lean = record { live = live; bounds = bounds; lowest = inr (not_lower []) }
  where
    live : (e : Entry) → IsIn e ((1, 4) ∷ []) → IsLive (buffer small_below e.0) 0
    live e (inl q) = rw q refl
    live e (inr z) = absurd z

    bounds : (e : Entry) → IsIn e ((1, 4) ∷ []) → e.1 ≡ 4
    bounds e (inl q) = rw q refl
    bounds e (inr z) = absurd z

one_line : IsSearchLog small_below 4 (log_of (over ∷ []))
one_line = record {
  belongs = record { same_count = refl; legal = legal };
  capacity = refl;
  lean = lean;
  uncovered = uncovered;
}
  where
    legal : (k : ℕ) (line : Line) → slice_get (over ∷ []) k ≡ Some line →
        IsLegal small_below 4 (take k (over ∷ [])) line
    legal zero line at = subst (IsLegal small_below 4 []) (same_some at) (over_is_legal [])
    legal (suc k) line at = absurd cc

    lean : (k : ℕ) (line : Line) → slice_get (over ∷ []) k ≡ Some line →
        IsLeanLine small_below 4 (take k (over ∷ [])) line
    lean zero line at = subst (IsLeanLine small_below 4 []) (same_some at) over_is_lean
    lean (suc k) line at = absurd cc

    uncovered : (j k : ℕ) (earlier line : Line) → j < k → slice_get (over ∷ []) j ≡ Some earlier →
        slice_get (over ∷ []) k ≡ Some line → Covers small_below (claim_of earlier) (claim_of line) → ⊥
    uncovered j zero earlier line lt at_j at_k covers = omega arith
    uncovered j (suc k) earlier line lt at_j at_k covers = cc

no_lines : IsSearchLog small_below 4 (log_of [])
no_lines = record {
  belongs = record { same_count = refl; legal = λ k line at. absurd cc };
  capacity = refl;
  lean = λ k line at. absurd cc;
  uncovered = λ j k earlier line lt at_j at_k covers. absurd cc;
}

at_another_capacity : IsSearchLog small_below 5 (log_of (over ∷ [])) → ⊥
at_another_capacity h = let k = h.capacity in omega arith

-- the second line is covered by the first
the_same_twice : IsSearchLog small_below 4 (log_of (over ∷ over ∷ [])) → ⊥
unfolding up buffer
the_same_twice h = h.uncovered 0 1 over over (omega arith) refl refl covers
  where
    covers : Covers small_below ((1, 4) ∷ []) ((1, 4) ∷ [])
    covers e (inl q) = ((1, 4), inl refl, rw q refl, rw q (omega arith))
    covers e (inr z) = absurd z

-- a line of the bound 5 from height 5 on would do one lower
not_as_low_as_can_be : IsSearchLog small_below 4 (log_of (Over ((1, 5) ∷ []) 0 5 1 ∷ [])) → ⊥
not_as_low_as_can_be h = elim (h.lean 0 (Over ((1, 5) ∷ []) 0 5 1) refl).lowest [
  | inl q ↦ differ 0 5 (omega arith) (sym q)
  | inr f ↦ f (over_is_legal [])
]

-- ---- lines
abbrev tall : Line
tall = Over ((1, 3) ∷ []) 0 3 1

one_line_is_uncovered : AreUncovered small_below (tall ∷ [])
one_line_is_uncovered zero zero earlier line lt at_j at_k covers = absurd (omega arith)
one_line_is_uncovered zero (suc k) earlier line lt at_j at_k covers = absurd cc
one_line_is_uncovered (suc j) k earlier line lt at_j at_k covers = absurd cc

extends_by_one : Extends ((1, 1) ∷ []) [] (tall ∷ [])
extends_by_one = record { more = tall ∷ []; is = refl; among = among }
  where
    among : (line : Line) (e : Entry) → IsIn line (tall ∷ []) → IsIn e (claim_of line) → HasBuffer ((1, 1) ∷ []) e.0
    among line e (inl q) j = elim (subst (λ (x : Line). IsIn e (claim_of x)) q j)
        [ inl p ↦ inl (ap (λ (e : Entry). e.0) p) | inr z ↦ absurd z ]
    among line e (inr z) j = absurd z
