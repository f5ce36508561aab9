-- What lines of the code stand for, the limits of their numbers, and what lines and logs keep.
use Rattle.std.proofs.Common.{◌≡◌, ℕ, zero, suc, ◌^◌, ◌<◌, ◌≤◌, inl, inr, [], ◌∷◌, map, slice_get, take, Some, All, refl, subst, arith}
use Rattle.dsa_terms.specs.Buffers.{is_live, buffer}
use Rattle.dsa_terms.specs.Claims.{Entry, IsIn, up}
use Rattle.dsa_terms.specs.Logs as terms
use Rattle.dsa_terms.specs.Logs.{is_stacked, rounded, rounding, IsLegal}
use Rattle.dsa_terms.proofs.Examples.{evens, over_2, case_12}
use Rattle.canonical_order.specs.Claims.{IsBoundedBy}
use Rattle.refute_log.specs.Lines.{cite_value, line_value, IsCiteWithin, IsWithin, IsLineKept}
use Rattle.refute_log.specs.Logs.{OpenLog, Belongs, IsKeptLog}
use Rattle.refute_log.specs.declared.line.Cite.TheVariants as cite
use Rattle.refute_log.specs.declared.line.Line.TheVariants as line

-- ---- the three cites, and the two lines: moment 5, height 3, modulus 2
three_cites :
    map cite_value (cite.Line 7 ∷ cite.Below 8 ∷ cite.Twin 9 ∷ [])
    ≡ terms.ByLine 7 ∷ terms.Below 8 ∷ terms.Twin 9 ∷ []
three_cites = refl

over_line : line_value (line.Over ((2, 4) ∷ []) 5 3 2) ≡ terms.Over ((2, 4) ∷ []) 5 3 2
over_line = refl

cases_line :
    line_value (line.Cases ((1, 1) ∷ (2, 1) ∷ []) (cite.Line 0 ∷ cite.Twin 1 ∷ []))
    ≡ terms.Cases ((1, 1) ∷ (2, 1) ∷ []) (terms.ByLine 0 ∷ terms.Twin 1 ∷ [])
cases_line = refl

-- ---- limits: 2 to the 60th for what a cite names, and a moment below 2 to the 62nd
cite_at_limit : IsCiteWithin (terms.ByLine 1152921504606846976)
cite_at_limit = omega arith

line_above_limit : IsCiteWithin (terms.ByLine 1152921504606846977) → ⊥
line_above_limit h = omega arith

below_above_limit : IsCiteWithin (terms.Below 1152921504606846977) → ⊥
below_above_limit h = omega arith

twin_above_limit : IsCiteWithin (terms.Twin 1152921504606846977) → ⊥
twin_above_limit h = omega arith

moment_at_limit : IsWithin (terms.Over [] 4611686018427387903 1152921504606846976 1152921504606846976)
moment_at_limit = ((λ e i. absurd i), omega arith, omega arith, omega arith)

moment_above_limit : IsWithin (terms.Over [] 4611686018427387904 0 1) → ⊥
moment_above_limit h = let k = h.1 in omega arith

-- ---- what a line keeps
over_kept : IsLineKept over_2
over_kept = record {
  within = (bounds, omega arith, omega arith, omega arith);
  buffers = buffers;
  rises = ((λ y i. absurd i), tt);
  not_empty = λ q. cc;
  cites = tt;
}
  where
    bounds : IsBoundedBy (2 ^ 60) ((2, 3) ∷ [])
    bounds e (inl q) = rw q (omega arith)
    bounds e (inr i) = absurd i

    buffers : (e : Entry) → IsIn e ((2, 3) ∷ []) → e.0 ≤ 2 ^ 60
    buffers e (inl q) = rw q (omega arith)
    buffers e (inr i) = absurd i

cases_kept : IsLineKept case_12
cases_kept = record {
  within = (bounds, within);
  buffers = buffers;
  rises = (after_1, ((λ y i. absurd i), tt));
  not_empty = λ q. cc;
  cites = refl;
}
  where
    bounds : IsBoundedBy (2 ^ 60) ((1, 1) ∷ (2, 1) ∷ [])
    bounds e (inl q) = rw q (omega arith)
    bounds e (inr (inl q)) = rw q (omega arith)
    bounds e (inr (inr i)) = absurd i

    within : All IsCiteWithin (terms.ByLine 0 ∷ terms.ByLine 1 ∷ [])
    within zero d lt = omega arith
    within (suc zero) d lt = omega arith
    within (suc (suc k)) d lt = absurd (omega arith)

    buffers : (e : Entry) → IsIn e ((1, 1) ∷ (2, 1) ∷ []) → e.0 ≤ 2 ^ 60
    buffers e (inl q) = rw q (omega arith)
    buffers e (inr (inl q)) = rw q (omega arith)
    buffers e (inr (inr i)) = absurd i

    after_1 : (y : ℕ) → IsIn y (2 ∷ []) → 1 < y
    after_1 y (inl q) = rw q (omega arith)
    after_1 y (inr i) = absurd i

-- a claim that is empty, one that falls, one cite for two buffers, and a buffer above the limit
empty_claim : IsLineKept (terms.Over [] 0 3 1) → ⊥
empty_claim k = k.not_empty refl

falling_claim : IsLineKept (terms.Over ((2, 3) ∷ (1, 0) ∷ []) 0 3 1) → ⊥
falling_claim k = let h = k.rises.0 1 (inl refl) in omega arith

one_cite : IsLineKept (terms.Cases ((1, 1) ∷ (2, 1) ∷ []) (terms.ByLine 0 ∷ [])) → ⊥
one_cite k = let h = k.cites in cc

buffer_above_limit : IsLineKept (terms.Over ((1152921504606846977, 3) ∷ []) 0 3 1) → ⊥
buffer_above_limit k = let h = k.buffers (1152921504606846977, 3) (inl refl) in omega arith

-- ---- what a log keeps: a capacity of at most 2 to the 60th, and lines that each keep that
log_kept : IsKeptLog 1152921504606846976 (over_2 ∷ case_12 ∷ [])
log_kept = record { capacity_limit = omega arith; each = each }
  where
    each : All IsLineKept (over_2 ∷ case_12 ∷ [])
    each zero d lt = over_kept
    each (suc zero) d lt = cases_kept
    each (suc (suc k)) d lt = absurd (omega arith)

capacity_above_limit : IsKeptLog 1152921504606846977 [] → ⊥
capacity_above_limit k = let h = k.capacity_limit in omega arith

second_not_kept : IsKeptLog 4 (over_2 ∷ terms.Over [] 0 3 1 ∷ []) → ⊥
second_not_kept k = empty_claim (k.each 1 over_2 (omega arith))

-- ---- a log that belongs to three buffers: size 2 at 3 or above ends above the capacity 4
open_log : ℕ → ℕ → OpenLog
open_log count capacity = record { count = count; capacity = capacity; lines = over_2 ∷ [] }

is_legal : IsLegal evens 4 [] over_2
unfolding is_stacked rounded rounding up is_live buffer
is_legal = record {
  claim = record { rises = ((λ y i. absurd i), tt); in_range = in_range };
  not_empty = λ q. cc;
  reason = record { modulus = omega arith; from_multiple = refl; some_stacked = λ q. cc; too_high = omega arith };
}
  where
    in_range : (e : Entry) → IsIn e ((2, 3) ∷ []) → e.0 < 3
    in_range e (inl q) = rw q (omega arith)
    in_range e (inr i) = absurd i

belongs : Belongs evens (open_log 3 4)
unfolding open_log
belongs = record { same_count = refl; legal = legal }
  where
    legal : (k : ℕ) (l : terms.Line) → slice_get (over_2 ∷ []) k ≡ Some l → IsLegal evens 4 (take k (over_2 ∷ [])) l
    legal zero l h = let e : over_2 ≡ l = cc in subst (IsLegal evens 4 []) e is_legal
    legal (suc k) l h = absurd cc

-- another count, and a capacity at which the line is not legal
other_count : Belongs evens (open_log 4 4) → ⊥
unfolding open_log
other_count b = let h = b.same_count in cc

other_capacity : Belongs evens (open_log 3 5) → ⊥
unfolding open_log is_stacked rounded rounding up is_live buffer
other_capacity b = let h = (b.legal 0 over_2 refl).reason.too_high in omega arith
