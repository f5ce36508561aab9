-- Lines of a text, narrowed and taken.
use Rattle.std.proofs.Common.{◌≡◌, ◌<◌, ℕ, zero, suc, inl, inr, [], ◌∷◌, length, slice_get, take, Some, None, refl, ap, subst, lit<, lit≤, arith}
use Rattle.dsa_terms.specs.Buffers.{buffer, is_live}
use Rattle.dsa_terms.specs.Claims.{Entry, IsIn, up}
use Rattle.dsa_terms.specs.Logs.{IsLegal, Line, is_stacked, rounded, rounding}
use Rattle.dsa_terms.proofs.Examples.{evens, over_1, over_2}
use Rattle.refute_log.specs.Logs.{Belongs, OpenLog}
use Rattle.refute_log.specs.declared.reason.Reason.TheVariants as reason
use Rattle.log_text.specs.declared.raw.RawLine.{RawLine}
use Rattle.log_text.specs.declared.raw.RawLine.TheVariants as raw
use Rattle.log_check.specs.declared.fault.CheckFault.TheVariants as fault
use Rattle.log_check.specs.Narrowing.{IsNarrowed}
use Rattle.log_check.specs.Faults.{illegal_at}
use Rattle.log_check.specs.Taking.{IsTaken}

-- a line that is legal, and one that is not
abbrev good : RawLine
good = raw.Over 0 3 1 ((2, 3) ∷ [])

abbrev bad : RawLine
bad = raw.Over 0 3 0 ((2, 3) ∷ [])

-- ---- narrowed
good_narrowed : IsNarrowed evens good over_2
good_narrowed = record { shape = refl; is_made = refl; few = lit≤ tt }

another_line : IsNarrowed evens good over_1 → ⊥
another_line h = let e = h.is_made in cc

-- there is no buffer 3
out_of_range : (made : Line) → IsNarrowed evens (raw.Over 0 3 1 ((3, 3) ∷ [])) made → ⊥
out_of_range made h = let e : Some (reason.BufferRange 3) ≡ None = h.shape in cc

-- ---- taken
bad_at_1 : illegal_at evens 4 (good ∷ bad ∷ []) 1 ≡ Some (fault.Illegal 1 reason.ZeroModulus)
bad_at_1 = refl

good_at_0 : illegal_at evens 4 (good ∷ bad ∷ []) 0 ≡ None
unfolding is_stacked rounded rounding up is_live buffer
good_at_0 = refl

abbrev one_line : OpenLog
one_line = record { count = 3; capacity = 4; lines = over_2 ∷ [] }

is_legal : IsLegal evens 4 [] over_2
unfolding is_stacked rounded rounding up is_live buffer
is_legal = record {
  claim = record { rises = ((λ y i. absurd i), tt); in_range = in_range };
  not_empty = λ q. cc;
  reason = record { modulus = omega arith; from_multiple = refl; some_stacked = λ q. cc; too_high = omega arith };
}
  where
    in_range : (e : Entry) → IsIn e ((2, 3) ∷ []) → e.0 < 3
    in_range e (inl q) = rw q (omega arith)
    in_range e (inr i) = absurd i

belongs : Belongs evens one_line
belongs = record { same_count = refl; legal = legal }
  where
    legal : (k : ℕ) (l : Line) → slice_get (over_2 ∷ []) k ≡ Some l → IsLegal evens 4 (take k (over_2 ∷ [])) l
    legal zero l h = let e : over_2 ≡ l = cc in subst (IsLegal evens 4 []) e is_legal
    legal (suc k) l h = absurd cc

first_taken : IsTaken evens 4 (good ∷ bad ∷ []) 1 one_line
unfolding is_stacked rounded rounding up is_live buffer
first_taken = record { left = refl; taken = refl; text = refl; belongs = belongs }

-- a line that is not legal can't be taken
bad_taken : (log : OpenLog) → IsTaken evens 4 (bad ∷ []) 1 log → ⊥
bad_taken log t = let e : Some (fault.Illegal 0 reason.ZeroModulus) ≡ None = t.left in cc

apart : (m n : ℕ) → n < m → m ≡ n → ⊥
apart m n lt e = omega arith

-- nor is a line that is not yet in the log
not_in_log : IsTaken evens 4 (good ∷ []) 0 one_line → ⊥
not_in_log t = apart 1 0 (lit< tt) (ap (λ (log : OpenLog). length log.lines) t.taken)
