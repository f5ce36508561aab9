-- Answers of a decider for two buffers of size 3 aligned to four, which fit into 7; and the steps of halving.
use Rattle.std.proofs.Common.{◌≡◌, ℕ, zero, suc, ◌+◌, ◌*◌, ◌<◌, inl, inr, [], ◌∷◌, slice_get, take, cond, nat_le, Some, None, refl, subst, lit≤, lit<, arith}
use Rattle.dsa_terms.specs.Buffers.{IsInstance, is_live, buffer, floor}
use Rattle.dsa_terms.specs.Claims.{Entry, Claim, IsIn, IsWhole, up}
use Rattle.dsa_terms.specs.Layouts.{IsLayout}
use Rattle.dsa_terms.specs.Logs.{is_stacked, rounded, rounding, Over, Line, IsLegal, IsAccepted, Log}
use Rattle.dsa_terms.specs.Plans.{layout_height}
use Rattle.dsa_terms.proofs.Examples.{two_of_four}
use Rattle.dsa_model.specs.LayoutFaults.{first_unaligned, first_too_low, first_above, first_overlap, overlap_after, overlap}
use Rattle.dsa_model.proofs.LayoutFaults.{layout_exactly}
use Rattle.refute_log.specs.Answers.{Offsets, Refutation, NoAnswer}
use Rattle.refute_log.specs.Decided.{answer_of, IsRight, Settles, TurnsOut, IfSpent}
use Rattle.refute_log.specs.Logs.{ended}
use Rattle.refute_log.specs.Halvings.{after_turn, halving_within}
use Rattle.refute_log.proofs.Settling.{right_settles}
use Rattle.refute_log.specs.declared.decided.Decided.{Decided}
use Rattle.refute_log.specs.declared.decided.Decided.TheVariants.{Layout, Refuted, Spent}

-- ---- a layout at 0 and 4, and a log at 6 of one line: both at 0 or above, rounded up to 4, less one rounding
seats : IsLayout two_of_four 7 (0 ∷ 4 ∷ [])
unfolding first_unaligned first_too_low first_above first_overlap overlap_after overlap buffer
seats = (layout_exactly two_of_four 7 (0 ∷ 4 ∷ [])).0 refl

abbrev both : Claim
both = (0, 0) ∷ (1, 0) ∷ []

abbrev six : Log
six = record { count = 2; capacity = 6; lines = Over both 0 0 4 ∷ []; final = 0 }

six_accepted : IsAccepted two_of_four six
unfolding is_stacked rounded rounding up is_live buffer floor
six_accepted = record { same_count = refl; legal = legal; whole = (Over both 0 0 4, refl, whole) }
  where
    after_0 : (y : ℕ) → IsIn y (1 ∷ []) → 0 < y
    after_0 y (inl q) = rw q (omega arith)
    after_0 y (inr i) = absurd i

    in_range : (e : Entry) → IsIn e both → e.0 < 2
    in_range e (inl q) = rw q (omega arith)
    in_range e (inr (inl q)) = rw q (omega arith)
    in_range e (inr (inr i)) = absurd i

    is_legal : IsLegal two_of_four 6 [] (Over both 0 0 4)
    is_legal = record {
      claim = record { rises = (after_0, ((λ y i. absurd i), tt)); in_range = in_range };
      not_empty = λ q. cc;
      reason = record { modulus = omega arith; from_multiple = refl; some_stacked = λ q. cc; too_high = omega arith };
    }

    legal : (k : ℕ) (line : Line) → slice_get six.lines k ≡ Some line → IsLegal two_of_four 6 (take k six.lines) line
    legal zero line h = let e : Over both 0 0 4 ≡ line = cc in subst (IsLegal two_of_four 6 []) e is_legal
    legal (suc k) line h = absurd cc

    whole : IsWhole two_of_four both
    whole e (inl q) = rw q (omega arith)
    whole e (inr (inl q)) = rw q (omega arith)
    whole e (inr (inr i)) = absurd i

is_six : ended (record { count = 2; capacity = 6; lines = Over both 0 0 4 ∷ [] }) 0 ≡ six
is_six = refl

-- ---- answers as values
log_answer : answer_of (Refuted six) ≡ Refutation six
log_answer = refl

spent_answer : answer_of Spent ≡ NoAnswer
spent_answer = refl

-- ---- right answers: the layout at 7 and not at 6, the log at 6 and not at 5, and Spent always
seats_are_right : (d : Decided) → answer_of d ≡ Offsets (0 ∷ 4 ∷ []) → IsRight two_of_four 7 d
seats_are_right (Layout offsets) e = let q : offsets.items ≡ 0 ∷ 4 ∷ [] = cc in rw q seats
seats_are_right (Refuted log) e = absurd cc
seats_are_right Spent e = absurd cc

seats_at_6 : (d : Decided) → answer_of d ≡ Offsets (0 ∷ 4 ∷ []) → IsRight two_of_four 6 d → ⊥
unfolding buffer
seats_at_6 (Layout offsets) e r =
    let q : offsets.items ≡ 0 ∷ 4 ∷ [] = cc in
    let l : IsLayout two_of_four 6 (0 ∷ 4 ∷ []) = subst (IsLayout two_of_four 6) q r in
    let h = l.within 1 (omega arith) in
    omega arith
seats_at_6 (Refuted log) e r = cc
seats_at_6 Spent e r = cc

log_is_right : IsRight two_of_four 6 (Refuted six)
log_is_right = (six_accepted, refl)

log_at_5 : IsRight two_of_four 5 (Refuted six) → ⊥
log_at_5 r = let h = r.1 in cc

spent_is_right : IsRight two_of_four 5 Spent
spent_is_right = tt

-- ---- a log settles 6, where none fits, and not 7; Spent settles nothing
log_settles : Settles two_of_four 6 (Refuted six)
log_settles = right_settles two_of_four 6 (Refuted six) sound log_is_right
  where
    sound : IsInstance two_of_four
    sound zero d lt = (lit≤ tt, lit≤ tt, lit< tt)
    sound (suc zero) d lt = (lit≤ tt, lit≤ tt, lit< tt)
    sound (suc (suc k)) d lt = absurd (omega arith)

log_at_7 : Settles two_of_four 7 (Refuted six) → ⊥
log_at_7 none = none (0 ∷ 4 ∷ []) seats

spent_settles : Settles two_of_four 6 Spent
spent_settles = tt

-- ---- as said: the layout has height 7, and a log comes where no height is said
seats_turn_out : (d : Decided) → answer_of d ≡ Offsets (0 ∷ 4 ∷ []) → TurnsOut two_of_four (Some 7) d
unfolding layout_height buffer
seats_turn_out (Layout offsets) e = let q : offsets.items ≡ 0 ∷ 4 ∷ [] = cc in rw q refl
seats_turn_out (Refuted log) e = absurd cc
seats_turn_out Spent e = absurd cc

log_turns_out : TurnsOut two_of_four None (Refuted six)
log_turns_out = refl

log_against_height : TurnsOut two_of_four (Some 7) (Refuted six) → ⊥
log_against_height h = cc

spent_turns_out : TurnsOut two_of_four (Some 7) Spent
spent_turns_out = tt

-- ---- what is said of Spent alone
log_is_not_spent : IfSpent (Refuted six) ⊥
log_is_not_spent = tt

spent_is : IfSpent Spent (2 < 3)
spent_is = omega arith

spent_is_not : IfSpent Spent ⊥ → ⊥
spent_is_not h = h

-- ---- halving 4..9 after its middle 6: on to 7..9 without a height, else to 4 and that height, or 6 if it is above
turn_of_none : after_turn (λ a b. 10 * a + b) 4 9 6 None ≡ 79
turn_of_none = refl

turn_of_5 : after_turn (λ a b. 10 * a + b) 4 9 6 (Some 5) ≡ 45
turn_of_5 = refl

turn_of_8 : after_turn (λ a b. 10 * a + b) 4 9 6 (Some 8) ≡ 46
turn_of_8 = refl

-- where a capacity takes its own number of units: 6, and then 8 and 7, as 7 is the least
up_to_seven : halving_within 5 (λ C. C) (λ C. cond (nat_le 7 C) (Some C) None) 4 9 ≡ 21
up_to_seven = refl

-- a bracket that has met, and a halving of length 0
has_met : halving_within 5 (λ C. C) (λ C. None) 9 9 ≡ 0
has_met = refl

of_length_0 : halving_within 0 (λ C. C) (λ C. None) 4 9 ≡ 0
of_length_0 = refl
