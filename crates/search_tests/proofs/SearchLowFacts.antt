-- What the search answers where buffers have a lowest: layouts, and a log whose end has a bound above it.
use Rattle.std.proofs.Common.{◌≡◌, ℕ, zero, suc, true, [], ◌∷◌, slice_get, take, Some, None, inl, inr, refl, sym, subst, arith}
use Rattle.search_core.proofs.Words.{Instance, IsLive, buffer, floor, is_live, Entry, IsIn, IsWhole, up, IsLeanLine, IsLegal, Line, Log, Over, claim_of, is_stacked, rounded, rounding, are_parted, are_uncut, is_cut, searched, whole, lifted, low, raised}
use Rattle.dsa_search_laws.proofs.LineTests.{do_rise, has_reason, is_claim, is_legal, is_over, legal}
use Rattle.refute_log.specs.Answers.{Offsets}
use Rattle.branching.proofs.Computing.{computing_searched}
use Rattle.search_core.specs.Decisions.{IsGiven, IsRefutation, turn_of}

-- ---- size 3 from 1 on stands on size 2, so both fit into 5 and not into 4
three_on_two : IsGiven lifted 5 (Offsets (2 ∷ 0 ∷ []))
unfolding computing_searched
three_on_two = refl

none_below_five : turn_of lifted 4 ≡ None
unfolding computing_searched
none_below_five = refl

-- ---- size 4 from 6 on ends at 10, and leaves room below it
at_six_and_zero : IsGiven low 10 (Offsets (6 ∷ 0 ∷ []))
unfolding computing_searched
at_six_and_zero = refl

none_below_ten : turn_of low 9 ≡ None
unfolding computing_searched
none_below_ten = refl

-- ---- size 3 aligned to four from 5 on starts at 8, and so ends above 10
abbrev aligned : Instance
aligned = raised 3 4 5 1 ∷ []

begins_at_5 : whole aligned (0 ∷ []) ≡ (0, 5) ∷ []
unfolding buffer
begins_at_5 = refl

abbrev from_8 : Line
from_8 = Over ((0, 8) ∷ []) 0 8 1

line_passes : is_legal aligned 10 [] from_8 ≡ true
unfolding is_legal has_reason is_over is_claim do_rise is_stacked rounded rounding up is_live buffer
line_passes = refl

line_is_lean : IsLeanLine aligned 10 [] from_8
unfolding is_stacked rounded rounding up is_live buffer
line_is_lean = record { live = live; bounds = bounds; lowest = inr (λ h. let k = h.reason.too_high in omega arith) }
  where
    live : (e : Entry) → IsIn e ((0, 8) ∷ []) → IsLive (buffer aligned e.0) 0
    live e (inl q) = rw q refl
    live e (inr z) = absurd z

    bounds : (e : Entry) → IsIn e ((0, 8) ∷ []) → e.1 ≡ 8
    bounds e (inl q) = rw q refl
    bounds e (inr z) = absurd z

-- the line is the only one
only_line : (k : ℕ) (line : Line) → slice_get (from_8 ∷ []) k ≡ Some line → (k ≡ 0) × (from_8 ≡ line)
only_line zero line at = (refl, cc)
only_line (suc k) line at = absurd cc

-- no cut lies between the buffer's end and its beginning
uncut_itself : are_uncut aligned 0 0 ≡ true
unfolding are_uncut are_parted is_cut buffer
uncut_itself = refl

only_buffer : (k : ℕ) (line : Line) (e : Entry) → slice_get (from_8 ∷ []) k ≡ Some line → IsIn e (claim_of line) →
    e.0 ≡ 0
only_buffer k line e at i = go (subst (λ (x : Line). IsIn e (claim_of x)) (sym (only_line k line at).1) i)
  where
    go : IsIn e ((0, 8) ∷ []) → e.0 ≡ 0
    go (inl q) = rw q refl
    go (inr z) = absurd z

-- its bound is the floor, above the lowest
floor_is_whole : IsWhole aligned ((0, 8) ∷ [])
unfolding buffer floor
floor_is_whole e (inl q) = rw q (omega arith)
floor_is_whole e (inr z) = absurd z

abbrev refutation : Log
refutation = record { count = 1; capacity = 10; lines = from_8 ∷ []; final = 0 }

refuted_at_10 : IsRefutation aligned 10 refutation
refuted_at_10 = record {
  accepted = record {
    same_count = refl;
    legal = λ k line at. first_legal k line (only_line k line at);
    whole = (from_8, refl, floor_is_whole);
  };
  capacity = refl;
  lean = record {
    uncovered = λ j k earlier line lt at_j at_k covers. let e = (only_line k line at_k).0 in omega arith;
    lean = λ k line at. first_lean k line (only_line k line at);
    one_part = λ j k other line e f at_j at_k i m.
        rw (only_buffer j other e at_j i, only_buffer k line f at_k m) uncut_itself;
  };
}
  where
    first_legal : (k : ℕ) (line : Line) → (k ≡ 0) × (from_8 ≡ line) → IsLegal aligned 10 (take k (from_8 ∷ [])) line
    first_legal k line (e, q) = rw (e, ← q) (legal aligned 10 [] from_8 line_passes)

    first_lean : (k : ℕ) (line : Line) → (k ≡ 0) × (from_8 ≡ line) →
        IsLeanLine aligned 10 (take k (from_8 ∷ [])) line
    first_lean k line (e, q) = rw (e, ← q) line_is_lean

-- within 11 it stands at the floor
at_the_floor : searched aligned 11 ≡ Some (8 ∷ [])
unfolding computing_searched
at_the_floor = refl
