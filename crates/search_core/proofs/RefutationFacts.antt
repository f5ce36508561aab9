-- A log of one line by which a buffer of size 3 does not fit within 2.
use Rattle.std.proofs.Common.{◌≡◌, ◌<◌, ◌^◌, ℕ, zero, suc, true, List, [], ◌∷◌, slice_get, take, Some, inl, inr, refl, sym, subst, lit<, lit≤, arith}
use Rattle.search_core.proofs.Words.{Instance, IsInstance, IsLive, buffer, is_live, Covers, Entry, IsClaim, IsIn, IsWhole, up, IsLeanLine, IsLegal, Line, Log, Over, claim_of, is_stacked, rounded, rounding, are_parted, are_uncut, is_cut, searched, plain, searched_is_layout}
use Rattle.dsa_terms.specs.Layouts.{IsLayout}
use Rattle.dsa_search_laws.proofs.Logs.{accepted_is_infeasible}
use Rattle.branching.proofs.Computing.{computing_searched}
use Rattle.search_core.specs.Decisions.{IsRefutation, where_numbered}

abbrev pub lone : Instance
lone = plain 0 1 3 1 ∷ []

-- the buffer ends at 3 or above
abbrev pub from_zero : Line
from_zero = Over ((0, 0) ∷ []) 0 0 1

abbrev pub log_of : List Line → ℕ → Log
log_of lines capacity = record { count = 1; capacity = capacity; lines = lines; final = 0 }

pub found_at_3 : searched lone 3 ≡ Some (0 ∷ [])
unfolding computing_searched
found_at_3 = refl

lone_sound : IsInstance lone
lone_sound zero d lt = (lit≤ tt, lit≤ tt, lit< tt)
lone_sound (suc k) d lt = absurd (omega arith)

-- ---- the line
lone_is_claim : IsClaim lone ((0, 0) ∷ [])
lone_is_claim = record { rises = ((λ y i. absurd i), tt); in_range = in_range }
  where
    in_range : (e : Entry) → IsIn e ((0, 0) ∷ []) → e.0 < 1
    in_range e (inl q) = rw q (omega arith)
    in_range e (inr z) = absurd z

line_is_legal : (earlier : List Line) → IsLegal lone 2 earlier from_zero
unfolding is_stacked rounded rounding up is_live buffer
line_is_legal earlier = record {
  claim = lone_is_claim;
  not_empty = λ q. cc;
  reason = record {
    modulus = omega arith;
    from_multiple = refl;
    some_stacked = λ q. cc;
    too_high = omega arith;
  };
}

line_is_lean : (earlier : List Line) → IsLeanLine lone 2 earlier from_zero
unfolding is_live buffer
line_is_lean earlier = record { live = live; bounds = bounds; lowest = inl refl }
  where
    live : (e : Entry) → IsIn e ((0, 0) ∷ []) → IsLive (buffer lone e.0) 0
    live e (inl q) = rw q refl
    live e (inr z) = absurd z

    bounds : (e : Entry) → IsIn e ((0, 0) ∷ []) → e.1 ≡ 0
    bounds e (inl q) = rw q refl
    bounds e (inr z) = absurd z

-- ---- the log
-- the line at a place is the one, and so are its buffers
abbrev one : List Line
one = from_zero ∷ []

the_line : (k : ℕ) (line : Line) → slice_get one k ≡ Some line → from_zero ≡ line
the_line zero line at = cc
the_line (suc k) line at = absurd cc

-- no cut lies between the buffer's end and its beginning
uncut_itself : are_uncut lone 0 0 ≡ true
unfolding are_uncut are_parted is_cut buffer
uncut_itself = refl

the_buffer : (k : ℕ) (line : Line) (e : Entry) → slice_get one k ≡ Some line → IsIn e (claim_of line) → e.0 ≡ 0
the_buffer k line e at i = go (subst (λ (x : Line). IsIn e (claim_of x)) (sym (the_line k line at)) i)
  where
    go : IsIn e ((0, 0) ∷ []) → e.0 ≡ 0
    go (inl q) = rw q refl
    go (inr z) = absurd z

one_place : (j k : ℕ) (line : Line) → j < k → slice_get one k ≡ Some line → ⊥
one_place j zero line lt at = omega arith
one_place j (suc k) line lt at = cc

pub refuted_at_2 : IsRefutation lone 2 (log_of one 2)
refuted_at_2 = record {
  accepted = record {
    same_count = refl;
    legal = λ k line at. subst (IsLegal lone 2 (take k one)) (the_line k line at) (line_is_legal (take k one));
    whole = (from_zero, refl, whole);
  };
  capacity = refl;
  lean = record {
    uncovered = λ j k earlier line lt at_j at_k covers. one_place j k line lt at_k;
    lean = λ k line at. subst (IsLeanLine lone 2 (take k one)) (the_line k line at) (line_is_lean (take k one));
    one_part = λ j k other line e f at_j at_k i m.
        rw (the_buffer j other e at_j i, the_buffer k line f at_k m) uncut_itself;
  };
}
  where
    whole : IsWhole lone ((0, 0) ∷ [])
    whole e (inl q) = rw q (omega arith)
    whole e (inr z) = absurd z

-- it is a log at 2
not_at_1 : IsRefutation lone 1 (log_of one 2) → ⊥
not_at_1 h = let k = h.capacity in omega arith

-- at 3 there is a layout, and so no log
pub none_at_3 : (log : Log) → IsRefutation lone 3 log → ⊥
none_at_3 log h =
    accepted_is_infeasible lone log lone_sound h.accepted (0 ∷ [])
    (subst (λ C. IsLayout lone C (0 ∷ [])) (sym h.capacity) (searched_is_layout lone 3 (0 ∷ []) lone_sound found_at_3))

-- the second line is covered by the first
not_with_waste : IsRefutation lone 2 (log_of (from_zero ∷ from_zero ∷ []) 2) → ⊥
unfolding up buffer
not_with_waste h = h.lean.uncovered 0 1 from_zero from_zero (omega arith) refl refl covers
  where
    covers : Covers lone ((0, 0) ∷ []) ((0, 0) ∷ [])
    covers e (inl q) = ((0, 0), inl refl, rw q refl, rw q (omega arith))
    covers e (inr z) = absurd z

-- a log without lines has no end
not_without_lines : IsRefutation lone 2 (log_of [] 2) → ⊥
not_without_lines h = let e = h.accepted.whole.1 in absurd cc

-- ---- what is charged where there is a number
so_many : where_numbered 5 2 ≡ 2
so_many = refl

none_without_number : where_numbered (2 ^ 64) 2 ≡ 0
none_without_number = refl
