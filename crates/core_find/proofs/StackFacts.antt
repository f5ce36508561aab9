-- Worked facts of stacks with fewer buffers, and of the members that a log is of.
use Rattle.std.proofs.Common.{◌≡◌, ◌<◌, ℕ, zero, suc, List, [], ◌∷◌, slice_get, slice_index, take, Some, None, inl, inr, refl, sym, ap, subst, lit<, lit≤, arith}
use Rattle.std.specs.Global.{Vec}
use Rattle.dsa_terms.specs.Buffers.{Instance, buffer, is_live}
use Rattle.dsa_terms.specs.Claims.{Claim, Entry, IsClaim, IsIn, buffers_of, up}
use Rattle.dsa_terms.specs.Logs.{is_stacked, Cases, claim_of, IsAccepted, IsLegal, IsOver, Line, Log, Over, rounded, rounding}
use Rattle.dsa_terms.proofs.Lists.{same_some}
use Rattle.dsa_terms.proofs.Ranges.{rises-range}
use Rattle.dsa_search_laws.proofs.Members.{whole_is_whole}
use Rattle.core_find.specs.Carried.{NeedsOnly, named}
use Rattle.core_find.specs.Cores.{AreAmong}
use Rattle.core_find.specs.Looking.{IsLogByFew, IsStackOver, members_before}
use Rattle.core_find.proofs.Some.{some_of_all}

-- two buffers of size 4 that are live together, and the line by which they do not fit at 3
abbrev pub two : Instance
two = record { lower = 0; upper = 1; size = 4; alignment = 1; gaps = []; lowest = 0 }
    ∷ record { lower = 0; upper = 1; size = 4; alignment = 1; gaps = []; lowest = 0 } ∷ []

abbrev pub both : Line
both = Over ((0, 0) ∷ (1, 0) ∷ []) 0 0 1

abbrev pub last : Claim
last = (1, 0) ∷ []

last_is_over : IsOver two 3 0 0 1 last
unfolding is_stacked is_live up buffer rounded rounding
last_is_over = record { modulus = lit≤ tt; from_multiple = refl; some_stacked = λ e. cc; too_high = lit< tt }

last_is_claim : IsClaim two last
last_is_claim = record { rises = (above, tt); in_range = ranges }
  where
    above : (y : ℕ) → IsIn y [] → 1 < y
    above y e = absurd e

    ranges : (e : Entry) → IsIn e last → e.0 < 2
    ranges e (inl h) = let k = ap (λ (f : Entry). f.0) h in omega arith
    ranges e (inr h) = absurd h

-- the second alone is too large
pub second_is_over : IsStackOver two 3 both (1 ∷ [])
unfolding buffer
second_is_over = record { claim = last_is_claim; not_empty = λ e. cc; reason = last_is_over }

-- it is not where 4 bytes are there
second_fits : IsOver two 4 0 0 1 last → ⊥
unfolding is_stacked is_live up buffer rounded rounding
second_fits h = let k : 4 < 4 = h.too_high in omega arith

second_is_not_over : IsStackOver two 4 both (1 ∷ []) → ⊥
unfolding buffer
second_is_not_over h = second_fits h.reason

pub none_is_over : IsStackOver two 3 both [] → ⊥
none_is_over h = h.not_empty refl

no_stack : IsStackOver two 3 (Cases ((1, 0) ∷ []) []) (1 ∷ []) → ⊥
no_stack h = h

-- ---- the log of the second alone
abbrev pub by_second : Log
by_second = record { count = 2; capacity = 3; lines = Over last 0 0 1 ∷ []; final = 0 }

pub second_is_accepted : IsAccepted two by_second
unfolding buffer
second_is_accepted = record {
  same_count = refl;
  legal = legal;
  whole = (Over last 0 0 1, refl, whole_is_whole two (1 ∷ []));
}
  where
    legal : (k : ℕ) (line : Line) → slice_get by_second.lines k ≡ Some line →
        IsLegal two 3 (take k by_second.lines) line
    legal zero line e = subst (λ (x : Line). IsLegal two 3 [] x) (same_some e) second_is_over
    legal (suc k) line e = absurd cc

names_second : IsLogByFew two 3 (1 ∷ []) by_second
names_second = record {
  accepted = second_is_accepted;
  capacity = refl;
  names = λ line e. ap (λ (x : Line). buffers_of (claim_of x)) (sym (same_some e));
}

does_not_name_first : IsLogByFew two 3 (0 ∷ []) by_second → ⊥
does_not_name_first h =
    let e : 1 ≡ 0 = ap (λ (ks : List ℕ). slice_index ks 0) (h.names (Over last 0 0 1) refl) in omega (arith, e)

-- it needs the second, and not the first
needs_second : NeedsOnly two (0 ∷ 1 ∷ []) (1 ∷ []) by_second
needs_second = record {
  rise = rises-range 2 0;
  accepted = subst (λ (J : Instance). IsAccepted J by_second) (sym (some_of_all two)) second_is_accepted;
  names = λ line e. subst (λ (x : Line). AreAmong (named (0 ∷ 1 ∷ []) (claim_of x)) (1 ∷ [])) (same_some e) (λ b i. i);
}

first_is_not_enough : NeedsOnly two (0 ∷ 1 ∷ []) (0 ∷ []) by_second → ⊥
first_is_not_enough h = elim (h.names (Over last 0 0 1) refl 1 (inl refl)) [
  | inl e ↦ omega (arith, e)
  | inr z ↦ absurd z
]

-- ---- the members that a log is of
still_there : members_before None (3 ∷ 5 ∷ []) ≡ 3 ∷ 5 ∷ []
still_there = refl

as_they_were : (v : Vec ℕ) → v.items ≡ 3 ∷ 5 ∷ 8 ∷ [] → members_before (Some v) (3 ∷ 5 ∷ []) ≡ 3 ∷ 5 ∷ 8 ∷ []
as_they_were v e = e
