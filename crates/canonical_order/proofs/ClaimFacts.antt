-- Places, bounds, tests and covers of small claims, and what a claim of the code keeps.
use Rattle.std.proofs.Common.{◌≡◌, ◌^◌, ℕ, zero, suc, ◌<◌, ◌≤◌, ◌≢◌, inl, inr, Bool, true, false, nat_le, [], ◌∷◌, Some, None, All, refl, ap, sym, subst, ◌∙◌, lit≤, arith}
use Rattle.dsa_terms.specs.Buffers.{Buffer, Instance, is_live, buffer, some_before}
use Rattle.dsa_terms.specs.Claims.{Entry, Claim, IsIn, up}
use Rattle.dsa_model.specs.Buffer.{IsBuffer, is_ever_live}
use Rattle.dsa_model.proofs.Faults.{is_buffer}
use Rattle.canonical_order.specs.Claims.{HasBuffer, IsAt, IsBoundedBy, Passes, IsLeastNumber, IsLeastOf, NonePassBelow, CoversEntry, CoversFirst, IsKeptClaim}
use Rattle.canonical_order.specs.Stands.{Stands}

abbrev plain : ℕ → ℕ → ℕ → ℕ → Buffer
plain lower upper size alignment = record {
  lower = lower;
  upper = upper;
  size = size;
  alignment = alignment;
  gaps = [];
  lowest = 0;
}

-- two buffers of size 1 at even offsets and one of size 2, all live at moment 0
abbrev three : Instance
three = plain 0 1 1 2 ∷ plain 0 1 1 2 ∷ plain 0 1 2 1 ∷ []

differ : (m n : ℕ) → m ≢ n → m ≡ n → ⊥
differ m n ne e = ne e

clash : false ≡ true → ⊥
clash h = cc

-- buffer 0 from 5 on and buffer 2 from 7 on
abbrev zero_and_two : Claim
zero_and_two = (0, 5) ∷ (2, 7) ∷ []

-- ---- buffers: 2 is there, and 7 is a bound alone
has_two : HasBuffer zero_and_two 2
has_two = inr (inl refl)

has_seven : HasBuffer zero_and_two 7 → ⊥
has_seven (inl q) = differ 7 0 (λ h. omega arith) q
has_seven (inr (inl q)) = differ 7 2 (λ h. omega arith) q
has_seven (inr (inr i)) = i

-- ---- places: buffer 2 stands at place 1, and not at 0 nor past the end; nor does buffer 0 stand past the end
two_at_1 : IsAt zero_and_two 2 1
two_at_1 = (omega arith, refl)

two_at_0 : IsAt zero_and_two 2 0 → ⊥
two_at_0 h = differ 0 2 (λ q. omega arith) h.1

zero_past_end : IsAt zero_and_two 0 2 → ⊥
zero_past_end h = let k = h.0 in omega arith

-- ---- bounds: the greatest is 7
bounded_by_7 : IsBoundedBy 7 zero_and_two
bounded_by_7 e (inl q) = rw q (omega arith)
bounded_by_7 e (inr (inl q)) = rw q (omega arith)
bounded_by_7 e (inr (inr i)) = absurd i

bounded_by_6 : IsBoundedBy 6 zero_and_two → ⊥
bounded_by_6 h = let k = h (2, 7) (inr (inl refl)) in omega arith

-- ---- tests: with a bound of 7 or more there are 2 and 3
abbrev high : Entry → Bool
high e = nat_le 7 e.1

abbrev one_two_three : Claim
one_two_three = (1, 6) ∷ (2, 7) ∷ (3, 9) ∷ []

two_passes : Passes high one_two_three 2
two_passes = ((2, 7), inr (inl refl), refl, refl)

-- which buffer passes, and so the least one
from_two : (c : ℕ) → Passes high one_two_three c → 2 ≤ c
from_two c (e, inl q, n, t) = absurd (clash (ap high (sym q) ∙ t))
from_two c (e, inr (inl q), n, t) = let k : 2 ≡ c = ap (λ (x : Entry). x.0) (sym q) ∙ n in omega arith
from_two c (e, inr (inr (inl q)), n, t) = let k : 3 ≡ c = ap (λ (x : Entry). x.0) (sym q) ∙ n in omega arith
from_two c (e, inr (inr (inr i)), n, t) = absurd i

one_fails : Passes high one_two_three 1 → ⊥
one_fails p = let h = from_two 1 p in omega arith

two_is_least : IsLeastNumber (Passes high one_two_three) 2
two_is_least = record { holds = two_passes; least = from_two }

three_is_not_least : IsLeastNumber (Passes high one_two_three) 3 → ⊥
three_is_not_least l = let h = l.least 2 two_passes in omega arith

one_is_not_least : IsLeastNumber (Passes high one_two_three) 1 → ⊥
one_is_not_least l = one_fails l.holds

answer_is_two : IsLeastOf (Passes high one_two_three) (Some 2)
answer_is_two = two_is_least

answer_is_not_none : IsLeastOf (Passes high one_two_three) None → ⊥
answer_is_not_none none = none 2 two_passes

-- of bounds 5 and 6 none is so high
answer_is_none : IsLeastOf (Passes high ((0, 5) ∷ (4, 6) ∷ [])) None
answer_is_none b (e, inl q, n, t) = clash (ap high (sym q) ∙ t)
answer_is_none b (e, inr (inl q), n, t) = clash (ap high (sym q) ∙ t)
answer_is_none b (e, inr (inr i), n, t) = i

none_below_2 : NonePassBelow high one_two_three 2
none_below_2 e (inl q) lt = ap high q
none_below_2 e (inr (inl q)) lt =
    let k : e.0 ≡ 2 = ap (λ (x : Entry). x.0) q in absurd (omega arith)
none_below_2 e (inr (inr (inl q))) lt =
    let k : e.0 ≡ 3 = ap (λ (x : Entry). x.0) q in absurd (omega arith)
none_below_2 e (inr (inr (inr i))) lt = absurd i

some_below_3 : NonePassBelow high one_two_three 3 → ⊥
some_below_3 h = let k = h (2, 7) (inr (inl refl)) (omega arith) in cc

-- ---- covers: the up of buffer 1 is 4 for the bound 3
abbrev one_and_two : Claim
one_and_two = (1, 3) ∷ (2, 0) ∷ []

covers_4 : CoversEntry three one_and_two (1, 4)
unfolding up buffer
covers_4 = ((1, 3), inl refl, refl, lit≤ {m = 4} {n = 4} tt)

above : 5 ≤ 4 → ⊥
above h = omega arith

covers_5 : CoversEntry three one_and_two (1, 5) → ⊥
unfolding up buffer
covers_5 (f, inl q, n, le) = absurd (above (subst (λ (x : Entry). 5 ≤ up three x) q le))
covers_5 (f, inr (inl q), n, le) = differ 2 1 (λ q. omega arith) (ap (λ (x : Entry). x.0) (sym q) ∙ n)
covers_5 (f, inr (inr i), n, le) = i

covers_zero : CoversEntry three one_and_two (0, 0) → ⊥
covers_zero (f, inl q, n, le) = differ 1 0 (λ q. omega arith) (ap (λ (x : Entry). x.0) (sym q) ∙ n)
covers_zero (f, inr (inl q), n, le) = differ 2 0 (λ q. omega arith) (ap (λ (x : Entry). x.0) (sym q) ∙ n)
covers_zero (f, inr (inr i), n, le) = i

-- of two entries the first alone is covered, since buffer 0 is not there
covers_first : CoversFirst three ((1, 4) ∷ (0, 0) ∷ []) one_and_two 1
unfolding up buffer
covers_first e (inl q) = ((1, 3), inl refl, rw q refl, rw q (lit≤ {m = 4} {n = 4} tt))
covers_first e (inr i) = absurd i

not_covers_both : CoversFirst three ((1, 4) ∷ (0, 0) ∷ []) one_and_two 2 → ⊥
not_covers_both h = covers_zero (h (0, 0) (inr (inl refl)))

-- ---- what a claim of the code keeps: it rises, and its bounds are at most 2 to the 61st
both_kept : IsKeptClaim ((0, 2305843009213693952) ∷ (2, 7) ∷ [])
both_kept = record { rises = (after_0, ((λ y i. absurd i), tt)); bounds = bounds; count = lit≤ {m = 3} {n = 2 ^ 32} tt }
  where
    after_0 : (y : ℕ) → IsIn y (2 ∷ []) → 0 < y
    after_0 y (inl q) = rw q (omega arith)
    after_0 y (inr i) = absurd i

    bounds : IsBoundedBy (2 ^ 61) ((0, 2305843009213693952) ∷ (2, 7) ∷ [])
    bounds e (inl q) = rw q (omega arith)
    bounds e (inr (inl q)) = rw q (omega arith)
    bounds e (inr (inr i)) = absurd i

falls : IsKeptClaim ((2, 7) ∷ (0, 5) ∷ []) → ⊥
falls k = let h = k.rises.0 0 (inl refl) in omega arith

twice : IsKeptClaim ((2, 7) ∷ (2, 8) ∷ []) → ⊥
twice k = let h = k.rises.0 2 (inl refl) in omega arith

bound_too_high : IsKeptClaim ((0, 2305843009213693953) ∷ []) → ⊥
bound_too_high k = let h = k.bounds (0, 2305843009213693953) (inl refl) in omega arith

-- ---- claims of an instance of two buffers
abbrev in_turn : Instance
in_turn = plain 0 1 3 1 ∷ plain 1 2 5 1 ∷ []

one_stands : Stands in_turn ((1, 4) ∷ [])
unfolding is_ever_live some_before is_live
one_stands = record {
  claim = record { rises = ((λ y i. absurd i), tt); in_range = in_range };
  bounds = bounds;
  buffers = buffers;
  count = omega arith;
}
  where
    in_range : (e : Entry) → IsIn e ((1, 4) ∷ []) → e.0 < 2
    in_range e (inl q) = rw q (omega arith)
    in_range e (inr i) = absurd i

    bounds : IsBoundedBy (2 ^ 61) ((1, 4) ∷ [])
    bounds e (inl q) = rw q (omega arith)
    bounds e (inr i) = absurd i

    buffers : All IsBuffer in_turn
    buffers zero d lt = is_buffer (plain 0 1 3 1) refl (omega arith)
    buffers (suc zero) d lt = is_buffer (plain 1 2 5 1) refl (omega arith)
    buffers (suc (suc k)) d lt = absurd (omega arith)

-- there is no buffer 2, and with a buffer of size 0 nothing stands
no_buffer_2 : Stands in_turn ((2, 4) ∷ []) → ⊥
no_buffer_2 s = let h = s.claim.in_range (2, 4) (inl refl) in omega arith

no_size : Stands (plain 0 1 0 1 ∷ []) ((0, 4) ∷ []) → ⊥
no_size s = let h = (s.buffers 0 (plain 0 1 0 1) (omega arith)).sound.0 in omega arith

bound_above : Stands in_turn ((1, 2305843009213693953) ∷ []) → ⊥
bound_above s = let h = s.bounds (1, 2305843009213693953) (inl refl) in omega arith
