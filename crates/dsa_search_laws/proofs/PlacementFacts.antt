-- Placements of three buffers: which buffer comes first, and claims of lines that have no placement.
use Rattle.std.proofs.Common.{◌≡◌, ℕ, zero, suc, ◌+◌, ◌≤◌, ◌≢◌, inl, inr, false, List, [], ◌∷◌, refl, ap, ◌∙◌, arith}
use Rattle.dsa_terms.specs.Buffers.{is_live, IsLive, buffer, do_share, have_same_moments, some_before}
use Rattle.dsa_terms.specs.Layouts.{IsMultiple, IsApart}
use Rattle.dsa_terms.specs.Claims.{Entry, Claim, IsIn, up, number_of, step, child, IsPlacement, IsRefuted}
use Rattle.dsa_terms.specs.Logs.{ends_below, is_twin}
use Rattle.dsa_terms.proofs.Examples.{evens, over_2, over_1}
use Rattle.dsa_terms.proofs.ClaimFacts.{seats, placed, high_two}
use Rattle.dsa_search_laws.specs.Placements.{weight, IsFirst, IsSettled, AreRefuted}

-- the claims of two lines are refuted at 4; that of the first one is not at 5
two_refuted : AreRefuted evens 4 (over_2 ∷ over_1 ∷ [])
unfolding buffer
two_refuted zero line h = let e : over_2 ≡ line = cc in rw (← e) high_two
two_refuted (suc zero) line h = let e : over_1 ≡ line = cc in rw (← e) high_one
  where
    high_one : IsRefuted evens 4 ((1, 4) ∷ [])
    high_one s p =
        let a = p.places.above (1, 4) (inl refl) in
        let w = p.places.within (1, 4) (inl refl) in
        omega arith
two_refuted (suc (suc k)) line h = absurd cc

first_not_at_5 : AreRefuted evens 5 (over_2 ∷ []) → ⊥
unfolding buffer
first_not_at_5 all = all 0 over_2 refl ((2, 3) ∷ []) is_there
  where
    aligned : (e : Entry) → IsIn e ((2, 3) ∷ []) → IsMultiple (number_of ((2, 3) ∷ []) e.0) (buffer evens e.0).alignment
    aligned e (inl q) = rw q refl
    aligned e (inr i) = absurd i

    above : (e : Entry) → IsIn e ((2, 3) ∷ []) → e.1 ≤ number_of ((2, 3) ∷ []) e.0
    above e (inl q) = rw q (omega arith)
    above e (inr i) = absurd i

    within : (e : Entry) → IsIn e ((2, 3) ∷ []) → number_of ((2, 3) ∷ []) e.0 + (buffer evens e.0).size ≤ 5
    within e (inl q) = rw q (omega arith)
    within e (inr i) = absurd i

    apart : (e f : Entry) (t : ℕ) → IsIn e ((2, 3) ∷ []) → IsIn f ((2, 3) ∷ []) → e.0 ≢ f.0 →
        IsLive (buffer evens e.0) t → IsLive (buffer evens f.0) t →
        IsApart (buffer evens e.0) (number_of ((2, 3) ∷ []) e.0) (buffer evens f.0) (number_of ((2, 3) ∷ []) f.0)
    apart e f t (inl p) (inl q) n l m = absurd (n (rw (p, q) refl))
    apart e f t (inr i) j n l m = absurd i
    apart e f t i (inr j) n l m = absurd j

    is_there : IsPlacement evens 5 ((2, 3) ∷ []) ((2, 3) ∷ [])
    is_there = record {
      same_buffers = refl;
      places = record { aligned = aligned; above = above; within = within; apart = apart };
    }

-- ---- the first buffer: of two at offset 0 the one with the smaller number
abbrev ties : List Entry
ties = (0, 2) ∷ (1, 0) ∷ (2, 0) ∷ []

abbrev from_zero : Claim
from_zero = (0, 0) ∷ (1, 0) ∷ (2, 0) ∷ []

one_is_first : IsFirst from_zero (number_of ties) (1, 0)
one_is_first = record { is_in = inr (inl refl); lowest = lowest; least = least }
  where
    lowest : (f : Entry) → IsIn f from_zero → 0 ≤ number_of ties f.0
    lowest f i = omega arith

    least : (f : Entry) → IsIn f from_zero → 0 ≡ number_of ties f.0 → 1 ≤ f.0
    least f (inl q) h = let z : 0 ≡ number_of ties 0 = h ∙ ap (λ (x : Entry). number_of ties x.0) q in cc
    least f (inr (inl q)) h = rw q (omega arith)
    least f (inr (inr (inl q))) h = rw q (omega arith)
    least f (inr (inr (inr i))) h = absurd i

zero_is_higher : IsFirst from_zero (number_of ties) (0, 0) → ⊥
zero_is_higher h = let l = h.lowest (1, 0) (inr (inl refl)) in omega arith

two_is_later : IsFirst from_zero (number_of ties) (2, 0) → ⊥
two_is_later h = let l = h.least (1, 0) (inr (inl refl)) refl in omega arith

one_alone_is_absent : IsFirst ((0, 0) ∷ (2, 0) ∷ []) (number_of ties) (1, 0) → ⊥
one_alone_is_absent h = close h.is_in
  where
    differ : (m n : ℕ) → m ≢ n → m ≡ n → ⊥
    differ m n ne e = ne e

    close : IsIn {X = Entry} (1, 0) ((0, 0) ∷ (2, 0) ∷ []) → ⊥
    close (inl q) = differ 1 0 (λ h. omega arith) (ap (λ (x : Entry). x.0) q)
    close (inr (inl q)) = differ 1 2 (λ h. omega arith) (ap (λ (x : Entry). x.0) q)
    close (inr (inr i)) = i

-- ---- a settled first buffer: 0 stands at 0, and the others are placed from 1 on
zero_settled : IsSettled evens 5 from_zero (number_of seats) (0, 0)
unfolding child up step do_share some_before is_live buffer ends_below is_twin have_same_moments
zero_settled = record { at_up = refl; no_below = no_below; no_twin = no_twin; rest = placed }
  where
    no_below : (f : Entry) → IsIn f from_zero → ends_below evens f (0, 0) ≡ false
    no_below f (inl q) = rw q refl
    no_below f (inr (inl q)) = rw q refl
    no_below f (inr (inr (inl q))) = rw q refl
    no_below f (inr (inr (inr i))) = absurd i

    no_twin : (f : Entry) → IsIn f from_zero → is_twin evens f (0, 0) ≡ false
    no_twin f (inl q) = rw q refl
    no_twin f (inr (inl q)) = rw q refl
    no_twin f (inr (inr (inl q))) = rw q refl
    no_twin f (inr (inr (inr i))) = absurd i

-- buffer 1 has the twin 0, and where it has the bound 3 buffer 2 ends at its up
twin_not_settled : (offset : ℕ → ℕ) → IsSettled evens 5 from_zero offset (1, 0) → ⊥
unfolding is_twin have_same_moments some_before is_live up buffer
twin_not_settled offset s = let h = s.no_twin (0, 0) (inl refl) in cc

below_not_settled : (offset : ℕ → ℕ) → IsSettled evens 9 ((1, 3) ∷ (2, 2) ∷ []) offset (1, 3) → ⊥
unfolding ends_below up buffer
below_not_settled offset s = let h = s.no_below (2, 2) (inr (inl refl)) in cc

-- at its bound 3 it does not stand at its up, which is 4
not_at_up : (offset : ℕ → ℕ) → offset 1 ≡ 3 → IsSettled evens 9 ((1, 3) ∷ []) offset (1, 3) → ⊥
unfolding up buffer
not_at_up offset q s = let h = s.at_up in omega arith

-- 3 times 0, 2 times 4 and 1 times 1
evens_weight :
    weight evens (number_of ((0, 0) ∷ (1, 4) ∷ (2, 1) ∷ [])) ((0, 0) ∷ (1, 0) ∷ (2, 0) ∷ []) ≡ 9
evens_weight = refl
