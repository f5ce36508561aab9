-- Claims of three buffers: their placements, and claims that have none.
use Rattle.std.proofs.Common.{◌≡◌, ℕ, ◌+◌, ◌≤◌, ◌≢◌, inl, inr, List, [], ◌∷◌, refl, arith}
use Rattle.dsa_terms.specs.Buffers.{is_live, IsLive, buffer}
use Rattle.dsa_terms.specs.Layouts.{IsMultiple, IsApart}
use Rattle.dsa_terms.specs.Claims.{Entry, Claim, IsIn, buffers_of, number_of, Places, IsPlacement, IsRefuted}
use Rattle.dsa_terms.proofs.Examples.{plain, evens}

-- the numbers without their bounds
numbers_alone : buffers_of ((1, 9) ∷ (4, 0) ∷ []) ≡ 1 ∷ 4 ∷ []
numbers_alone = refl

-- ---- placements: buffers of sizes 1 and 2, the first at even offsets alone
abbrev pub from_one : Claim
from_one = (1, 1) ∷ (2, 1) ∷ []

abbrev pub seats : List Entry
seats = (0, 0) ∷ (1, 4) ∷ (2, 1) ∷ []

-- at 4 and 1, both at or above the bound 1, they reach 5
pub placed : Places evens 5 from_one (number_of seats)
unfolding buffer
placed = record { aligned = aligned; above = above; within = within; apart = apart }
  where
    aligned : (e : Entry) → IsIn e from_one → IsMultiple (number_of seats e.0) (buffer evens e.0).alignment
    aligned e (inl q) = rw q refl
    aligned e (inr (inl q)) = rw q refl
    aligned e (inr (inr i)) = absurd i

    above : (e : Entry) → IsIn e from_one → e.1 ≤ number_of seats e.0
    above e (inl q) = rw q (omega arith)
    above e (inr (inl q)) = rw q (omega arith)
    above e (inr (inr i)) = absurd i

    within : (e : Entry) → IsIn e from_one → number_of seats e.0 + (buffer evens e.0).size ≤ 5
    within e (inl q) = rw q (omega arith)
    within e (inr (inl q)) = rw q (omega arith)
    within e (inr (inr i)) = absurd i

    high : IsApart (buffer evens 1) 4 (buffer evens 2) 1
    high = inr (omega arith)

    low : IsApart (buffer evens 2) 1 (buffer evens 1) 4
    low = inl (omega arith)

    apart : (e f : Entry) (t : ℕ) → IsIn e from_one → IsIn f from_one → e.0 ≢ f.0 →
        IsLive (buffer evens e.0) t → IsLive (buffer evens f.0) t →
        IsApart (buffer evens e.0) (number_of seats e.0) (buffer evens f.0) (number_of seats f.0)
    apart e f t (inl p) (inl q) n l m = absurd (n (rw (p, q) refl))
    apart e f t (inl p) (inr (inl q)) n l m = rw (p, q) high
    apart e f t (inr (inl p)) (inl q) n l m = rw (p, q) low
    apart e f t (inr (inl p)) (inr (inl q)) n l m = absurd (n (rw (p, q) refl))
    apart e f t (inr (inr i)) j n l m = absurd i
    apart e f t i (inr (inr j)) n l m = absurd j

-- so they are a placement, without the seat of buffer 0
is_placement : IsPlacement evens 5 from_one ((1, 4) ∷ (2, 1) ∷ [])
is_placement = record { same_buffers = refl; places = placed_too }
  where
    same : (e : Entry) → IsIn e from_one → number_of seats e.0 ≡ number_of ((1, 4) ∷ (2, 1) ∷ []) e.0
    same e (inl q) = rw q refl
    same e (inr (inl q)) = rw q refl
    same e (inr (inr i)) = absurd i

    placed_too : Places evens 5 from_one (number_of ((1, 4) ∷ (2, 1) ∷ []))
    placed_too = record {
      aligned = λ e i. rw (← same e i) (placed.aligned e i);
      above = λ e i. rw (← same e i) (placed.above e i);
      within = λ e i. rw (← same e i) (placed.within e i);
      apart = λ e f t i j n l m. rw (← same e i, ← same f j) (placed.apart e f t i j n l m);
    }

-- seats with that of buffer 0 are none, nor are those of 5 with a capacity of 4, nor one below the bound
one_too_many : IsPlacement evens 5 from_one seats → ⊥
one_too_many p = let h = p.same_buffers in cc

above_capacity : IsPlacement evens 4 from_one ((1, 4) ∷ (2, 1) ∷ []) → ⊥
unfolding buffer
above_capacity p = let h = p.places.within (1, 1) (inl refl) in omega arith

below_bound : IsPlacement evens 5 from_one ((1, 2) ∷ (2, 0) ∷ []) → ⊥
below_bound p = let h = p.places.above (2, 1) (inr (inl refl)) in omega arith

not_even : IsPlacement evens 5 from_one ((1, 3) ∷ (2, 1) ∷ []) → ⊥
unfolding buffer
not_even p = let h = p.places.aligned (1, 1) (inl refl) in cc

overlapping : IsPlacement evens 5 from_one ((1, 2) ∷ (2, 1) ∷ []) → ⊥
unfolding buffer is_live
overlapping p = close (p.places.apart (1, 1) (2, 1) 0 (inl refl) (inr (inl refl)) (λ q. omega arith) refl refl)
  where
    close : IsApart (plain 0 1 1 2) 2 (plain 0 1 2 1) 1 → ⊥
    close (inl h) = omega arith
    close (inr h) = omega arith

-- ---- refuted claims: size 2 at 3 or above ends above 4, and so does size 1 at an even offset of 3 or above
pub high_two : IsRefuted evens 4 ((2, 3) ∷ [])
unfolding buffer
high_two s p =
    let a = p.places.above (2, 3) (inl refl) in
    let w = p.places.within (2, 3) (inl refl) in
    omega arith

high_even : IsRefuted evens 4 ((1, 3) ∷ [])
unfolding buffer
high_even s p =
    close (number_of s 1) (p.places.aligned (1, 3) (inl refl)) (p.places.above (1, 3) (inl refl))
    (p.places.within (1, 3) (inl refl))
  where
    close : (x : ℕ) → IsMultiple x 2 → 3 ≤ x → x + 1 ≤ 4 → ⊥
    close x m a w = omega arith

-- but at 5 the claim has a placement
not_at_5 : IsRefuted evens 5 from_one → ⊥
not_at_5 none = none ((1, 4) ∷ (2, 1) ∷ []) is_placement
