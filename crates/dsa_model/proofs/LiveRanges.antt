-- Ranges of moments that are apart.
use Rattle.std.proofs.Common.{◌≡◌, ℕ, zero, suc, ◌+◌, ◌<◌, ◌≤◌, Bool, true, false, ◌||◌, ◌&&◌, nat_le, nat_lt, List, [], ◌∷◌, get_or, length, leb, refl, ◌∙◌, arith}
use Rattle.std.proofs.lemmas.Bool.Decides.{nat_tests}
use Rattle.std.proofs.lemmas.List.Folds.{list_any_none}
use Rattle.std.proofs.lemmas.List.Sorted.{IsPartitionedBy-leb}
use Rattle.std.specs.List.Sorted.{IsPartitionPoint, IsPartitionedBy}
use Rattle.dsa_terms.proofs.NumberTests.{above, at_most, is_below}
use Rattle.dsa_terms.specs.Buffers.{is_within}
use Rattle.dsa_model.specs.LiveRanges.{AreApartFrom, is_in}

-- ---- tests of one range
pub within : (t a b : ℕ) → a ≤ t → t < b → (nat_le a t && nat_lt t b) ≡ true
within t a b h k = grind (arith, nat_tests)

pub before_range : (t a b : ℕ) → t < a → (nat_le a t && nat_lt t b) ≡ false
before_range t a b h = grind (arith, nat_tests)

pub past_range : (t a b : ℕ) → b ≤ t → (nat_le a t && nat_lt t b) ≡ false
past_range t a b h = grind (arith, nat_tests)

in_neither : (p q : Bool) → p ≡ false → q ≡ false → (p || q) ≡ false
in_neither p q h k = rw (h, k) refl

-- ---- ranges that are apart
pub from_earlier : (m n : ℕ) (ranges : List (ℕ × ℕ)) → m ≤ n → AreApartFrom n ranges → AreApartFrom m ranges
from_earlier m n [] le h = h
from_earlier m n (r ∷ rs) le h = (let k = h.0 in omega arith, h.1, h.2)

-- no moment before them lies in one
pub not_in_before : (n t : ℕ) (ranges : List (ℕ × ℕ)) → AreApartFrom n ranges → t < n → is_in ranges t ≡ false
not_in_before n t [] h lt = refl
not_in_before n t (r ∷ rs) h lt =
    let a = h.0 in let b = h.1 in
    in_neither _ _ (before_range t r.0 r.1 (omega arith)) (not_in_before (r.1 + 1) t rs h.2 (omega arith))

pub not_in_before_first : (n t : ℕ) (r : ℕ × ℕ) (rs : List (ℕ × ℕ)) → AreApartFrom n (r ∷ rs) → t < r.0 →
    is_in (r ∷ rs) t ≡ false
not_in_before_first n t r rs h lt = not_in_before r.0 t (r ∷ rs) (omega arith, h.1, h.2) lt

-- a moment of the first lies in one
pub in_first : (t : ℕ) (r : ℕ × ℕ) (rs : List (ℕ × ℕ)) → r.0 ≤ t → t < r.1 → is_in (r ∷ rs) t ≡ true
in_first t r rs h k = rw (within t r.0 r.1 h k) refl

-- the first has no moment at or after its end
pub past_first : (t : ℕ) (r : ℕ × ℕ) (rs : List (ℕ × ℕ)) → r.1 ≤ t → is_in (r ∷ rs) t ≡ is_in rs t
past_first t r rs h = rw (past_range t r.0 r.1 h) refl

-- and at its end there is none in any
pub not_in_at_end : (n t : ℕ) (r : ℕ × ℕ) (rs : List (ℕ × ℕ)) → AreApartFrom n (r ∷ rs) → t ≡ r.1 →
    is_in (r ∷ rs) t ≡ false
not_in_at_end n t r rs h e =
    rw (past_first t r rs (omega arith)) (not_in_before (r.1 + 1) t rs h.2 (omega arith))

-- ---- the one range that can hold a moment is the first that ends after it
ends_at_or_after : (n : ℕ) (ranges : List (ℕ × ℕ)) → AreApartFrom n ranges → (k : ℕ) (d : ℕ × ℕ) → k < length ranges →
    n < (get_or ranges k d).1
ends_at_or_after n [] h k d lt = absurd (omega arith)
ends_at_or_after n (r ∷ rs) h zero d lt = let a = h.0 in let b = h.1 in omega arith
ends_at_or_after n (r ∷ rs) h (suc k) d lt =
    let a = h.0 in let b = h.1 in let e = ends_at_or_after (r.1 + 1) rs h.2 k d (omega arith) in omega arith

pub ends_rise : (n : ℕ) (ranges : List (ℕ × ℕ)) → AreApartFrom n ranges → (i j : ℕ) (d : ℕ × ℕ) → i ≤ j →
    j < length ranges → (get_or ranges i d).1 ≤ (get_or ranges j d).1
ends_rise n [] h i j d le lt = absurd (omega arith)
ends_rise n (r ∷ rs) h zero zero d le lt = omega arith
ends_rise n (r ∷ rs) h zero (suc j) d le lt =
    let e = ends_at_or_after (r.1 + 1) rs h.2 j d (omega arith) in omega arith
ends_rise n (r ∷ rs) h (suc i) zero d le lt = absurd (omega arith)
ends_rise n (r ∷ rs) h (suc i) (suc j) d le lt = ends_rise (r.1 + 1) rs h.2 i j d (omega arith) (omega arith)

pub are_parted : (ranges : List (ℕ × ℕ)) (t : ℕ) → AreApartFrom 0 ranges →
    IsPartitionedBy (λ (r : ℕ × ℕ). leb r.1 t) ranges
are_parted ranges t h = IsPartitionedBy-leb (λ (r : ℕ × ℕ). r.1) ranges t (ends_rise 0 ranges h)

pub in_none : (ranges : List (ℕ × ℕ)) (t k : ℕ) →
    IsPartitionPoint (λ (r : ℕ × ℕ). leb r.1 t ≡ true) (λ (r : ℕ × ℕ). leb r.1 t ≡ false) ranges k → length ranges ≤ k →
    is_in ranges t ≡ false
in_none ranges t k h le = list_any_none (is_within t) ranges (λ i d lt.
    past_range t (get_or ranges i d).0 (get_or ranges i d).1
    (at_most (get_or ranges i d).1 t (h.0 i d (omega arith) (omega arith))))

pub in_one : (n : ℕ) (ranges : List (ℕ × ℕ)) (t k : ℕ) (d : ℕ × ℕ) → AreApartFrom n ranges →
    ((i : ℕ) (e : ℕ × ℕ) → i < k → leb (get_or ranges i e).1 t ≡ true) → leb (get_or ranges k d).1 t ≡ false →
    k < length ranges → is_in ranges t ≡ nat_le (get_or ranges k d).0 t
in_one n [] t k d h before at lt = absurd (omega arith)
in_one n (r ∷ rs) t zero d h before at lt =
    rw (
      not_in_before (r.1 + 1) t rs h.2 (let q : t < r.1 = above r.1 t at in omega arith),
      is_below t r.1 (above r.1 t at),
    )
    (only (nat_le r.0 t))
  where
    only : (c : Bool) → ((c && true) || false) ≡ c
    only true = refl
    only false = refl
in_one n (r ∷ rs) t (suc k) d h before at lt =
    past_first t r rs (at_most r.1 t (before 0 r (omega arith)))
    ∙ in_one (r.1 + 1) rs t k d h.2 (λ i e l. before (suc i) e (omega arith)) at (omega arith)
