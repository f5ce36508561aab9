-- Numbers in rising order, and what is among them.
use Rattle.std.proofs.Common.{◌≡◌, ℕ, zero, suc, ◌+◌, ◌<◌, ◌≤◌, ◌⊎◌, inl, inr, Bool, true, false, cond, List, [], ◌∷◌, ◌++◌, filter, refl, arith}
use Rattle.std.specs.List.{range_with_len}
use Rattle.dsa_terms.specs.Claims.{IsIn, Rises}
use Rattle.dsa_terms.specs.Parts.{numbers}
use Rattle.dsa_terms.proofs.Lists.{from_append, from_filter}

pub from_range : (n a x : ℕ) → IsIn x (range_with_len a n) → (a ≤ x) × (x < a + n)
from_range zero a x i = absurd i
from_range (suc n) a x (inl q) = (omega arith, omega arith)
from_range (suc n) a x (inr q) = let r = from_range n (a + 1) x q in
    (let k = r.0 in omega arith, let k = r.1 in omega arith)

pub into_range : (n a x : ℕ) → a ≤ x → x < a + n → IsIn x (range_with_len a n)
into_range zero a x le lt = absurd (omega arith)
into_range (suc n) a x le lt = go (into_range n (a + 1) x) (cases a x le)
  where
    cases : (a x : ℕ) → a ≤ x → (x ≡ a) ⊎ (a + 1 ≤ x)
    cases a x h = grind arith

    go : (a + 1 ≤ x → x < a + 1 + n → IsIn x (range_with_len (a + 1) n)) → (x ≡ a) ⊎ (a + 1 ≤ x) →
        IsIn x (range_with_len a (suc n))
    go ih (inl q) = inl q
    go ih (inr q) = inr (ih q (omega arith))

pub rises-range : (n a : ℕ) → Rises (range_with_len a n)
rises-range zero a = tt
rises-range (suc n) a = ((λ y i. (let k = (from_range n (a + 1) y i).0 in omega arith)), rises-range n (a + 1))

pub rises-filter_numbers : (p : ℕ → Bool) (xs : List ℕ) → Rises xs → Rises (filter p xs)
rises-filter_numbers p [] r = tt
rises-filter_numbers p (x ∷ xs) r = go (rises-filter_numbers p xs r.1) (p x)
  where
    go : Rises (filter p xs) → (b : Bool) → Rises (cond b (x ∷ filter p xs) (filter p xs))
    go ih true = ((λ y i. r.0 y (from_filter p xs y i).0), ih)
    go ih false = ih

pub below : (n x : ℕ) → IsIn x (numbers n) → x < n
below n x i = let k = (from_range n 0 x i).1 in omega arith

pub among : (n x : ℕ) → x < n → IsIn x (numbers n)
among n x lt = into_range n 0 x (omega arith) (omega arith)

-- one more that is greater than all
pub rises-push : (xs : List ℕ) (y : ℕ) → Rises xs → ((x : ℕ) → IsIn x xs → x < y) → Rises (xs ++ y ∷ [])
rises-push [] y r h = ((λ z i. absurd i), tt)
rises-push (x ∷ xs) y r h = (first, rises-push xs y r.1 (λ z i. h z (inr i)))
  where
    first : (z : ℕ) → IsIn z (xs ++ y ∷ []) → x < z
    first z i = elim (from_append xs (y ∷ []) z i) [
      | inl j ↦ r.0 z j
      | inr j ↦ elim j [ inl e ↦ (let k = h x (inl refl) in omega arith) | inr k ↦ absurd k ]
    ]
