-- Parts of lists that are in order.
use Rattle.std.proofs.Common.{◌≡◌, ℕ, zero, suc, ◌+◌, ◌-◌, ◌<◌, ◌≤◌, inl, inr, Bool, true, false, not, cond, ◌&&◌, List, [], ◌∷◌, length, drop, take, get_or, filter, refl, ap, sym, ◌∙◌, arith}
use Rattle.std.specs.List.Sorted.{IsPartitionPoint}
use Rattle.dsa_terms.proofs.NumberTests.{below_or_from}

passing : {X : Type 0} (r : X → Bool) (x : X) (xs : List X) (b : Bool) → r x ≡ b →
    filter r (x ∷ xs) ≡ cond b (x ∷ filter r xs) (filter r xs)
passing r x xs b e = ap (λ (b : Bool). cond b (x ∷ filter r xs) (filter r xs)) e

-- what passes a test, where it is what stands from one place on
part : {X : Type 0} (r : X → Bool) (xs : List X) (i n : ℕ) → i + n ≤ length xs →
    ((k : ℕ) (d : X) → k < i → r (get_or xs k d) ≡ false) →
    ((k : ℕ) (d : X) → i ≤ k → k < i + n → r (get_or xs k d) ≡ true) →
    ((k : ℕ) (d : X) → i + n ≤ k → k < length xs → r (get_or xs k d) ≡ false) →
    take n (drop i xs) ≡ filter r xs
part r [] zero zero le f g h = refl
part r [] zero (suc n) le f g h = absurd (omega arith)
part r [] (suc i) n le f g h = absurd (omega arith)
part r (x ∷ xs) (suc i) n le f g h =
    part r xs i n (omega arith) (λ k d lt. f (suc k) d (omega arith))
    (λ k d a b. g (suc k) d (omega arith) (omega arith)) (λ k d a b. h (suc k) d (omega arith) (omega arith))
    ∙ sym (passing r x xs false (f zero x (omega arith)))
part r (x ∷ xs) zero (suc n) le f g h =
    ap (λ ys. x ∷ ys) (part r xs zero n (omega arith) (λ k d lt. absurd (omega arith))
    (λ k d a b. g (suc k) d (omega arith) (omega arith)) (λ k d a b. h (suc k) d (omega arith) (omega arith)))
    ∙ sym (passing r x xs true (g zero x (omega arith) (omega arith)))
part r (x ∷ xs) zero zero le f g h =
    part r xs zero zero (omega arith) (λ k d lt. absurd (omega arith)) (λ k d a b. absurd (omega arith))
    (λ k d a b. h (suc k) d (omega arith) (omega arith))
    ∙ sym (passing r x xs false (h zero x (omega arith) (omega arith)))

-- where what passes p passes q, the place at which p stops is no further than that of q
pub points_rise : {X : Type 0} (p q : X → Bool) (xs : List X) (i j : ℕ) → ((x : X) → p x ≡ true → q x ≡ true) →
    IsPartitionPoint (λ x. p x ≡ true) (λ x. p x ≡ false) xs i →
    IsPartitionPoint (λ x. q x ≡ true) (λ x. q x ≡ false) xs j → i ≤ length xs → i ≤ j
points_rise p q [] i j more a b le = omega arith
points_rise {X} p q (x ∷ xs) i j more a b le = elim (below_or_from j i) [
  | inr h ↦ h
  | inl lt ↦ absurd (no (q (get_or (x ∷ xs) j x)) (more (get_or (x ∷ xs) j x) (a.0 j x (omega arith) lt))
      (b.1 j x (omega arith) (omega arith)))
]
  where
    no : (c : Bool) → c ≡ true → c ≡ false → ⊥
    no true t f = cc
    no false t f = cc

-- what passes q and not p stands between the two places
pub part_between : {X : Type 0} (p q r : X → Bool) (xs : List X) (i j : ℕ) → ((x : X) → p x ≡ true → q x ≡ true) →
    ((x : X) → r x ≡ (q x && not (p x))) → IsPartitionPoint (λ x. p x ≡ true) (λ x. p x ≡ false) xs i →
    IsPartitionPoint (λ x. q x ≡ true) (λ x. q x ≡ false) xs j → i ≤ length xs → j ≤ length xs →
    take (j - i) (drop i xs) ≡ filter r xs
part_between {X} p q r xs i j more is a b le lj =
    let rise = points_rise p q xs i j more a b le in
    part r xs i (j - i) (omega arith)
    (λ k d lt. is (get_or xs k d) ∙ first (p (get_or xs k d)) (q (get_or xs k d)) (a.0 k d (omega arith) lt))
    (λ k d ge lt. is (get_or xs k d) ∙ both (p (get_or xs k d)) (q (get_or xs k d)) (a.1 k d ge (omega arith))
    (b.0 k d (omega arith) (omega arith)))
    (λ k d ge lt. is (get_or xs k d) ∙ last (p (get_or xs k d)) (q (get_or xs k d)) (b.1 k d (omega arith) lt))
  where
    first : (c e : Bool) → c ≡ true → (e && not c) ≡ false
    first true true t = refl
    first true false t = refl
    first false e t = absurd cc

    both : (c e : Bool) → c ≡ false → e ≡ true → (e && not c) ≡ true
    both false true f t = refl
    both true e f t = absurd cc
    both false false f t = absurd cc

    last : (c e : Bool) → e ≡ false → (e && not c) ≡ false
    last c false f = refl
    last c true f = absurd cc
