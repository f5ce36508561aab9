-- Stretches that do not overlap have room for the sum of their lengths.
use Rattle.std.proofs.Common.{◌≡◌, ℕ, zero, suc, ◌+◌, ◌≤◌, ◌⊎◌, inl, inr, Bool, true, false, not, cond, List, [], ◌∷◌, length, filter, leb, refl, arith, sum_by}
use Rattle.std.proofs.lemmas.Bool.Decides.{nat_tests}
use Rattle.std.proofs.lemmas.List.Sums.{sum_by-cons}
use Rattle.dsa_terms.specs.Claims.{IsIn}
use Rattle.dsa_terms.proofs.Lists.{from_filter, length-filter_le}

-- each of the list and each later one do not overlap
abbrev pub Disjoint : {X : Type 0} → (X → ℕ) → (X → ℕ) → List X → Type 0
Disjoint start len [] = Unit {0}
Disjoint start len (x ∷ xs) = ((y : _) → IsIn y xs → (start x + len x ≤ start y) ⊎ (start y + len y ≤ start x))
    × Disjoint start len xs

disjoint-filter : {X : Type 0} (start len : X → ℕ) (p : X → Bool) (xs : List X) → Disjoint start len xs →
    Disjoint start len (filter p xs)
disjoint-filter start len p [] d = tt
disjoint-filter {X} start len p (x ∷ xs) d = go (disjoint-filter start len p xs d.1) (p x)
  where
    go : Disjoint start len (filter p xs) → (b : Bool) → Disjoint start len (cond b (x ∷ filter p xs) (filter p xs))
    go ih true = ((λ y i. d.0 y (from_filter p xs y i).0), ih)
    go ih false = ih

-- what passes a test and what does not make up the sum
parts_sum : {X : Type 0} (f : X → ℕ) (p : X → Bool) (xs : List X) →
    sum_by f (filter p xs) + sum_by f (filter (λ x. not (p x)) xs) ≡ sum_by f xs
parts_sum f p [] = refl
parts_sum {X} f p (x ∷ xs) = go (parts_sum f p xs) (p x)
  where
    go : sum_by f (filter p xs) + sum_by f (filter (λ x. not (p x)) xs) ≡ sum_by f xs → (b : Bool) →
        sum_by f (cond b (x ∷ filter p xs) (filter p xs)) + sum_by f
        (cond (not b) (x ∷ filter (λ x. not (p x)) xs) (filter (λ x. not (p x)) xs)) ≡ sum_by f (x ∷ xs)
    go ih true = rw (sum_by-cons f x (filter p xs), sum_by-cons f x xs) (omega arith)
    go ih false = rw (sum_by-cons f x (filter (λ x. not (p x)) xs), sum_by-cons f x xs) (omega arith)

pub pack : {X : Type 0} (start len : X → ℕ) (n : ℕ) (xs : List X) (low high : ℕ) → length xs ≤ n → low ≤ high →
    Disjoint start len xs →
    ((x : X) → IsIn x xs → (low ≤ start x) × (start x + len x ≤ high)) → low + sum_by len xs ≤ high
pack start len n [] low high small le d h = omega arith
pack start len zero (x ∷ xs) low high small le d h = absurd (omega arith)
pack {X} start len (suc n) (x ∷ xs) low high small le d h =
    let down = pack start len n (filter below xs) low (start x) (let k = length-filter_le below xs in
    omega arith) (h x (inl refl)).0 (disjoint-filter start len below xs d.1) under in
    let up = pack start len n (filter (λ y. not (below y)) xs) (start x + len x) high
    (let k = length-filter_le (λ y. not (below y)) xs in omega arith) (h x (inl refl)).1
    (disjoint-filter start len (λ y. not (below y)) xs d.1) over in
    let all = parts_sum len below xs in
    rw (sum_by-cons len x xs) (omega arith)
  where
    below : X → Bool
    below y = leb (start y + len y) (start x)

    under : (y : X) → IsIn y (filter below xs) → (low ≤ start y) × (start y + len y ≤ start x)
    under y i = let r = from_filter below xs y i in ((h y (inr r.0)).0, le_from y r.1)
      where
        le_from : (y : X) → below y ≡ true → start y + len y ≤ start x
        le_from y q = grind (arith, nat_tests)

    over : (y : X) → IsIn y (filter (λ y. not (below y)) xs) → (start x + len x ≤ start y) × (start y + len y ≤ high)
    over y i = let r = from_filter (λ y. not (below y)) xs y i in (other y (d.0 y r.0) r.1, (h y (inr r.0)).1)
      where
        other : (y : X) → (start x + len x ≤ start y) ⊎ (start y + len y ≤ start x) → not (below y) ≡ true →
            start x + len x ≤ start y
        other y (inl q) t = q
        other y (inr q) t = absurd (let k : leb (start y + len y) (start x) ≡ true = grind (arith, nat_tests) in cc)
