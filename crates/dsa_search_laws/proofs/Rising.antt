-- Lists of numbers, filtered, and lists that rise.
use Rattle.std.proofs.Common.{◌≡◌, ℕ, ◌↔◌, inl, inr, Bool, true, false, cond, List, [], ◌∷◌, map, filter, refl, sym, ap, arith}
use Rattle.dsa_terms.specs.Claims.{IsIn, Rises}

pub filter_of_map : {X Y : Type 0} (p : Y → Bool) (f : X → Y) (xs : List X) →
    filter p (map f xs) ≡ map f (filter (λ x. p (f x)) xs)
filter_of_map p f [] = refl
filter_of_map {X} {Y} p f (x ∷ xs) = go (filter_of_map p f xs) (p (f x))
  where
    go : filter p (map f xs) ≡ map f (filter (λ x. p (f x)) xs) → (b : Bool) →
        cond b (f x ∷ filter p (map f xs)) (filter p (map f xs)) ≡ map f
        (cond b (x ∷ filter (λ x. p (f x)) xs) (filter (λ x. p (f x)) xs))
    go ih true = ap (λ ys. f x ∷ ys) ih
    go ih false = ih

-- ---- lists that rise
-- two that rise and have the same items are one
pub rises_same : (xs ys : List ℕ) → Rises xs → Rises ys → ((x : ℕ) → IsIn x xs ↔ IsIn x ys) → xs ≡ ys
rises_same [] [] r s h = refl
rises_same [] (y ∷ ys) r s h = absurd ((h y).1 (inl refl))
rises_same (x ∷ xs) [] r s h = absurd ((h x).0 (inl refl))
rises_same (x ∷ xs) (y ∷ ys) r s h = joined heads (rises_same xs ys r.1 s.1 (λ z. (rest z, rest_back z)))
  where
    joined : x ≡ y → xs ≡ ys → x ∷ xs ≡ y ∷ ys
    joined e f = cc

    heads : x ≡ y
    heads = go ((h x).0 (inl refl)) ((h y).1 (inl refl))
      where
        go : IsIn x (y ∷ ys) → IsIn y (x ∷ xs) → x ≡ y
        go (inl e) q = e
        go (inr i) (inl e) = sym e
        go (inr i) (inr j) = absurd (let k = s.0 x i in let l = r.0 y j in omega arith)

    rest : (z : ℕ) → IsIn z xs → IsIn z ys
    rest z i = go ((h z).0 (inr i))
      where
        go : IsIn z (y ∷ ys) → IsIn z ys
        go (inl e) = absurd (let k = r.0 z i in let f = heads in omega arith)
        go (inr j) = j

    rest_back : (z : ℕ) → IsIn z ys → IsIn z xs
    rest_back z i = go ((h z).1 (inr i))
      where
        go : IsIn z (x ∷ xs) → IsIn z xs
        go (inl e) = absurd (let k = s.0 z i in let f = heads in omega arith)
        go (inr j) = j
