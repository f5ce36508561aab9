-- Lists of numbers: filtered, rising, and told apart.
use Rattle.std.proofs.Common.{◌≡◌, ◌≢◌, ℕ, zero, suc, ◌+◌, ◌<◌, ◌⊎◌, inl, inr, Bool, true, false, cond, ◌==◌, List, [], ◌∷◌, ◌++◌, length, filter, slice_index_or, refl, sym, ap, ◌∙◌, arith, append-nil}
use Rattle.std.specs.List.{range_with_len}
use Rattle.dsa_terms.specs.Claims.{IsIn, Rises}
use Rattle.dsa_terms.specs.Parts.{numbers}
use Rattle.dsa_terms.proofs.Lists.{from_filter, into_filter}
use Rattle.dsa_terms.proofs.NumberTests.{equal}
use Rattle.dsa_terms.proofs.Places.{in_at}
use Rattle.dsa_terms.proofs.Ranges.{rises-range, rises-filter_numbers}

-- a list without a number
pub is_nil : (xs : List ℕ) (n : ℕ) (none : Bool) → none ≡ (n == 0) → none ≡ true → n ≡ length xs → xs ≡ []
is_nil [] n none e t l = refl
is_nil (x ∷ xs) n none e t l = absurd (let k = equal n 0 (sym e ∙ t) in omega arith)

-- ---- numbers
pub rises-numbers : (p : ℕ → Bool) (n : ℕ) → Rises (filter p (numbers n))
rises-numbers p n = rises-filter_numbers p (numbers n) (rises-range n 0)

-- ---- filters
filter_more_from : (p : ℕ → Bool) (n a j : ℕ) → a + n ≡ j →
    filter p (range_with_len a (suc n)) ≡ filter p (range_with_len a n) ++ cond (p j) (j ∷ []) []
filter_more_from p zero a j e = let k : a ≡ j = omega arith in rw k refl
filter_more_from p (suc n) a j e = go (filter_more_from p n (a + 1) j (omega arith)) (p a)
  where
    go : filter p (range_with_len (a + 1) (suc n)) ≡ filter p (range_with_len (a + 1) n) ++ cond (p j) (j ∷ []) [] →
        (b : Bool) →
        cond b (a ∷ filter p (range_with_len (a + 1) (suc n))) (filter p (range_with_len (a + 1) (suc n)))
        ≡ cond b (a ∷ filter p (range_with_len (a + 1) n)) (filter p (range_with_len (a + 1) n)) ++ cond (p j) (j ∷ [])
        []
    go ih true = ap (λ ys. a ∷ ys) ih
    go ih false = ih

pub filter_more : (p : ℕ → Bool) (n : ℕ) → filter p (numbers (n + 1)) ≡ filter p (numbers n) ++ cond (p n) (n ∷ []) []
filter_more p n = let e : n + 1 ≡ suc n = omega arith in rw e (filter_more_from p n 0 n (omega arith))

pub taken : (p : ℕ → Bool) (b : ℕ) (xs ys : List ℕ) → xs ≡ filter p (numbers b) → p b ≡ true → ys ≡ xs ++ b ∷ [] →
    ys ≡ filter p (numbers (b + 1))
taken p b xs ys e t h = h ∙ (ap (λ zs. zs ++ b ∷ []) e ∙ sym
    (filter_more p b ∙ ap (λ t. filter p (numbers b) ++ cond t (b ∷ []) []) t))

pub left : (p : ℕ → Bool) (b : ℕ) (xs ys : List ℕ) → xs ≡ filter p (numbers b) → p b ≡ false → ys ≡ xs →
    ys ≡ filter p (numbers (b + 1))
left p b xs ys e t h = h ∙ (e ∙ sym (filter_more p b ∙
    (ap (λ t. filter p (numbers b) ++ cond t (b ∷ []) []) t ∙ append-nil (filter p (numbers b)))))

pub filter_same : {X : Type 0} (p q : X → Bool) (xs : List X) → ((x : X) → IsIn x xs → p x ≡ q x) →
    filter p xs ≡ filter q xs
filter_same p q [] h = refl
filter_same {X} p q (x ∷ xs) h = go (filter_same p q xs (λ y i. h y (inr i))) (p x) (q x) (h x (inl refl))
  where
    go : filter p xs ≡ filter q xs → (a b : Bool) → a ≡ b →
        cond a (x ∷ filter p xs) (filter p xs) ≡ cond b (x ∷ filter q xs) (filter q xs)
    go ih true true e = ap (λ ys. x ∷ ys) ih
    go ih true false e = absurd cc
    go ih false true e = absurd cc
    go ih false false e = ih

-- a number that tells two tests apart tells their lists apart
pub filter_differs : (p q : ℕ → Bool) (xs : List ℕ) (x : ℕ) → IsIn x xs → p x ≢ q x → filter p xs ≢ filter q xs
filter_differs p q xs x i ne e = go (p x) (q x) refl refl
  where
    go : (a b : Bool) → p x ≡ a → q x ≡ b → ⊥
    go true true f g = ne (f ∙ sym g)
    go false false f g = ne (f ∙ sym g)
    go true false f g =
        let k : IsIn x (filter q xs) = rw e at (into_filter p xs x i f) in
        let m = (from_filter q xs x k).1 in absurd cc
    go false true f g =
        let k : IsIn x (filter p xs) = rw (← e) at (into_filter q xs x i g) in
        let m = (from_filter p xs x k).1 in absurd cc

-- ---- lists that rise
pub rises_at : (xs : List ℕ) (j k d : ℕ) → Rises xs → j < k → k < length xs →
    slice_index_or xs j d < slice_index_or xs k d
rises_at [] j k d r lt kn = absurd (omega arith)
rises_at (x ∷ xs) zero zero d r lt kn = absurd (omega arith)
rises_at (x ∷ xs) zero (suc k) d r lt kn = r.0 (slice_index_or xs k d) (in_at xs k d (omega arith))
rises_at (x ∷ xs) (suc j) zero d r lt kn = absurd (omega arith)
rises_at (x ∷ xs) (suc j) (suc k) d r lt kn = rises_at xs j k d r.1 (omega arith) (omega arith)

-- ---- choices
pub same_or_not : (xs ys : List ℕ) → (xs ≡ ys) ⊎ (xs ≢ ys)
same_or_not [] [] = inl refl
same_or_not [] (y ∷ ys) = inr (λ e. absurd cc)
same_or_not (x ∷ xs) [] = inr (λ e. absurd cc)
same_or_not (x ∷ xs) (y ∷ ys) = go (equal_or_not x y) (same_or_not xs ys)
  where
    equal_or_not : (m n : ℕ) → (m ≡ n) ⊎ (m ≢ n)
    equal_or_not m n = grind arith

    both : x ≡ y → xs ≡ ys → x ∷ xs ≡ y ∷ ys
    both e f = cc

    heads : x ∷ xs ≡ y ∷ ys → x ≡ y
    heads e = cc

    tails : x ∷ xs ≡ y ∷ ys → xs ≡ ys
    tails e = cc

    go : (x ≡ y) ⊎ (x ≢ y) → (xs ≡ ys) ⊎ (xs ≢ ys) → (x ∷ xs ≡ y ∷ ys) ⊎ (x ∷ xs ≢ y ∷ ys)
    go (inl e) (inl f) = inl (both e f)
    go (inl e) (inr n) = inr (λ h. n (tails h))
    go (inr n) q = inr (λ h. n (heads h))

pub in_or_not : (x : ℕ) (xs : List ℕ) → IsIn x xs ⊎ (IsIn x xs → ⊥)
in_or_not x [] = inr (λ i. i)
in_or_not x (y ∷ ys) = go (equal_or_not x y) (in_or_not x ys)
  where
    equal_or_not : (m n : ℕ) → (m ≡ n) ⊎ (m ≢ n)
    equal_or_not m n = grind arith

    neither : x ≢ y → (IsIn x ys → ⊥) → IsIn x (y ∷ ys) → ⊥
    neither m n (inl e) = m e
    neither m n (inr i) = n i

    go : (x ≡ y) ⊎ (x ≢ y) → IsIn x ys ⊎ (IsIn x ys → ⊥) → IsIn x (y ∷ ys) ⊎ (IsIn x (y ∷ ys) → ⊥)
    go (inl e) q = inl (inl e)
    go (inr n) (inl i) = inl (inr i)
    go (inr m) (inr n) = inr (neither m n)
