-- Numbers in rising order: what a walk over them has left.
use Rattle.std.proofs.Common.{◌≡◌, ℕ, zero, suc, ◌+◌, ◌-◌, ◌<◌, ◌≤◌, ◌⊎◌, inl, inr, Bool, true, false, cond, max, List, [], ◌∷◌, map, find, Option, Some, None, refl, ap, ◌∙◌, sym, arith}
use Rattle.std.specs.List.{range_with_len}
use Rattle.dsa_terms.specs.Claims.{IsIn}
use Rattle.dsa_terms.specs.Logs.{greatest}
use Rattle.dsa_terms.specs.Parts.{numbers}
use Rattle.dsa_terms.specs.Search.{first_some}
use Rattle.dsa_model.specs.Moments.{IsLeastFrom}

-- the numbers from a on and below n: a and those from a + 1 on
pub range_step : (a n : ℕ) → a < n → range_with_len a (n - a) ≡ a ∷ range_with_len (a + 1) (n - (a + 1))
range_step a n lt = let e : n - a ≡ suc (n - (a + 1)) = omega arith in rw e refl

pub rest_of_all : (n : ℕ) → range_with_len 0 (n - 0) ≡ numbers n
rest_of_all n = let e : n - 0 ≡ n = omega arith in rw e refl

-- ---- the first that passes a test
pub find_here : (test : ℕ → Bool) (a n : ℕ) → a < n → test a ≡ true → find test (range_with_len a (n - a)) ≡ Some a
find_here test a n lt h = rw (range_step a n lt, h) refl

pub find_later : (test : ℕ → Bool) (a n : ℕ) → a < n → test a ≡ false →
    find test (range_with_len a (n - a)) ≡ find test (range_with_len (a + 1) (n - (a + 1)))
find_later test a n lt h = rw (range_step a n lt, h) refl

-- the least moment is found, wherever before it the walk begins
pub least_is_found : (test : ℕ → Bool) (n t : ℕ) → IsLeastFrom test 0 t → t < n → find test (numbers n) ≡ Some t
least_is_found test n t h lt = rw (rest_of_all n) at (from t 0 (omega arith))
  where
    from : (k a : ℕ) → a + k ≡ t → find test (range_with_len a (n - a)) ≡ Some t
    from zero a e = let q : a ≡ t = omega arith in rw q (find_here test t n lt h.holds)
    from (suc k) a e =
        find_later test a n (omega arith) (h.least a (omega arith) (omega arith)) ∙ from k (a + 1) (omega arith)

-- and what is found is the least
pub found_is_least : (test : ℕ → Bool) (n t : ℕ) → find test (numbers n) ≡ Some t → IsLeastFrom test 0 t
found_is_least test n t h = let r = from n 0 h in record { not_before = r.0; holds = r.1; least = r.2 }
  where
    here : (a : ℕ) → Some a ≡ Some t → a ≡ t
    here a e = cc

    least : (a s : ℕ) → test a ≡ false → (a + 1 ≤ s → s < t → test s ≡ false) → a ≤ s → s < t → test s ≡ false
    least a s e ih le lt =
        elim (cases a s le) [ inl q ↦ (let k : test s ≡ test a = ap test q in k ∙ e) | inr q ↦ ih q lt ]
      where
        cases : (a s : ℕ) → a ≤ s → (s ≡ a) ⊎ (a + 1 ≤ s)
        cases a s h = grind arith

    from : (k a : ℕ) → find test (range_with_len a k) ≡ Some t →
        (a ≤ t) × (test t ≡ true) × ((s : ℕ) → a ≤ s → s < t → test s ≡ false)
    from zero a e = absurd cc
    from (suc k) a e = go (from k (a + 1)) (test a) refl e
      where
        go : (find test (range_with_len (a + 1) k) ≡ Some t → (a + 1 ≤ t) × (test t ≡ true) ×
            ((s : ℕ) → a + 1 ≤ s → s < t → test s ≡ false)) →
            (b : Bool) → test a ≡ b → cond b (Some a) (find test (range_with_len (a + 1) k)) ≡ Some t →
            (a ≤ t) × (test t ≡ true) × ((s : ℕ) → a ≤ s → s < t → test s ≡ false)
        go ih true q e =
            let r = here a e in (
              omega arith,
              (let k : test a ≡ test t = ap test r in sym k ∙ q),
              λ s le lt. absurd
                  (omega arith),
            )
        go ih false q e = let r = ih e in (let k = r.0 in omega arith, r.1, λ s le lt. least a s q (r.2 s) le lt)

pub find_none : {X : Type 0} (test : X → Bool) (xs : List X) → ((x : X) → IsIn x xs → test x ≡ false) →
    find test xs ≡ None
find_none test [] h = refl
find_none test (y ∷ ys) h = rw (h y (inl refl)) (find_none test ys (λ x i. h x (inr i)))

-- ---- the first answer
pub some_here : {Y : Type 0} (f : ℕ → Option Y) (a n : ℕ) (y : Y) → a < n → f a ≡ Some y →
    first_some f (range_with_len a (n - a)) ≡ Some y
some_here f a n y lt h = rw (range_step a n lt, h) refl

pub some_later : {Y : Type 0} (f : ℕ → Option Y) (a n : ℕ) → a < n → f a ≡ None →
    first_some f (range_with_len a (n - a)) ≡ first_some f (range_with_len (a + 1) (n - (a + 1)))
some_later f a n lt h = rw (range_step a n lt, h) refl

pub some_none : {X Y : Type 0} (f : X → Option Y) (xs : List X) → ((x : X) → IsIn x xs → f x ≡ None) →
    first_some f xs ≡ None
some_none f [] h = refl
some_none f (x ∷ xs) h = rw (h x (inl refl)) (some_none f xs (λ y i. h y (inr i)))

-- ---- the greatest value
pub greatest_step : (f : ℕ → ℕ) (a n : ℕ) → a < n →
    greatest (map f (range_with_len a (n - a))) ≡ max (f a) (greatest (map f (range_with_len (a + 1) (n - (a + 1)))))
greatest_step f a n lt = rw (range_step a n lt) refl

-- ---- membership
