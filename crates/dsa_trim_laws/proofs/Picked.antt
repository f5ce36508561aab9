-- Items that are picked out of a list by their numbers.
use Rattle.std.proofs.Common.{◌≡◌, ℕ, zero, suc, ◌+◌, ◌<◌, ◌≤◌, Bool, true, false, cond, List, [], ◌∷◌, map, length, filter, slice_get, take, Some, refl, ap, ◌∙◌, arith}
use Rattle.std.specs.List.{range_with_len}
use Rattle.dsa_terms.specs.Trims.{picked}

-- ---- lists
pub get_in : {X : Type 0} (xs : List X) (k : ℕ) (x : X) → slice_get xs k ≡ Some x → k < length xs
get_in [] k x h = absurd cc
get_in (y ∷ ys) zero x h = omega arith
get_in (y ∷ ys) (suc k) x h = let r = get_in ys k x h in omega arith

pub into_take : {X : Type 0} (xs : List X) (k j : ℕ) (x : X) → slice_get xs j ≡ Some x → j < k →
    slice_get (take k xs) j ≡ Some x
into_take [] k j x h lt = absurd cc
into_take (y ∷ ys) zero j x h lt = absurd (omega arith)
into_take (y ∷ ys) (suc k) zero x h lt = h
into_take (y ∷ ys) (suc k) (suc j) x h lt = into_take ys k j x h (omega arith)

pub of_get_map : {X Y : Type 0} (f : X → Y) (xs : List X) (k : ℕ) (y : Y) → slice_get (map f xs) k ≡ Some y →
    (x : X) × (slice_get xs k ≡ Some x) × (f x ≡ y)
of_get_map f [] k y h = absurd cc
of_get_map f (x ∷ xs) zero y h = (x, refl, cc)
of_get_map f (x ∷ xs) (suc k) y h = of_get_map f xs k y h

-- ---- how many of the numbers from n on, of so many, pass
abbrev pub passing : (ℕ → Bool) → ℕ → ℕ → ℕ
passing p n k = length (filter p (range_with_len n k))

passing_more : (p : ℕ → Bool) (n k : ℕ) → passing p n (suc k) ≡ cond (p n) (suc (passing p (n + 1) k))
    (passing p (n + 1) k)
passing_more p n k = go (p n)
  where
    go : (b : Bool) → length (cond b (n ∷ filter p (range_with_len (n + 1) k)) (filter p (range_with_len (n + 1) k)))
        ≡ cond b (suc (passing p (n + 1) k)) (passing p (n + 1) k)
    go true = refl
    go false = refl

-- one that passes is counted among those before a later one
pub passing_less : (p : ℕ → Bool) (n i k : ℕ) → i < k → p (n + i) ≡ true → passing p n i < passing p n k
passing_less p n i zero lt h = absurd (omega arith)
passing_less p n zero (suc k) lt h = let e : n + 0 ≡ n = omega arith in let t : p n ≡ true = rw (← e) h in
    rw (passing_more p n k, t) (omega arith)
passing_less p n (suc i) (suc k) lt h = rw (passing_more p n i, passing_more p n k)
    (go (p n) (passing_less p (n + 1) i k (omega arith) (rw e h)))
  where
    e : n + 1 + i ≡ n + suc i
    e = omega arith

    go : (b : Bool) → passing p (n + 1) i < passing p (n + 1) k →
        cond b (suc (passing p (n + 1) i)) (passing p (n + 1) i) < cond b (suc (passing p (n + 1) k))
        (passing p (n + 1) k)
    go true lt = omega arith
    go false lt = lt

-- none that passes from m on
pub passing_ends : (p : ℕ → Bool) (n m k : ℕ) → m ≤ k → ((i : ℕ) → m ≤ i → p (n + i) ≡ false) →
    passing p n k ≡ passing p n m
passing_ends p n zero zero le h = refl
passing_ends p n zero (suc k) le h =
    let e : n + 0 ≡ n = omega arith in let t : p n ≡ false = rw (← e) (h 0 (omega arith)) in
    rw (passing_more p n k, t) (passing_ends p (n + 1) zero k (omega arith)
    (λ i l. let q : n + 1 + i ≡ n + suc i = omega arith in rw q (h (suc i) (omega arith))))
passing_ends p n (suc m) zero le h = absurd (omega arith)
passing_ends p n (suc m) (suc k) le h = rw (passing_more p n k, passing_more p n m)
    (ap (λ c. cond (p n) (suc c) c) (passing_ends p (n + 1) m k (omega arith)
    (λ i l. let q : n + 1 + i ≡ n + suc i = omega arith in rw q (h (suc i) (omega arith)))))

pub passing_last : (p : ℕ → Bool) (n k : ℕ) → p (n + k) ≡ true → passing p n (suc k) ≡ suc (passing p n k)
passing_last p n zero h = let e : n + 0 ≡ n = omega arith in let t : p n ≡ true = rw (← e) h in
    rw (passing_more p n 0, t) refl
passing_last p n (suc k) h = rw (passing_more p n (suc k), passing_more p n k, passing_last p (n + 1) k (rw e h))
    (go (p n))
  where
    e : n + 1 + k ≡ n + suc k
    e = omega arith

    go : (b : Bool) → cond b (suc (suc (passing p (n + 1) k))) (suc (passing p (n + 1) k)) ≡ suc
        (cond b (suc (passing p (n + 1) k)) (passing p (n + 1) k))
    go true = refl
    go false = refl

-- all pass
pub passing_all : (p : ℕ → Bool) (n k : ℕ) → ((i : ℕ) → i < k → p (n + i) ≡ true) → passing p n k ≡ k
passing_all p n zero h = refl
passing_all p n (suc k) h = passing_last p n k (h k (omega arith))
    ∙ ap suc (passing_all p n k (λ i lt. h i (omega arith)))

-- ---- what is picked
pub length-picked : {X : Type 0} (p : ℕ → Bool) (n : ℕ) (xs : List X) → length (picked p n xs) ≡ passing p n (length xs)
length-picked p n [] = refl
length-picked {X} p n (x ∷ xs) = rw (passing_more p n (length xs)) (go (p n) (length-picked p (n + 1) xs))
  where
    go : (b : Bool) → length (picked p (n + 1) xs) ≡ passing p (n + 1) (length xs) →
        length (cond b (x ∷ picked p (n + 1) xs) (picked p (n + 1) xs)) ≡ cond b (suc (passing p (n + 1) (length xs)))
        (passing p (n + 1) (length xs))
    go true e = ap suc e
    go false e = e

pub picked_at : {X : Type 0} (p : ℕ → Bool) (n : ℕ) (xs : List X) (i : ℕ) (x : X) → slice_get xs i ≡ Some x →
    p (n + i) ≡ true → slice_get (picked p n xs) (passing p n i) ≡ Some x
picked_at p n [] i x h t = absurd cc
picked_at p n (y ∷ ys) zero x h t = let e : n + 0 ≡ n = omega arith in let q : p n ≡ true = rw (← e) t in rw q h
picked_at {X} p n (y ∷ ys) (suc i) x h t = rw (passing_more p n i) (go (p n) (picked_at p (n + 1) ys i x h (rw e t)))
  where
    e : n + 1 + i ≡ n + suc i
    e = omega arith

    go : (b : Bool) → slice_get (picked p (n + 1) ys) (passing p (n + 1) i) ≡ Some x →
        slice_get (cond b (y ∷ picked p (n + 1) ys) (picked p (n + 1) ys))
        (cond b (suc (passing p (n + 1) i)) (passing p (n + 1) i)) ≡ Some x
    go true q = q
    go false q = q

-- where what is picked stood
pub record IsFrom {X : Type 0} (p : ℕ → Bool) (n : ℕ) (xs : List X) (k : ℕ) (x : X) : Type 0 where
  pub place : ℕ
  pub there : slice_get xs place ≡ Some x
  pub passes : p (n + place) ≡ true
  pub number : k ≡ passing p n place

pub picked_from : {X : Type 0} (p : ℕ → Bool) (n : ℕ) (xs : List X) (k : ℕ) (x : X) →
    slice_get (picked p n xs) k ≡ Some x → IsFrom p n xs k x
picked_from p n [] k x h = absurd cc
picked_from {X} p n (y ∷ ys) k x h = go (p n) refl (λ j q. picked_from p (n + 1) ys j x q) k h
  where
    later : (b : Bool) → p n ≡ b → (j : ℕ) → IsFrom p (n + 1) ys j x → IsFrom p n (y ∷ ys) (cond b (suc j) j) x
    later b e j r = record {
      place = suc r.place;
      there = r.there;
      passes = (let q : n + suc r.place ≡ n + 1 + r.place = omega arith in rw q r.passes);
      number = rw (passing_more p n r.place, e, ← r.number) refl;
    }

    go : (b : Bool) → p n ≡ b → ((j : ℕ) → slice_get (picked p (n + 1) ys) j ≡ Some x → IsFrom p (n + 1) ys j x) →
        (k : ℕ) →
        slice_get (cond b (y ∷ picked p (n + 1) ys) (picked p (n + 1) ys)) k ≡ Some x → IsFrom p n (y ∷ ys) k x
    go true e ih zero q = record {
      place = 0;
      there = q;
      passes = (let z : n + 0 ≡ n = omega arith in rw z e);
      number = refl;
    }
    go true e ih (suc j) q = later true e j (ih j q)
    go false e ih k q = later false e k (ih k q)

pub picked_all : {X : Type 0} (p : ℕ → Bool) (n : ℕ) (xs : List X) → ((i : ℕ) → i < length xs → p (n + i) ≡ true) →
    picked p n xs ≡ xs
picked_all p n [] h = refl
picked_all p n (x ∷ xs) h =
    let e : n + 0 ≡ n = omega arith in let t : p n ≡ true = rw (← e) (h 0 (omega arith)) in
    rw t (ap (λ ys. x ∷ ys) (picked_all p (n + 1) xs (λ i lt. let q : n + 1 + i ≡ n + suc i = omega arith in
    rw q (h (suc i) (omega arith)))))
