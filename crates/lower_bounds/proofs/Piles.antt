-- Sums and greatest roundings: of one more, of no more, and in another order.
use Rattle.std.proofs.Common.{◌≡◌, ◌^◌, ℕ, suc, ◌+◌, ◌-◌, ◌*◌, ◌%◌, ◌≤◌, ◌⊎◌, inl, inr, Bool, true, false, cond, max, List, [], ◌∷◌, ◌++◌, map, length, filter, sum_by, le_antisymm, sym, refl, ap, ◌∙◌, arith, suc-mul, append-nil}
use Rattle.std.specs.List.Sorted.{IsPermutation}
use Rattle.std.proofs.lemmas.List.Elements.{filter-append}
use Rattle.std.proofs.lemmas.List.Sums.{sum_by-append, sum_by-cons}
use Rattle.std.proofs.lemmas.List.Sorted.{IsPermutation-sym, sum_by-IsPermutation}
use Rattle.dsa_start_laws.specs.Piles.{rounded_size}
use Rattle.dsa_terms.specs.Buffers.{Buffer, Instance, buffer}
use Rattle.dsa_terms.specs.Claims.{IsIn}
use Rattle.dsa_terms.specs.Logs.{greatest}
use Rattle.dsa_terms.proofs.Lists.{from_filter, into_filter, nil_or_not}
use Rattle.dsa_terms.proofs.Numbers.{next_is_below}
use Rattle.dsa_terms.proofs.NumberTests.{apart, same}
use Rattle.dsa_terms.proofs.Places.{in_permutation}
use Rattle.dsa_search_laws.proofs.Logs.{in_greatest}
use Rattle.dsa_start_laws.proofs.Piles.{greatest_in_sum}
use Rattle.dsa_start_laws.proofs.Stacks.{greatest_all}
use Rattle.dsa_model.specs.Buffer.{IsBuffer}
use Rattle.lower_bounds.specs.Stacks.{IsModulus, is_counted, piled_on, rounding_of, spare_of, total_of}

-- ---- a filter of one more
pub last_in : (p : ℕ → Bool) (xs : List ℕ) (b : ℕ) → p b ≡ true → filter p (xs ++ b ∷ []) ≡ filter p xs ++ b ∷ []
last_in p xs b t = filter-append p xs (b ∷ []) ∙ ap (λ c. filter p xs ++ cond c (b ∷ []) []) t

pub last_out : (p : ℕ → Bool) (xs : List ℕ) (b : ℕ) → p b ≡ false → filter p (xs ++ b ∷ []) ≡ filter p xs
last_out p xs b t =
    filter-append p xs (b ∷ []) ∙ (ap (λ c. filter p xs ++ cond c (b ∷ []) []) t ∙ append-nil (filter p xs))

-- ---- whether a buffer is counted, as its alignment tells
pub counted_true : (I : Instance) (G b a : ℕ) (x : Buffer) → x ≡ buffer I b → a ≡ x.alignment → a % G ≡ 0 →
    is_counted I G b ≡ true
counted_true I G b a x e f z =
    let k : a ≡ (buffer I b).alignment = f ∙ ap (λ (x : Buffer). x.alignment) e in
    same ((buffer I b).alignment % G) 0 (ap (λ n. n % G) (sym k) ∙ z)

pub counted_false : (I : Instance) (G b a : ℕ) (x : Buffer) → x ≡ buffer I b → a ≡ x.alignment → (a % G ≡ 0 → ⊥) →
    is_counted I G b ≡ false
counted_false I G b a x e f z =
    let k : a ≡ (buffer I b).alignment = f ∙ ap (λ (x : Buffer). x.alignment) e in
    apart ((buffer I b).alignment % G) 0 (λ h. z (ap (λ n. n % G) k ∙ h))

-- ---- one more
pub total_more : (I : Instance) (G : ℕ) (bs : List ℕ) (b : ℕ) →
    total_of I G (bs ++ b ∷ []) ≡ total_of I G bs + rounded_size I G b
unfolding total_of
total_more I G bs b = sum_by-append (rounded_size I G) bs (b ∷ [])
    ∙ ap (λ n. sum_by (rounded_size I G) bs + n) (sum_by-cons (rounded_size I G) b [] ∙ omega arith)

greatest_more : (f : ℕ → ℕ) (xs : List ℕ) (b : ℕ) → greatest (map f (xs ++ b ∷ [])) ≡ max (greatest (map f xs)) (f b)
greatest_more f [] b = omega arith
greatest_more f (x ∷ xs) b = let k = greatest_more f xs b in omega arith

pub spare_more : (I : Instance) (G : ℕ) (bs : List ℕ) (b : ℕ) →
    spare_of I G (bs ++ b ∷ []) ≡ max (spare_of I G bs) (rounding_of I G b)
unfolding spare_of
spare_more I G bs b = greatest_more (rounding_of I G) bs b

-- ---- how great they are
pub spare_in_total : (I : Instance) (G : ℕ) (bs : List ℕ) → spare_of I G bs ≤ total_of I G bs
unfolding spare_of total_of
spare_in_total I G bs = greatest_in_sum (rounded_size I G) (rounding_of I G) bs (λ b. omega arith)

pub rounded_limit : (I : Instance) (G b : ℕ) → IsBuffer (buffer I b) → IsModulus G → rounded_size I G b ≤ 2 ^ 41
unfolding rounded_size
rounded_limit I G b h m =
    let s = h.within_size in
    let k = next_is_below (buffer I b).size G m.some in
    let g = m.limit in
    omega arith

sum_limit : (f : ℕ → ℕ) (xs : List ℕ) (m : ℕ) → ((x : ℕ) → IsIn x xs → f x ≤ m) → sum_by f xs ≤ length xs * m
sum_limit f [] m h = omega arith
sum_limit f (x ∷ xs) m h =
    let k = h x (inl refl) in let z = sum_limit f xs m (λ y i. h y (inr i)) in
    rw (sum_by-cons f x xs) (step (f x) (sum_by f xs) (length xs) m k z)
  where
    step : (a s n m : ℕ) → a ≤ m → s ≤ n * m → a + s ≤ suc n * m
    step a s n m p q = let e : suc n * m ≡ n * m + m = suc-mul n m in omega arith

pub total_limit : (I : Instance) (G : ℕ) (bs : List ℕ) → ((b : ℕ) → IsIn b bs → IsBuffer (buffer I b)) → IsModulus G →
    total_of I G bs ≤ length bs * 2 ^ 41
unfolding total_of
total_limit I G bs h m = sum_limit (rounded_size I G) bs (2 ^ 41) (λ b i. rounded_limit I G b (h b i) m)

-- ---- none, and some
pub piled_on_none : (I : Instance) (H G : ℕ) (bs : List ℕ) → bs ≡ [] → piled_on I H G bs ≡ 0
unfolding piled_on
piled_on_none I H G bs e = rw e refl

pub piled_on_some : (I : Instance) (H G b : ℕ) (bs : List ℕ) → IsIn b bs →
    piled_on I H G bs ≡ H + (total_of I G bs - spare_of I G bs)
unfolding piled_on
piled_on_some I H G b [] i = absurd i
piled_on_some I H G b (c ∷ cs) i = refl

-- no more than that in either case
pub piled_on_under : (I : Instance) (H G : ℕ) (bs : List ℕ) →
    piled_on I H G bs ≤ H + (total_of I G bs - spare_of I G bs)
piled_on_under I H G bs = elim (nil_or_not bs) [
  | inl e ↦ (let k = piled_on_none I H G bs e in omega arith)
  | inr b ↦ (let k = piled_on_some I H G b.0 bs b.1 in omega arith)
]

-- ---- in another order
-- the number where the test holds, and else 0
abbrev only : (ℕ → Bool) → (ℕ → ℕ) → ℕ → ℕ
only q f b = cond (q b) (f b) 0

sum_only : (q : ℕ → Bool) (f : ℕ → ℕ) (xs : List ℕ) → sum_by f (filter q xs) ≡ sum_by (only q f) xs
sum_only q f [] = refl
sum_only q f (x ∷ xs) = go (q x) refl (sum_only q f xs)
  where
    go : (b : Bool) → q x ≡ b → sum_by f (filter q xs) ≡ sum_by (only q f) xs →
        sum_by f (cond b (x ∷ filter q xs) (filter q xs)) ≡ sum_by (only q f) (x ∷ xs)
    go true e ih = rw (sum_by-cons f x (filter q xs), sum_by-cons (only q f) x xs, e, ih) refl
    go false e ih = rw (sum_by-cons (only q f) x xs, e, ih) (omega arith)

module _ (I : Instance) (H G : ℕ) (p : ℕ → Bool) (xs ys : List ℕ) (moved : IsPermutation xs ys) where
  forth : (b : ℕ) → IsIn b (filter p xs) → IsIn b (filter p ys)
  forth b i = let r = from_filter p xs b i in into_filter p ys b (in_permutation xs ys b moved r.0) r.1

  back : (b : ℕ) → IsIn b (filter p ys) → IsIn b (filter p xs)
  back b i =
      let r = from_filter p ys b i in
      into_filter p xs b (in_permutation ys xs b (IsPermutation-sym xs ys moved) r.0) r.1

  total_moved : total_of I G (filter p xs) ≡ total_of I G (filter p ys)
  unfolding total_of
  total_moved = sum_only p (rounded_size I G) xs
      ∙ (sym (sum_by-IsPermutation (only p (rounded_size I G)) xs ys moved) ∙ sym (sum_only p (rounded_size I G) ys))

  spare_moved : spare_of I G (filter p xs) ≡ spare_of I G (filter p ys)
  unfolding spare_of
  spare_moved = le_antisymm
      (greatest_all (rounding_of I G) (filter p xs) (greatest (map (rounding_of I G) (filter p ys)))
      (λ b i. in_greatest (rounding_of I G) (filter p ys) b (forth b i)))
      (greatest_all (rounding_of I G) (filter p ys) (greatest (map (rounding_of I G) (filter p xs)))
      (λ b i. in_greatest (rounding_of I G) (filter p xs) b (back b i)))

  pub piled_on_moved : piled_on I H G (filter p xs) ≡ piled_on I H G (filter p ys)
  piled_on_moved = elim (nil_or_not (filter p ys)) [
    | inl e ↦ piled_on_none I H G (filter p xs) (none e (nil_or_not (filter p xs)))
        ∙ sym (piled_on_none I H G (filter p ys) e)
    | inr b ↦ (
        let x = piled_on_some I H G b.0 (filter p xs) (back b.0 b.1) in
        let y = piled_on_some I H G b.0 (filter p ys) b.1 in
        let t = total_moved in
        let s = spare_moved in
        omega arith)
  ]
    where
      none : filter p ys ≡ [] → (filter p xs ≡ []) ⊎ ((b : ℕ) × IsIn b (filter p xs)) → filter p xs ≡ []
      none e (inl f) = f
      none e (inr b) = absurd (rw e at (forth b.0 b.1))
