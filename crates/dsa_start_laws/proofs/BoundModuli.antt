-- The least modulus that reaches the lower bound, and when the bound is above 0.
use Rattle.std.proofs.Common.{◌≡◌, ℕ, ◌-◌, ◌%◌, ◌<◌, ◌≤◌, ◌≢◌, ◌⊎◌, inl, inr, ◌==◌, List, [], ◌∷◌, map, length, filter, sum_by, min, sym, refl, ap, ◌∙◌, arith}
use Rattle.std.specs.List.{fold}
use Rattle.std.specs.Int.{next_multiple_of}
use Rattle.std.proofs.lemmas.List.Sums.{sum_by-cons}
use Rattle.dsa_terms.specs.Buffers.{Instance, buffer, IsLive, IsInstance}
use Rattle.dsa_terms.specs.Claims.{IsIn}
use Rattle.dsa_terms.specs.Logs.{greatest}
use Rattle.dsa_terms.specs.Bounds.{moduli, highest_stack, lower_bound, least_of, bound_modulus}
use Rattle.dsa_terms.proofs.Lists.{from_map, from_filter, into_filter}
use Rattle.dsa_terms.proofs.Moments.{sound}
use Rattle.dsa_terms.proofs.NumberTests.{equal, same}
use Rattle.dsa_search_laws.proofs.Logs.{in_greatest}
use Rattle.dsa_start_laws.specs.Piles.{counted_buffers, rounded_size, pile}
use Rattle.dsa_start_laws.proofs.Piles.{into_counted, stack_of_some}
use Rattle.dsa_start_laws.proofs.Stacks.{greatest_is, stack_under_bound, zero_height}

-- ---- the least modulus that reaches the bound
some_modulus : (I : Instance) → (G : ℕ) × IsIn G (moduli I) × (highest_stack I G ≡ lower_bound I)
unfolding lower_bound moduli
some_modulus I = elim (greatest_is (map (highest_stack I) (moduli I))) [
  | inl z ↦ (1, inl refl, (let k = in_greatest (highest_stack I) (moduli I) 1 (inl refl) in omega arith))
  | inr i ↦ (let r = from_map (highest_stack I) (moduli I) (greatest (map (highest_stack I) (moduli I))) i in
      (r.0, r.1, sym r.2))
]

-- the least of some numbers is one of them, and at most each
pub record IsLeastOf (xs : List ℕ) (m : ℕ) : Type 0 where
  pub is_in : IsIn m xs
  pub least : (x : ℕ) → IsIn x xs → m ≤ x

fold_min : (m : ℕ) (xs : List ℕ) → IsLeastOf (m ∷ xs) (fold min m xs)
fold_min m [] = record { is_in = inl refl; least = λ x i. elim i [ inl q ↦ omega arith | inr q ↦ absurd q ] }
fold_min m (y ∷ ys) = go (min m y) (picks m y) (fold_min (min m y) ys)
  where
    picks : (m y : ℕ) → ((min m y ≡ m) × (m ≤ y)) ⊎ ((min m y ≡ y) × (y ≤ m))
    picks m y = elim (cases m y) [ inl l ↦ inl (omega arith, l) | inr l ↦ inr (omega arith, l) ]
      where
        cases : (m y : ℕ) → (m ≤ y) ⊎ (y ≤ m)
        cases m y = grind arith

    go : (k : ℕ) → ((k ≡ m) × (m ≤ y)) ⊎ ((k ≡ y) × (y ≤ m)) → IsLeastOf (k ∷ ys) (fold min k ys) →
        IsLeastOf (m ∷ y ∷ ys) (fold min k ys)
    go k c r = record { is_in = among r.is_in; least = below }
      where
        among : (fold min k ys ≡ k) ⊎ IsIn (fold min k ys) ys → IsIn (fold min k ys) (m ∷ y ∷ ys)
        among (inr i) = inr (inr i)
        among (inl q) = elim c [ inl d ↦ inl (q ∙ d.0) | inr d ↦ inr (inl (q ∙ d.0)) ]

        below : (x : ℕ) → IsIn x (m ∷ y ∷ ys) → fold min k ys ≤ x
        below x i = let z = r.least k (inl refl) in elim c [ inl d ↦ with_first d i | inr d ↦ with_second d i ]
          where
            with_first : (k ≡ m) × (m ≤ y) → IsIn x (m ∷ y ∷ ys) → fold min k ys ≤ x
            with_first d (inl q) = let z = r.least k (inl refl) in let a = d.0 in omega arith
            with_first d (inr (inl q)) = let z = r.least k (inl refl) in let a = d.0 in let b = d.1 in omega arith
            with_first d (inr (inr j)) = r.least x (inr j)

            with_second : (k ≡ y) × (y ≤ m) → IsIn x (m ∷ y ∷ ys) → fold min k ys ≤ x
            with_second d (inl q) = let z = r.least k (inl refl) in let a = d.0 in let b = d.1 in omega arith
            with_second d (inr (inl q)) = let z = r.least k (inl refl) in let a = d.0 in omega arith
            with_second d (inr (inr j)) = r.least x (inr j)

pub least_is : (xs : List ℕ) (other x : ℕ) → IsIn x xs → IsLeastOf xs (least_of xs other)
unfolding least_of
least_is [] other x i = absurd i
least_is (y ∷ ys) other x i = fold_min y ys

pub bound_modulus_is : (I : Instance) → IsLeastOf (filter (λ G. highest_stack I G == lower_bound I) (moduli I))
    (bound_modulus I)
unfolding bound_modulus
bound_modulus_is I = let r = some_modulus I in
    least_is (filter (λ G. highest_stack I G == lower_bound I) (moduli I)) 1 r.0
    (into_filter (λ G. highest_stack I G == lower_bound I) (moduli I) r.0 r.1
    (same (highest_stack I r.0) (lower_bound I) r.2))

pub bound_modulus_among : (I : Instance) → IsIn (bound_modulus I) (moduli I)
bound_modulus_among I = (from_filter (λ G. highest_stack I G == lower_bound I) (moduli I) (bound_modulus I)
    (bound_modulus_is I).is_in).0

pub bound_modulus_reaches : (I : Instance) → highest_stack I (bound_modulus I) ≡ lower_bound I
bound_modulus_reaches I = equal (highest_stack I (bound_modulus I)) (lower_bound I)
    (from_filter (λ G. highest_stack I G == lower_bound I) (moduli I) (bound_modulus I) (bound_modulus_is I).is_in).1

pub bound_modulus_least : (I : Instance) (G : ℕ) → IsIn G (moduli I) → highest_stack I G ≡ lower_bound I →
    bound_modulus I ≤ G
bound_modulus_least I G i q = (bound_modulus_is I).least G
    (into_filter (λ G. highest_stack I G == lower_bound I) (moduli I) G i
    (same (highest_stack I G) (lower_bound I) q))

-- ---- a buffer that is live at some moment lifts the bound above 0
one_counts : (I : Instance) (t b : ℕ) → b < length I → IsLive (buffer I b) t → IsIn b (counted_buffers I t 0 1)
one_counts I t b lt live = into_counted I t 0 1 b lt live (omega arith)
    (same ((buffer I b).alignment % 1) 0 (omega arith))

-- by modulus 1 the stack is the load of the counted
unrounded : (x : ℕ) → next_multiple_of x 1 ≡ x
unrounded x = omega arith

pub stack_by_one : (I : Instance) (p : List ℕ) →
    sum_by (rounded_size I 1) p - greatest (map (λ b. rounded_size I 1 b - (buffer I b).size) p) ≡ sum_by
    (λ b. (buffer I b).size) p
unfolding rounded_size
stack_by_one I p = let z = no_roundings p in let s = sums p in omega arith
  where
    no_roundings : (p : List ℕ) → greatest (map (λ b. next_multiple_of (buffer I b).size 1 - (buffer I b).size) p) ≡ 0
    no_roundings [] = refl
    no_roundings (b ∷ bs) = let k = unrounded (buffer I b).size in let z = no_roundings bs in omega arith

    sums : (p : List ℕ) → sum_by (λ b. next_multiple_of (buffer I b).size 1) p ≡ sum_by (λ b. (buffer I b).size) p
    sums [] = refl
    sums (b ∷ bs) = rw (
      sum_by-cons (λ b. next_multiple_of (buffer I b).size 1) b bs,
      sum_by-cons (λ b. (buffer I b).size) b bs,
      sums bs,
      unrounded (buffer I b).size,
    ) refl

in_sum : (f : ℕ → ℕ) (p : List ℕ) (b : ℕ) → IsIn b p → f b ≤ sum_by f p
in_sum f [] b i = absurd i
in_sum f (c ∷ cs) b (inl q) = rw (sum_by-cons f c cs) (let k : f b ≡ f c = ap f q in omega arith)
in_sum f (c ∷ cs) b (inr i) = rw (sum_by-cons f c cs) (let k = in_sum f cs b i in omega arith)

positive_pile : (I : Instance) (t b : ℕ) → IsInstance I → b < length I → IsLive (buffer I b) t → 1 ≤ pile I t 0 1
unfolding pile
positive_pile I t b s lt live =
    let q = stack_by_one I (counted_buffers I t 0 1) in
    let k = in_sum (λ b. (buffer I b).size) (counted_buffers I t 0 1) b (one_counts I t b lt live) in
    let z = (sound I b s).0 in
    omega arith

pub bound_is_positive : (I : Instance) (t b : ℕ) → IsInstance I → b < length I → IsLive (buffer I b) t →
    1 ≤ lower_bound I
unfolding moduli
bound_is_positive I t b s lt live =
    let a = stack_under_bound I t 0 1 (inl refl) (zero_height I 1) in
    let e = stack_of_some I t 0 1 (filled (counted_buffers I t 0 1) (one_counts I t b lt live)) in
    let k = positive_pile I t b s lt live in
    omega arith
  where
    filled : (p : List ℕ) → IsIn b p → p ≢ []
    filled [] i = absurd i
    filled (c ∷ cs) i = λ e. cc
