-- Where all sizes are equal, the plan by size class is at the greatest load.
use Rattle.std.proofs.Common.{◌≡◌, ◌≢◌, ℕ, zero, suc, ◌-◌, ◌*◌, ◌%◌, ◌≤◌, ◌⊎◌, inl, inr, Bool, true, false, cond, ◌==◌, ◌&&◌, List, [], ◌∷◌, filter, length, map, nat_le, sum_by, refl, sym, ap, ◌∙◌, arith, mul-le-mul_left, mul-suc}
use Rattle.std.proofs.Math.Nat.{mul-le-mul_right, mul-zero, zero-mul}
use Rattle.std.proofs.lemmas.Bool.Decides.{nat_tests}
use Rattle.std.proofs.lemmas.List.Sums.{sum_by-cons}
use Rattle.dsa_terms.specs.Buffers.{Instance, buffer, floor, is_live, IsInstance}
use Rattle.dsa_terms.specs.Bounds.{moments}
use Rattle.dsa_terms.specs.Claims.{IsIn}
use Rattle.dsa_terms.specs.Layouts.{IsInfeasible, IsLeast}
use Rattle.dsa_terms.specs.Parts.{numbers}
use Rattle.dsa_terms.specs.Plans.{IsPeak, load}
use Rattle.dsa_terms.proofs.Lists.{from_map, greatest_under, nil_or_not}
use Rattle.dsa_terms.proofs.Moments.{both_true}
use Rattle.dsa_start_laws.proofs.BoundModuli.{stack_by_one}
use Rattle.dsa_start_laws.specs.Piles.{counted_buffers, pile}
use Rattle.dsa_start_laws.proofs.Loads.{load_is_pile, load_under_bound}
use Rattle.dsa_start_laws.proofs.Peaks.{has_peak}
use Rattle.dsa_start_laws.proofs.Piles.{in_counted}
use Rattle.dsa_start_laws.proofs.Stacks.{bound_is_low, greatest_is}
use Rattle.size_classes.specs.Classes.{class_of, count, in_class, last_class, widest, width}
use Rattle.size_classes.specs.Plain.{IsPlain}
use Rattle.size_classes.specs.Plans.{AllOf, class_height, IsPeakLoad, start_of}
use Rattle.size_classes.specs.Slots.{live_among, most_live}
use Rattle.size_classes.proofs.PlanLemmas.{from_class, plan_is_layout}

-- ---- the load is the size times how many are live
sum_is : (f : ℕ → ℕ) (m : ℕ) (xs : List ℕ) → ((x : ℕ) → IsIn x xs → f x ≡ m) → sum_by f xs ≡ m * length xs
sum_is f m [] h = sym (mul-zero m)
sum_is f m (x ∷ xs) h =
    let a = sum_by-cons f x xs in
    let ih = sum_is f m xs (λ y i. h y (inr i)) in
    let e = h x (inl refl) in
    let k = mul-suc m (length xs) in omega arith

load_is_product : (I : Instance) (size t : ℕ) → AllOf I size →
    load I t ≡ size * length (counted_buffers I t 0 1)
unfolding pile
load_is_product I size t h =
    sym (load_is_pile I t) ∙ stack_by_one I (counted_buffers I t 0 1)
    ∙ sum_is (λ b. (buffer I b).size) size (counted_buffers I t 0 1) (λ b i. h b (in_counted I t 0 1 b i).0)

fewer_of : (p q r : ℕ → Bool) (xs : List ℕ) → ((x : ℕ) → q x ≡ true → r x ≡ true) →
    length (filter q (filter p xs)) ≤ length (filter r xs)
fewer_of p q r [] h = omega arith
fewer_of p q r (x ∷ xs) h = go (fewer_of p q r xs h) (p x) (q x) (r x) refl refl
  where
    go : length (filter q (filter p xs)) ≤ length (filter r xs) → (s t u : Bool) → q x ≡ t → r x ≡ u →
        length (filter q (cond s (x ∷ filter p xs) (filter p xs))) ≤ length (cond u (x ∷ filter r xs) (filter r xs))
    go ih true true true e f = rw e (omega arith)
    go ih true true false e f = absurd (let k = h x e in cc)
    go ih true false true e f = rw e (omega arith)
    go ih true false false e f = rw e ih
    go ih false t true e f = omega arith
    go ih false t false e f = ih

live_are_counted : (I : Instance) (k t : ℕ) →
    length (live_among I (in_class I k) t) ≤ length (counted_buffers I t 0 1)
unfolding live_among in_class counted_buffers
live_are_counted I k t =
    fewer_of (λ b. class_of (buffer I b).size == k) (λ b. is_live (buffer I b) t)
    (λ b. is_live (buffer I b) t && nat_le 0 (floor (buffer I b)) && ((buffer I b).alignment % 1 == 0))
    (numbers (length I))
    (λ b l. both_true (is_live (buffer I b) t && nat_le 0 (floor (buffer I b))) ((buffer I b).alignment % 1 == 0)
    (both_true (is_live (buffer I b) t) (nat_le 0 (floor (buffer I b))) l (from_zero (floor (buffer I b))))
    (one (buffer I b).alignment))
  where
    from_zero : (m : ℕ) → nat_le 0 m ≡ true
    from_zero m = grind (arith, nat_tests)

    one : (m : ℕ) → (m % 1 == 0) ≡ true
    one m = let e : m % 1 ≡ 0 = omega arith in rw e refl

-- ---- there is one class
other_is_empty : (I : Instance) (size k : ℕ) → AllOf I size → k ≢ class_of size → width I k ≤ 0
unfolding widest
other_is_empty I size k h ne = greatest_under (map (λ b. (buffer I b).size) (in_class I k)) 0 each
  where
    each : (x : ℕ) → IsIn x (map (λ b. (buffer I b).size) (in_class I k)) → x ≤ 0
    each x i =
        let r = from_map (λ b. (buffer I b).size) (in_class I k) x i in
        let c = from_class I k r.0 r.1 in
        absurd (ne (sym c.1 ∙ ap class_of (h r.0 c.0)))

width_is_size : (I : Instance) (size k : ℕ) → AllOf I size → width I k ≤ size
unfolding widest
width_is_size I size k h = greatest_under (map (λ b. (buffer I b).size) (in_class I k)) size each
  where
    each : (x : ℕ) → IsIn x (map (λ b. (buffer I b).size) (in_class I k)) → x ≤ size
    each x i =
        let r = from_map (λ b. (buffer I b).size) (in_class I k) x i in
        let c = from_class I k r.0 r.1 in
        let e = h r.0 c.0 in let f = r.2 in omega arith

-- the height of one class, by its number
abbrev of_class : Instance → ℕ → ℕ
of_class I k = width I k * count I k

nothing : (m n : ℕ) → m ≤ 0 → m * n ≤ 0
nothing m n le = let e : m ≡ 0 = omega arith in rw (e, zero-mul n) (omega arith)

none_yet : (I : Instance) (size n : ℕ) → AllOf I size → n ≤ class_of size → start_of I n ≤ 0
none_yet I size zero h le = omega arith
none_yet I size (suc n) h le =
    let ih = none_yet I size n h (omega arith) in
    let z = nothing (width I n) (count I n) (other_is_empty I size n h (λ e. omega arith)) in omega arith

at_most_one : (I : Instance) (size n : ℕ) → AllOf I size → start_of I n ≤ of_class I (class_of size)
at_most_one I size zero h = omega arith
at_most_one I size (suc n) h = go (at_most_one I size n h) (three n (class_of size))
  where
    three : (m k : ℕ) → (m ≡ k) ⊎ (m ≢ k)
    three m k = grind arith

    go : start_of I n ≤ of_class I (class_of size) → (n ≡ class_of size) ⊎ (n ≢ class_of size) →
        start_of I (suc n) ≤ of_class I (class_of size)
    go ih (inl e) =
        let z = none_yet I size n h (omega arith) in
        let f : of_class I n ≡ of_class I (class_of size) = ap (of_class I) e in omega arith
    go ih (inr ne) =
        let z = nothing (width I n) (count I n) (other_is_empty I size n h ne) in omega arith

-- ---- its height is reached by a load
abbrev IsReachedByLoad : Instance → ℕ → Type 0
IsReachedByLoad I h = (h ≤ 0) ⊎ ((t : ℕ) × (h ≤ load I t))

one_is_load : (I : Instance) (size : ℕ) → AllOf I size → IsReachedByLoad I (of_class I (class_of size))
unfolding most_live
one_is_load I size h = go (greatest_is (map (λ t. length (live_among I (in_class I (class_of size)) t)) (moments I)))
  where
    go : (count I (class_of size) ≡ 0)
        ⊎ IsIn (count I (class_of size)) (map (λ t. length (live_among I (in_class I (class_of size)) t)) (moments I)) →
        IsReachedByLoad I (of_class I (class_of size))
    go (inl z) = inl (rw (z, mul-zero (width I (class_of size))) (omega arith))
    go (inr i) =
        let r = from_map (λ t. length (live_among I (in_class I (class_of size)) t)) (moments I)
        (count I (class_of size)) i in
        let e = r.2 in
        let few = live_are_counted I (class_of size) r.0 in
        let m : width I (class_of size) * count I (class_of size) ≤ width I (class_of size) * length
        (counted_buffers I r.0 0 1) =
        mul-le-mul_left (width I (class_of size)) (omega arith) in
        let w : width I (class_of size) * length (counted_buffers I r.0 0 1)
        ≤ size * length (counted_buffers I r.0 0 1) =
        mul-le-mul_right (length (counted_buffers I r.0 0 1)) (width_is_size I size (class_of size) h) in
        let l = load_is_product I size r.0 h in
        inr (r.0, (omega arith))

height_is_load : (I : Instance) (size : ℕ) → AllOf I size → IsReachedByLoad I (class_height I)
unfolding class_height
height_is_load I size h =
    let k = at_most_one I size (suc (last_class I)) h in
    elim (one_is_load I size h) [
      | inl z ↦ inl (omega arith)
      | inr r ↦ inr (r.0, (let l = r.1 in omega arith))
    ]

load_within : (I : Instance) (t : ℕ) → IsInstance I → IsPlain I → load I t ≤ class_height I
load_within I t s p =
    let a = load_under_bound I t in
    let b = bound_is_low I (class_height I) s (_, plan_is_layout I s p) in omega arith

pub equal_is_least : (I : Instance) (size : ℕ) → IsInstance I → IsPlain I →
    AllOf I size → IsLeast I (class_height I)
equal_is_least I size s p h = ((_, plan_is_layout I s p), go (height_is_load I size h) (cases (class_height I)))
  where
    cases : (n : ℕ) → (n ≡ 0) ⊎ (1 ≤ n)
    cases n = grind arith

    go : IsReachedByLoad I (class_height I) → (class_height I ≡ 0) ⊎ (1 ≤ class_height I) →
        (class_height I ≡ 0) ⊎ IsInfeasible I (class_height I - 1)
    go r (inl z) = inl z
    go (inl z) (inr pos) = inl (omega arith)
    go (inr r) (inr pos) = inr (λ offsets l.
        let a = bound_is_low I (class_height I - 1) s (offsets, l) in
        let b = load_under_bound I r.0 in let c = r.1 in omega arith)

pub equal_is_load : (I : Instance) (size t : ℕ) → IsInstance I → IsPlain I →
    AllOf I size → IsPeak I t → class_height I ≡ load I t
equal_is_load I size t s p h peak =
    let low = load_within I t s p in
    elim (height_is_load I size h) [
      | inl z ↦ omega arith
      | inr r ↦ (let m = peak.most r.0 in let l = r.1 in omega arith)
    ]

pub nothing_high : class_height [] ≡ 0
unfolding class_height last_class widest in_class most_live live_among moments
nothing_high = refl

pub height_is_peak : (I : Instance) (size value : ℕ) → IsInstance I → IsPlain I → AllOf I size → IsPeakLoad I value →
    class_height I ≡ value
height_is_peak I size value s p h load = elim (nil_or_not I) [
  | inl e ↦ ap class_height e ∙ nothing_high ∙ sym (load.none e)
  | inr w ↦ (let t = has_peak I (λ e. rw e at w.1) in
      equal_is_load I size t.0 s p h t.1 ∙ sym (load.some t.0 t.1))
]
