-- All buffers brought into an order by keys that rise as the measure falls.
use Rattle.std.proofs.Common.{◌≡◌, ◌≢◌, ◌^◌, ℕ, suc, ◌+◌, ◌-◌, ◌<◌, ◌≤◌, ◌⊎◌, inl, inr, Bool, true, false, cond, ◌==◌, ◌&&◌, ◌||◌, nat_lt, List, [], ◌∷◌, ◌++◌, length, map, slice_index_or, refl, sym, ap, ◌∙◌, subst, arith, nat_cmp}
use Rattle.std.proofs.lemmas.Bool.Decides.{nat_tests}
use Rattle.std.specs.List.{AllByRecursion, IsDistinct}
use Rattle.std.specs.List.Sorted.{IsPermutation, IsSorted}
use Rattle.std.specs.Ordering.{is_lt, ordering_then}
use Rattle.std.specs.declared.cmp.Ordering.TheVariants.{Equal, Greater, Less}
use Rattle.std.proofs.lemmas.List.FromFn.{length-range_with_len, map-range_with_len_more}
use Rattle.std.proofs.lemmas.List.Sorted.{IsPermutation-map, IsPermutation-sym, length_permutation}
use Rattle.std.proofs.lemmas.Map.Keys.{IsDistinct-IsPermutation}
use Rattle.dsa_terms.specs.Buffers.{Buffer, Instance, buffer}
use Rattle.dsa_terms.specs.Claims.{IsIn}
use Rattle.dsa_terms.specs.Sorts.{ordered_by, IsOrdered}
use Rattle.dsa_terms.specs.Orders.{falls_by}
use Rattle.dsa_terms.specs.Parts.{numbers}
use Rattle.dsa_terms.proofs.Lists.{from_map}
use Rattle.dsa_terms.proofs.NumberTests.{differ, equal, not_less}
use Rattle.dsa_terms.proofs.Places.{all_from_in, in_from_all, in_permutation}
use Rattle.dsa_terms.proofs.Ranges.{among, below}
use Rattle.dsa_start_laws.proofs.Orders.{measures_are_orders, numbers_are_ordered, one_order, ordered_members}
use Rattle.first_fit.specs.Rules.{IsOrderOf}
use Rattle.first_fit.proofs.Ordering.{IsUpTo, pair_cmp}
use Rattle.row_orders.proofs.Once.{numbers_distinct}

-- the number that rises as the measure falls, before the buffer's own number
abbrev pub keyed : (Buffer → ℕ) → Instance → ℕ → ℕ × ℕ
keyed measure I b = (2 ^ 128 - 1 - measure (buffer I b), b)

-- ---- how pairs are compared
not_before : (k l b c : ℕ) → is_lt (ordering_then (nat_cmp l k) (nat_cmp c b)) ≡ false → (k < l) ⊎ ((k ≡ l) × (b ≤ c))
not_before k l b c h = go (nat_lt l k) refl (l == k) refl (nat_lt c b) refl (c == b) h
  where
    more : (m n : ℕ) → n ≤ m → m ≢ n → n < m
    more m n p q = grind arith

    go : (p : Bool) → nat_lt l k ≡ p → (q : Bool) → (l == k) ≡ q → (r : Bool) → nat_lt c b ≡ r → (s : Bool) →
        is_lt (ordering_then (cond p Less (cond q Equal Greater)) (cond r Less (cond s Equal Greater))) ≡ false →
        (k < l) ⊎ ((k ≡ l) × (b ≤ c))
    go true p q e r f s g = absurd cc
    go false p true e true f s g = absurd cc
    go false p true e false f s g = inr (sym (equal l k e), not_less c b f)
    go false p false e r f s g = inl (more l k (not_less l k p) (differ l k e))

along : (x y z : ℕ × ℕ) → IsUpTo x y → IsUpTo y z → IsUpTo x z
along x y z (inl p) (inl q) = inl (omega arith)
along x y z (inl p) (inr q) = inl (omega arith)
along x y z (inr p) (inl q) = inl (omega arith)
along x y z (inr p) (inr q) = inr (omega arith, omega arith)

later : (x : ℕ × ℕ) (xs : List (ℕ × ℕ)) →
    ((i j : ℕ) (d : ℕ × ℕ) → j ≡ i + 1 → j < length (x ∷ xs) →
    IsUpTo (slice_index_or (x ∷ xs) i d) (slice_index_or (x ∷ xs) j d)) →
    (y : ℕ × ℕ) → IsIn y xs → IsUpTo x y
later x [] h y i = absurd i
later x (z ∷ zs) h y (inl q) = rw q (h 0 1 z (omega arith) (omega arith))
later x (z ∷ zs) h y (inr i) = along x z y (h 0 1 z (omega arith) (omega arith))
    (later z zs (λ i j d e lt. h (suc i) (suc j) d (omega arith) (omega arith)) y i)

-- ---- the buffer of the lesser key comes first
comes_first : (measure : Buffer → ℕ) (I : Instance) (b c : ℕ) → measure (buffer I b) ≤ 2 ^ 102 →
    measure (buffer I c) ≤ 2 ^ 102 → IsUpTo (keyed measure I b) (keyed measure I c) → b ≢ c →
    falls_by measure I b c ≡ true
unfolding falls_by
comes_first measure I b c x y h ne = go (measure (buffer I b)) (measure (buffer I c)) x y h
  where
    go : (m n : ℕ) → m ≤ 2 ^ 102 → n ≤ 2 ^ 102 →
        (2 ^ 128 - 1 - m < 2 ^ 128 - 1 - n) ⊎ ((2 ^ 128 - 1 - m ≡ 2 ^ 128 - 1 - n) × (b ≤ c)) →
        (nat_lt n m || ((n == m) && nat_lt b c)) ≡ true
    go m n p q (inl k) = by_measure m n (omega arith)
      where
        by_measure : (m n : ℕ) → n < m → (nat_lt n m || ((n == m) && nat_lt b c)) ≡ true
        by_measure m n l = grind (arith, nat_tests)
    go m n p q (inr k) = by_number m n (omega arith) (less b c k.1 ne)
      where
        less : (m n : ℕ) → m ≤ n → m ≢ n → m < n
        less m n p q = grind arith

        by_number : (m n : ℕ) → m ≡ n → b < c → (nat_lt n m || ((n == m) && nat_lt b c)) ≡ true
        by_number m n e l = grind (arith, nat_tests)

all_at : {X : Type 0} (P : X → Type 0) (xs : List X) (x : X) → AllByRecursion P xs → IsIn x xs → P x
all_at P [] x h i = absurd i
all_at P (y ∷ ys) x h (inl q) = rw q h.0
all_at P (y ∷ ys) x h (inr i) = all_at P ys x h.1 i

-- what holds of the keys of buffers, once they are sorted
record AreSorted (measure : Buffer → ℕ) (I : Instance) (es : List (ℕ × ℕ)) : Type 0 where
  each : (e : ℕ × ℕ) → IsIn e es → (e ≡ keyed measure I e.1) × (measure (buffer I e.1) ≤ 2 ^ 102)
  climbs : (i j : ℕ) (d : ℕ × ℕ) → j ≡ i + 1 → j < length es → IsUpTo (slice_index_or es i d) (slice_index_or es j d)
  distinct : IsDistinct (λ (m n : ℕ). m == n) (map (λ (e : ℕ × ℕ). e.1) es)

ordered_from : (measure : Buffer → ℕ) (I : Instance) (es : List (ℕ × ℕ)) → AreSorted measure I es →
    IsOrdered (falls_by measure I) (map (λ (e : ℕ × ℕ). e.1) es)
unfolding IsDistinct
ordered_from measure I [] h = tt
ordered_from measure I (e ∷ es) h = (
  first,
  ordered_from measure I es record {
    each = λ f i. h.each f (inr i);
    climbs = λ i j d e lt. h.climbs (suc i) (suc j) d (omega arith) (omega arith);
    distinct = h.distinct.1;
  },
)
  where
    first : (c : ℕ) → IsIn c (map (λ (e : ℕ × ℕ). e.1) es) → falls_by measure I e.1 c ≡ true
    first c i =
        let r = from_map (λ (e : ℕ × ℕ). e.1) es c i in
        let x = h.each e (inl refl) in
        let y = h.each r.0 (inr r.1) in
        let up : IsUpTo e r.0 = later e es h.climbs r.0 r.1 in
        let d = differ e.1 c (all_at (λ (c : ℕ). (e.1 == c) ≡ false) (map (λ (e : ℕ × ℕ). e.1) es) c h.distinct.0 i) in
        rw r.2 (comes_first measure I e.1 r.0.1 x.1 y.1 (subst (λ (p : ℕ × ℕ). IsUpTo p (keyed measure I r.0.1)) x.0
        (subst (λ (p : ℕ × ℕ). IsUpTo e p) y.0 up)) (rw r.2 at d))

-- ---- all of them
numbers_of_keyed : (measure : Buffer → ℕ) (I : Instance) (bs : List ℕ) →
    map (λ (e : ℕ × ℕ). e.1) (map (keyed measure I) bs) ≡ bs
numbers_of_keyed measure I [] = refl
numbers_of_keyed measure I (b ∷ bs) = ap (λ (xs : List ℕ). b ∷ xs) (numbers_of_keyed measure I bs)

pub keyed_more : (measure : Buffer → ℕ) (I : Instance) (b m k : ℕ) (xs ys : List (ℕ × ℕ)) →
    xs ≡ map (keyed measure I) (numbers b) → m ≡ measure (buffer I b) → k ≡ 2 ^ 128 - 1 - m → ys ≡ xs ++ (k, b) ∷ [] →
    ys ≡ map (keyed measure I) (numbers (b + 1))
keyed_more measure I b m k xs ys e f g h =
    let more = map-range_with_len_more (keyed measure I) 0 b b (omega arith) in
    h ∙ rw (e, g, f) (sym more)

renumbered : (measure : Buffer → ℕ) (I : Instance) (n : ℕ) (xs ys : List (ℕ × ℕ)) →
    xs ≡ map (keyed measure I) (numbers n) → IsPermutation xs ys →
    IsPermutation (numbers n) (map (λ (e : ℕ × ℕ). e.1) ys)
renumbered measure I n xs ys is moved =
    rw (is, numbers_of_keyed measure I (numbers n)) at (IsPermutation-map (λ (e : ℕ × ℕ). e.1) xs ys moved)

pub sorted_is : (measure : Buffer → ℕ) (I : Instance) (m : ℕ) (xs ys : List (ℕ × ℕ)) → m ≡ length I →
    ((b : ℕ) → b < length I → measure (buffer I b) ≤ 2 ^ 102) → xs ≡ map (keyed measure I) (numbers m) →
    IsPermutation xs ys → IsSorted pair_cmp ys →
    map (λ (e : ℕ × ℕ). e.1) ys ≡ ordered_by (falls_by measure I) (numbers (length I))
sorted_is measure I m xs ys e small is_m moved up =
    one_order (falls_by measure I) (map (λ (e : ℕ × ℕ). e.1) ys) (ordered_by (falls_by measure I) (numbers (length I)))
    (measures_are_orders measure I).0
    (ordered_from measure I ys record { each = each; climbs = climbs; distinct = distinct })
    (numbers_are_ordered (falls_by measure I) (length I) (measures_are_orders measure I).0)
    (λ b. (
      (λ i. (ordered_members (falls_by measure I) (numbers (length I)) b).1 (back b i)),
      (λ i. forth b ((ordered_members (falls_by measure I) (numbers (length I)) b).0 i)),
    ))
  where
    is : xs ≡ map (keyed measure I) (numbers (length I))
    is = rw (← e) is_m

    there : IsPermutation (numbers (length I)) (map (λ (e : ℕ × ℕ). e.1) ys)
    there = renumbered measure I (length I) xs ys is moved

    forth : (b : ℕ) → IsIn b (numbers (length I)) → IsIn b (map (λ (e : ℕ × ℕ). e.1) ys)
    forth b i = in_permutation (numbers (length I)) (map (λ (e : ℕ × ℕ). e.1) ys) b there i

    back : (b : ℕ) → IsIn b (map (λ (e : ℕ × ℕ). e.1) ys) → IsIn b (numbers (length I))
    back b i = in_permutation (map (λ (e : ℕ × ℕ). e.1) ys) (numbers (length I)) b
        (IsPermutation-sym (numbers (length I)) (map (λ (e : ℕ × ℕ). e.1) ys) there) i

    each : (e : ℕ × ℕ) → IsIn e ys → (e ≡ keyed measure I e.1) × (measure (buffer I e.1) ≤ 2 ^ 102)
    each e i =
        let r = from_map (keyed measure I) (numbers (length I)) e
        (rw is at (in_permutation ys xs e (IsPermutation-sym xs ys moved) i)) in
        rw r.2 (refl, small r.0 (below (length I) r.0 r.1))

    climbs : (i j : ℕ) (d : ℕ × ℕ) → j ≡ i + 1 → j < length ys → IsUpTo (slice_index_or ys i d) (slice_index_or ys j d)
    climbs i j d e lt = rw e (not_before (slice_index_or ys i d).0 (slice_index_or ys (i + 1) d).0
        (slice_index_or ys i d).1 (slice_index_or ys (i + 1) d).1
        (up i d (omega arith) (omega arith)))

    flips : (m n : ℕ) → (m == n) ≡ (n == m)
    flips m n = grind (arith, nat_tests)

    distinct : IsDistinct (λ (m n : ℕ). m == n) (map (λ (e : ℕ × ℕ). e.1) ys)
    distinct = IsDistinct-IsPermutation (λ (m n : ℕ). m == n) flips (numbers (length I))
        (map (λ (e : ℕ × ℕ). e.1) ys) there (numbers_distinct (length I))

-- ---- what only moves the numbers of all buffers is an order of them
pub order_moved : (I : Instance) (xs ys : List ℕ) → IsPermutation xs ys → IsOrderOf I xs → IsOrderOf I ys
order_moved I xs ys moved o = record {
  count = length_permutation xs ys moved ∙ o.count;
  in_range = all_from_in (λ b. b < length I) ys (λ b i. within b (in_permutation ys xs b
      (IsPermutation-sym xs ys moved) i));
  each = λ b lt. in_permutation xs ys b moved (o.each b lt);
}
  where
    within : (b : ℕ) → IsIn b xs → b < length I
    within b i = in_from_all (λ b. b < length I) xs o.in_range b i

numbers_are_order : (I : Instance) → IsOrderOf I (numbers (length I))
numbers_are_order I = record {
  count = length-range_with_len 0 (length I);
  in_range = all_from_in (λ b. b < length I) (numbers (length I)) (λ b i. below (length I) b i);
  each = λ b lt. among (length I) b lt;
}

pub sorted_is_order : (measure : Buffer → ℕ) (I : Instance) (n : ℕ) (xs ys : List (ℕ × ℕ)) → n ≡ length I →
    xs ≡ map (keyed measure I) (numbers n) → IsPermutation xs ys → IsOrderOf I (map (λ (e : ℕ × ℕ). e.1) ys)
sorted_is_order measure I n xs ys e is moved =
    order_moved I (numbers (length I)) (map (λ (e : ℕ × ℕ). e.1) ys)
    (rw e at (renumbered measure I n xs ys is moved)) (numbers_are_order I)
