-- All buffers brought into an order by their keys.
use Rattle.std.proofs.Common.{◌≡◌, ◌≢◌, ℕ, suc, ◌+◌, ◌<◌, ◌≤◌, ◌⊎◌, inl, inr, Bool, true, false, cond, ◌==◌, nat_lt, List, [], ◌∷◌, ◌++◌, length, map, slice_index_or, refl, sym, ap, ◌∙◌, arith, nat_cmp}
use Rattle.std.proofs.lemmas.Bool.Decides.{nat_tests}
use Rattle.std.specs.List.{All, AllByRecursion, IsDistinct}
use Rattle.std.specs.List.Sorted.{IsPermutation, IsSorted}
use Rattle.std.specs.Ordering.{is_lt, ordering_then}
use Rattle.std.specs.declared.cmp.Ordering.{Ordering}
use Rattle.std.specs.declared.cmp.Ordering.TheVariants.{Equal, Greater, Less}
use Rattle.std.proofs.lemmas.List.FromFn.{map-range_with_len_more}
use Rattle.std.proofs.lemmas.List.Sorted.{IsPermutation-map, IsPermutation-sym}
use Rattle.std.proofs.lemmas.Map.Keys.{IsDistinct-IsPermutation}
use Rattle.dsa_terms.specs.Buffers.{Buffer, Instance, buffer}
use Rattle.dsa_terms.specs.Claims.{IsIn, Rises}
use Rattle.dsa_terms.specs.Sorts.{IsOrdered}
use Rattle.dsa_terms.specs.Orders.{area}
use Rattle.dsa_terms.specs.Parts.{numbers}
use Rattle.dsa_terms.proofs.Lists.{from_map}
use Rattle.dsa_terms.proofs.NumberTests.{differ, equal, not_less}
use Rattle.dsa_terms.proofs.Ranges.{from_range, rises-range}
use Rattle.dsa_terms.proofs.Places.{in_permutation}
use Rattle.dsa_start_laws.specs.Ordering.{IsOrder}
use Rattle.dsa_start_laws.proofs.Orders.{measures_are_orders, numbers_are_ordered, one_order, ordered_members}
use Rattle.dsa_model.specs.Buffer.{IsBuffer}
use Rattle.dsa_model.proofs.Instances.{sound_buffer}
use Rattle.first_fit.specs.Orders.{before_by, numbers_in_order, order_key, keyed}
use Rattle.first_fit.specs.declared.orders.Order.{Order}
use Rattle.first_fit.specs.declared.orders.Order.TheVariants.{AreaFalling, LowerRising, SizeFalling}
use Rattle.first_fit.proofs.Keys.{comes_first}

-- how pairs are compared: by the first, and where these are equal by the second
abbrev pub pair_cmp : (a b : ℕ × ℕ) → Ordering
pair_cmp a b = ordering_then (nat_cmp a.0 b.0) (nat_cmp a.1 b.1)

-- no later than
abbrev pub IsUpTo : ℕ × ℕ → ℕ × ℕ → Type 0
IsUpTo a b = (a.0 < b.0) ⊎ ((a.0 ≡ b.0) × (a.1 ≤ b.1))

not_before : (k l b c : ℕ) → is_lt (ordering_then (nat_cmp l k) (nat_cmp c b)) ≡ false → (k < l) ⊎ ((k ≡ l) × (b ≤ c))
not_before k l b c h = go (nat_lt l k) refl (l == k) refl (nat_lt c b) refl (c == b) h
  where
    more : (m n : ℕ) → n ≤ m → m ≢ n → n < m
    more m n p q = grind arith

    go : (p : Bool) → nat_lt l k ≡ p → (q : Bool) → (l == k) ≡ q → (r : Bool) → nat_lt c b ≡ r → (s : Bool) →
        is_lt (ordering_then (cond p Less (cond q Equal Greater)) (cond r Less (cond s Equal Greater))) ≡ false →
        (k < l) ⊎ ((k ≡ l) × (b ≤ c))
    go true p q e r f s g = absurd cc
    go false p true e true f s g = absurd cc
    go false p true e false f s g = inr (sym (equal l k e), not_less c b f)
    go false p false e r f s g = inl (more l k (not_less l k p) (differ l k e))

along : (x y z : ℕ × ℕ) → IsUpTo x y → IsUpTo y z → IsUpTo x z
along x y z (inl p) (inl q) = inl (omega arith)
along x y z (inl p) (inr q) = inl (omega arith)
along x y z (inr p) (inl q) = inl (omega arith)
along x y z (inr p) (inr q) = inr (omega arith, omega arith)

later : (x : ℕ × ℕ) (xs : List (ℕ × ℕ)) →
    ((i j : ℕ) (d : ℕ × ℕ) → j ≡ i + 1 → j < length (x ∷ xs) →
    IsUpTo (slice_index_or (x ∷ xs) i d) (slice_index_or (x ∷ xs) j d)) →
    (y : ℕ × ℕ) → IsIn y xs → IsUpTo x y
later x [] h y i = absurd i
later x (z ∷ zs) h y (inl q) = rw q (h 0 1 z (omega arith) (omega arith))
later x (z ∷ zs) h y (inr i) = along x z y (h 0 1 z (omega arith) (omega arith))
    (later z zs (λ i j d e lt. h (suc i) (suc j) d (omega arith) (omega arith)) y i)

-- what holds of the entries of an instance
pub record AreEntries (order : Order) (I : Instance) (es : List (ℕ × ℕ)) : Type 0 where
  pub each : (e : ℕ × ℕ) → IsIn e es → (e.0 ≡ order_key order (buffer I e.1)) × IsBuffer (buffer I e.1)
  pub climbs : (i j : ℕ) (d : ℕ × ℕ) → j ≡ i + 1 → j < length es →
      IsUpTo (slice_index_or es i d) (slice_index_or es j d)
  pub distinct : IsDistinct (λ (m n : ℕ). m == n) (map (λ (e : ℕ × ℕ). e.1) es)

all_at : {X : Type 0} (P : X → Type 0) (xs : List X) (x : X) → AllByRecursion P xs → IsIn x xs → P x
all_at P [] x h i = absurd i
all_at P (y ∷ ys) x h (inl q) = rw q h.0
all_at P (y ∷ ys) x h (inr i) = all_at P ys x h.1 i

ordered_from : (order : Order) (I : Instance) (es : List (ℕ × ℕ)) → AreEntries order I es →
    IsOrdered (before_by order I) (map (λ (e : ℕ × ℕ). e.1) es)
unfolding IsDistinct
ordered_from order I [] h = tt
ordered_from order I (e ∷ es) h = (
  first,
  ordered_from order I es (record {
    each = λ f i. h.each f (inr i);
    climbs = λ i j d e lt. h.climbs (suc i) (suc j) d (omega arith) (omega arith);
    distinct = h.distinct.1;
  }),
)
  where
    less : (m n : ℕ) → m ≤ n → m ≢ n → m < n
    less m n p q = grind arith

    first : (c : ℕ) → IsIn c (map (λ (e : ℕ × ℕ). e.1) es) → before_by order I e.1 c ≡ true
    first c i =
        let r = from_map (λ (e : ℕ × ℕ). e.1) es c i in
        let x = h.each e (inl refl) in
        let y = h.each r.0 (inr r.1) in
        let d = differ e.1 c (all_at (λ (c : ℕ). (e.1 == c) ≡ false) (map (λ (e : ℕ × ℕ). e.1) es) c h.distinct.0 i) in
        comes_first order I e.1 c x.1 (rw r.2 y.1) (elim (later e es h.climbs r.0 r.1) [
          | inl k ↦ inl (rw r.2 (rw (x.0, y.0) at k))
          | inr k ↦ inr (rw r.2 (rw (x.0, y.0) at k.0), less e.1 c (rw r.2 k.1) d)
        ])

pub before_is_order : (order : Order) (I : Instance) → IsOrder (before_by order I)
before_is_order SizeFalling I = (measures_are_orders (λ (b : Buffer). b.size) I).0
before_is_order LowerRising I = (measures_are_orders (λ (b : Buffer). b.lower) I).1
before_is_order AreaFalling I = (measures_are_orders area I).0

-- ---- the numbers of an instance
distinct-rising : (xs : List ℕ) → Rises xs → IsDistinct (λ (m n : ℕ). m == n) xs
unfolding IsDistinct
distinct-rising [] h = tt
distinct-rising (x ∷ xs) h = (apart x xs h.0, distinct-rising xs h.1)
  where
    no : (m n : ℕ) → m < n → (m == n) ≡ false
    no m n q = grind (arith, nat_tests)

    apart : (x : ℕ) (xs : List ℕ) → ((y : ℕ) → IsIn y xs → x < y) → AllByRecursion (λ (y : ℕ). (x == y) ≡ false) xs
    apart x [] h = tt
    apart x (y ∷ ys) h = (no x y (h y (inl refl)), apart x ys (λ z i. h z (inr i)))

numbers_of_keyed : (order : Order) (I : Instance) (bs : List ℕ) → map (λ (e : ℕ × ℕ). e.1) (map (keyed order I) bs) ≡ bs
numbers_of_keyed order I [] = refl
numbers_of_keyed order I (b ∷ bs) = ap (λ (xs : List ℕ). b ∷ xs) (numbers_of_keyed order I bs)

pub keyed_more : (order : Order) (I : Instance) (b : ℕ) (xs ys : List (ℕ × ℕ)) (k : ℕ) (x : Buffer) →
    xs ≡ map (keyed order I) (numbers b) → x ≡ buffer I b → k ≡ order_key order x → ys ≡ xs ++ (k, b) ∷ [] →
    ys ≡ map (keyed order I) (numbers (b + 1))
keyed_more order I b xs ys k x e f g h = let m = map-range_with_len_more (keyed order I) 0 b b (omega arith) in
    let z : k ≡ order_key order (buffer I b) = g ∙ ap (order_key order) f in h ∙ rw (e, z) (sym m)

pub sorted_is : (order : Order) (I : Instance) (n : ℕ) (xs ys : List (ℕ × ℕ)) → All IsBuffer I →
    xs ≡ map (keyed order I) (numbers n) → n ≡ length I → IsPermutation xs ys → IsSorted pair_cmp ys →
    map (λ (e : ℕ × ℕ). e.1) ys ≡ numbers_in_order order I
sorted_is order I n xs ys all e m moved up = one_order (before_by order I) (map (λ (e : ℕ × ℕ). e.1) ys)
    (numbers_in_order order I)
    (before_is_order order I)
    (ordered_from order I ys (record { each = each; climbs = climbs; distinct = distinct }))
    (numbers_are_ordered (before_by order I) (length I) (before_is_order order I))
    (λ b. (
      (λ i. (ordered_members (before_by order I) (numbers (length I)) b).1 (back b i)),
      (λ i. forth b ((ordered_members (before_by order I) (numbers (length I)) b).0 i)),
    ))
  where
    is : xs ≡ map (keyed order I) (numbers (length I))
    is = rw (← m) e

    renumbered : IsPermutation (numbers (length I)) (map (λ (e : ℕ × ℕ). e.1) ys)
    renumbered = rw (is, numbers_of_keyed order I (numbers (length I))) at
        (IsPermutation-map (λ (e : ℕ × ℕ). e.1) xs ys moved)

    forth : (b : ℕ) → IsIn b (numbers (length I)) → IsIn b (map (λ (e : ℕ × ℕ). e.1) ys)
    forth b i = in_permutation (numbers (length I)) (map (λ (e : ℕ × ℕ). e.1) ys) b renumbered i

    back : (b : ℕ) → IsIn b (map (λ (e : ℕ × ℕ). e.1) ys) → IsIn b (numbers (length I))
    back b i = in_permutation (map (λ (e : ℕ × ℕ). e.1) ys) (numbers (length I)) b
        (IsPermutation-sym (numbers (length I)) (map (λ (e : ℕ × ℕ). e.1) ys) renumbered) i

    each : (f : ℕ × ℕ) → IsIn f ys → (f.0 ≡ order_key order (buffer I f.1)) × IsBuffer (buffer I f.1)
    each f i =
        let r = from_map (keyed order I) (numbers (length I)) f
        (rw is at (in_permutation ys xs f (IsPermutation-sym xs ys moved) i)) in
        let lt : r.0 < length I = let z = (from_range (length I) 0 r.0 r.1).1 in omega arith in
        rw r.2 (refl, sound_buffer I r.0 all lt)

    climbs : (i j : ℕ) (d : ℕ × ℕ) → j ≡ i + 1 → j < length ys → IsUpTo (slice_index_or ys i d) (slice_index_or ys j d)
    climbs i j d e lt = rw e (not_before (slice_index_or ys i d).0 (slice_index_or ys (i + 1) d).0
        (slice_index_or ys i d).1 (slice_index_or ys (i + 1) d).1
        (up i d (omega arith) (omega arith)))

    flips : (m n : ℕ) → (m == n) ≡ (n == m)
    flips m n = grind (arith, nat_tests)

    distinct : IsDistinct (λ (m n : ℕ). m == n) (map (λ (e : ℕ × ℕ). e.1) ys)
    distinct = IsDistinct-IsPermutation (λ (m n : ℕ). m == n) flips (numbers (length I)) (map (λ (e : ℕ × ℕ). e.1) ys)
        renumbered
        (distinct-rising (numbers (length I)) (rises-range (length I) 0))
