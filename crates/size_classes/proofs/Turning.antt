-- Members brought into turn by their lowers.
use Rattle.std.proofs.Common.{◌≡◌, ◌≢◌, ℕ, suc, ◌+◌, ◌<◌, ◌≤◌, ◌⊎◌, inl, inr, Bool, true, false, cond, ◌==◌, ◌&&◌, ◌||◌, nat_lt, List, [], ◌∷◌, ◌++◌, length, map, slice_index_or, take, refl, sym, ap, ◌∙◌, arith, nat_cmp}
use Rattle.std.proofs.lemmas.Bool.Decides.{nat_tests}
use Rattle.std.specs.List.{AllByRecursion, IsDistinct}
use Rattle.std.specs.List.Sorted.{IsPermutation, IsSorted}
use Rattle.std.specs.Ordering.{is_lt, ordering_then}
use Rattle.std.specs.declared.cmp.Ordering.TheVariants.{Equal, Greater, Less}
use Rattle.std.proofs.lemmas.List.{map-append, take_more}
use Rattle.std.proofs.lemmas.List.Sorted.{IsPermutation-map, IsPermutation-sym}
use Rattle.std.proofs.lemmas.Map.Keys.{IsDistinct-IsPermutation}
use Rattle.dsa_terms.specs.Buffers.{Buffer, Instance, buffer}
use Rattle.dsa_terms.specs.Claims.{IsIn, Rises}
use Rattle.dsa_terms.specs.Sorts.{IsOrdered}
use Rattle.dsa_terms.specs.Orders.{rises_by}
use Rattle.dsa_terms.proofs.Lists.{from_map}
use Rattle.dsa_terms.proofs.NumberTests.{differ, equal, not_less}
use Rattle.dsa_terms.proofs.Places.{in_permutation}
use Rattle.dsa_start_laws.proofs.Orders.{one_order, ordered_members}
use Rattle.size_classes.specs.Slots.{in_turn}
use Rattle.size_classes.proofs.PoolLemmas.{pair_cmp}
use Rattle.size_classes.proofs.TurnLemmas.{ordered_is_ordered, turn_is_order}

-- a buffer's lower before its number
abbrev pub keyed : Instance → ℕ → ℕ × ℕ
keyed I b = ((buffer I b).lower, b)

-- ---- pairs in order
-- no later than
abbrev IsUpTo : ℕ × ℕ → ℕ × ℕ → Type 0
IsUpTo a b = (a.0 < b.0) ⊎ ((a.0 ≡ b.0) × (a.1 ≤ b.1))

not_before : (k l b c : ℕ) → is_lt (ordering_then (nat_cmp l k) (nat_cmp c b)) ≡ false → (k < l) ⊎ ((k ≡ l) × (b ≤ c))
not_before k l b c h = go (nat_lt l k) refl (l == k) refl (nat_lt c b) refl (c == b) h
  where
    more : (m n : ℕ) → n ≤ m → m ≢ n → n < m
    more m n p q = grind arith

    go : (p : Bool) → nat_lt l k ≡ p → (q : Bool) → (l == k) ≡ q → (r : Bool) → nat_lt c b ≡ r → (s : Bool) →
        is_lt (ordering_then (cond p Less (cond q Equal Greater)) (cond r Less (cond s Equal Greater))) ≡ false →
        (k < l) ⊎ ((k ≡ l) × (b ≤ c))
    go true p q e r f s g = absurd cc
    go false p true e true f s g = absurd cc
    go false p true e false f s g = inr (sym (equal l k e), not_less c b f)
    go false p false e r f s g = inl (more l k (not_less l k p) (differ l k e))

along : (x y z : ℕ × ℕ) → IsUpTo x y → IsUpTo y z → IsUpTo x z
along x y z (inl p) (inl q) = inl (omega arith)
along x y z (inl p) (inr q) = inl (omega arith)
along x y z (inr p) (inl q) = inl (omega arith)
along x y z (inr p) (inr q) = inr (omega arith, omega arith)

later : (x : ℕ × ℕ) (xs : List (ℕ × ℕ)) →
    ((i j : ℕ) (d : ℕ × ℕ) → j ≡ i + 1 → j < length (x ∷ xs) →
    IsUpTo (slice_index_or (x ∷ xs) i d) (slice_index_or (x ∷ xs) j d)) →
    (y : ℕ × ℕ) → IsIn y xs → IsUpTo x y
later x [] h y i = absurd i
later x (z ∷ zs) h y (inl q) = rw q (h 0 1 z (omega arith) (omega arith))
later x (z ∷ zs) h y (inr i) = along x z y (h 0 1 z (omega arith) (omega arith))
    (later z zs (λ i j d e lt. h (suc i) (suc j) d (omega arith) (omega arith)) y i)

-- what holds of the keys of buffers
record AreKeys (I : Instance) (ks : List (ℕ × ℕ)) : Type 0 where
  each : (k : ℕ × ℕ) → IsIn k ks → k.0 ≡ (buffer I k.1).lower
  climbs : (i j : ℕ) (d : ℕ × ℕ) → j ≡ i + 1 → j < length ks →
      IsUpTo (slice_index_or ks i d) (slice_index_or ks j d)
  distinct : IsDistinct (λ (m n : ℕ). m == n) (map (λ (k : ℕ × ℕ). k.1) ks)

all_at : {X : Type 0} (P : X → Type 0) (xs : List X) (x : X) → AllByRecursion P xs → IsIn x xs → P x
all_at P [] x h i = absurd i
all_at P (y ∷ ys) x h (inl q) = rw q h.0
all_at P (y ∷ ys) x h (inr i) = all_at P ys x h.1 i

comes_first : (I : Instance) (b c : ℕ) →
    ((buffer I b).lower < (buffer I c).lower) ⊎ (((buffer I b).lower ≡ (buffer I c).lower) × (b < c)) →
    rises_by (λ (b : Buffer). b.lower) I b c ≡ true
unfolding rises_by
comes_first I b c h = rises (buffer I b).lower (buffer I c).lower h
  where
    rises : (m n : ℕ) → (m < n) ⊎ ((m ≡ n) × (b < c)) → (nat_lt m n || ((m == n) && nat_lt b c)) ≡ true
    rises m n (inl q) = grind (arith, nat_tests)
    rises m n (inr q) = let x = q.0 in let y = q.1 in grind (arith, nat_tests)

ordered_from : (I : Instance) (ks : List (ℕ × ℕ)) → AreKeys I ks →
    IsOrdered (rises_by (λ (b : Buffer). b.lower) I) (map (λ (k : ℕ × ℕ). k.1) ks)
unfolding IsDistinct
ordered_from I [] h = tt
ordered_from I (k ∷ ks) h = (
  first,
  ordered_from I ks (record {
    each = λ f i. h.each f (inr i);
    climbs = λ i j d e lt. h.climbs (suc i) (suc j) d (omega arith) (omega arith);
    distinct = h.distinct.1;
  }),
)
  where
    less : (m n : ℕ) → m ≤ n → m ≢ n → m < n
    less m n p q = grind arith

    first : (c : ℕ) → IsIn c (map (λ (k : ℕ × ℕ). k.1) ks) → rises_by (λ (b : Buffer). b.lower) I k.1 c ≡ true
    first c i =
        let r = from_map (λ (k : ℕ × ℕ). k.1) ks c i in
        let x = h.each k (inl refl) in
        let y = h.each r.0 (inr r.1) in
        let d = differ k.1 c
        (all_at (λ (c : ℕ). (k.1 == c) ≡ false) (map (λ (k : ℕ × ℕ). k.1) ks) c h.distinct.0 i) in
        comes_first I k.1 c (elim (later k ks h.climbs r.0 r.1) [
          | inl q ↦ inl (rw r.2 (rw (x, y) at q))
          | inr q ↦ inr (rw r.2 (rw (x, y) at q.0), less k.1 c (rw r.2 q.1) d)
        ])

distinct-rising : (xs : List ℕ) → Rises xs → IsDistinct (λ (m n : ℕ). m == n) xs
unfolding IsDistinct
distinct-rising [] h = tt
distinct-rising (x ∷ xs) h = (apart x xs h.0, distinct-rising xs h.1)
  where
    no : (m n : ℕ) → m < n → (m == n) ≡ false
    no m n q = grind (arith, nat_tests)

    apart : (x : ℕ) (xs : List ℕ) → ((y : ℕ) → IsIn y xs → x < y) → AllByRecursion (λ (y : ℕ). (x == y) ≡ false) xs
    apart x [] h = tt
    apart x (y ∷ ys) h = (no x y (h y (inl refl)), apart x ys (λ z i. h z (inr i)))

numbers_of_keyed : (I : Instance) (bs : List ℕ) → map (λ (k : ℕ × ℕ). k.1) (map (keyed I) bs) ≡ bs
numbers_of_keyed I [] = refl
numbers_of_keyed I (b ∷ bs) = ap (λ (xs : List ℕ). b ∷ xs) (numbers_of_keyed I bs)

-- ---- the loop and the sort
pub keyed_more : (I : Instance) (members : List ℕ) (i b d k : ℕ) (x : Buffer) (keys more : List (ℕ × ℕ)) →
    i < length members → b ≡ slice_index_or members i d → x ≡ buffer I b → k ≡ x.lower → more ≡ keys ++ (k, b) ∷ [] →
    keys ≡ map (keyed I) (take i members) → more ≡ map (keyed I) (take (i + 1) members)
keyed_more I members i b d k x keys more lt at e f grown h =
    grown ∙ rw (h, f, e, at) (sym (rw (take_more members i d lt)
    (map-append (keyed I) (take i members) (slice_index_or members i d ∷ []))))

pub sorted_is : (I : Instance) (members : List ℕ) (keys sorted : List (ℕ × ℕ)) → Rises members →
    keys ≡ map (keyed I) members → IsPermutation keys sorted → IsSorted pair_cmp sorted →
    map (λ (k : ℕ × ℕ). k.1) sorted ≡ in_turn I members
sorted_is I members keys sorted rise is moved up =
    one_order (rises_by (λ (b : Buffer). b.lower) I) (map (λ (k : ℕ × ℕ). k.1) sorted) (in_turn I members)
    (turn_is_order I) (ordered_from I sorted (record { each = each; climbs = climbs; distinct = distinct }))
    (ordered_is_ordered (rises_by (λ (b : Buffer). b.lower) I) members (turn_is_order I) rise)
    (λ b. (
      (λ i. (ordered_members (rises_by (λ (b : Buffer). b.lower) I) members b).1 (back b i)),
      (λ i. forth b ((ordered_members (rises_by (λ (b : Buffer). b.lower) I) members b).0 i)),
    ))
  where
    renumbered : IsPermutation members (map (λ (k : ℕ × ℕ). k.1) sorted)
    renumbered = rw (is, numbers_of_keyed I members) at (IsPermutation-map (λ (k : ℕ × ℕ). k.1) keys sorted moved)

    forth : (b : ℕ) → IsIn b members → IsIn b (map (λ (k : ℕ × ℕ). k.1) sorted)
    forth b i = in_permutation members (map (λ (k : ℕ × ℕ). k.1) sorted) b renumbered i

    back : (b : ℕ) → IsIn b (map (λ (k : ℕ × ℕ). k.1) sorted) → IsIn b members
    back b i = in_permutation (map (λ (k : ℕ × ℕ). k.1) sorted) members b
        (IsPermutation-sym members (map (λ (k : ℕ × ℕ). k.1) sorted) renumbered) i

    each : (k : ℕ × ℕ) → IsIn k sorted → k.0 ≡ (buffer I k.1).lower
    each k i =
        let r = from_map (keyed I) members k
        (rw is at (in_permutation sorted keys k (IsPermutation-sym keys sorted moved) i)) in
        rw r.2 refl

    climbs : (i j : ℕ) (d : ℕ × ℕ) → j ≡ i + 1 → j < length sorted →
        IsUpTo (slice_index_or sorted i d) (slice_index_or sorted j d)
    climbs i j d e lt = rw e (not_before (slice_index_or sorted i d).0 (slice_index_or sorted (i + 1) d).0
        (slice_index_or sorted i d).1 (slice_index_or sorted (i + 1) d).1
        (up i d (omega arith) (omega arith)))

    flips : (m n : ℕ) → (m == n) ≡ (n == m)
    flips m n = grind (arith, nat_tests)

    distinct : IsDistinct (λ (m n : ℕ). m == n) (map (λ (k : ℕ × ℕ). k.1) sorted)
    distinct = IsDistinct-IsPermutation (λ (m n : ℕ). m == n) flips members (map (λ (k : ℕ × ℕ). k.1) sorted) renumbered
        (distinct-rising members rise)
