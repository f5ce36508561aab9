-- Ordered sets as pools of slots: what their first key and one more key come to.
use Rattle.std.proofs.Common.{◌≡◌, ◌≢◌, ℕ, ◌+◌, ◌<◌, ◌≤◌, ◌⊎◌, inl, inr, Bool, true, false, cond, ◌==◌, nat_lt, List, [], ◌∷◌, length, slice_get, Option, Some, None, IsSome, IfSome, refl, sym, subst, arith, nat_cmp}
use Rattle.std.proofs.lemmas.Bool.Decides.{nat_tests}
use Rattle.std.specs.BTreeMap.Range.{IsLeBy, IsLtBy}
use Rattle.std.specs.BTreeSet.{insert_key}
use Rattle.std.specs.List.{All}
use Rattle.std.specs.Ordering.{is_gt, match_ordering, ordering_then}
use Rattle.std.specs.declared.cmp.Ordering.{Ordering}
use Rattle.std.specs.declared.cmp.Ordering.TheVariants.{Equal, Greater, Less}
use Rattle.std.proofs.lemmas.Map.Lookups.{CmpEqualImpliesEq, exact_pairs, exact_unsigned}
use Rattle.dsa_terms.specs.Claims.{IsIn}
use Rattle.dsa_terms.proofs.NumberTests.{equal, less}
use Rattle.dsa_terms.proofs.Places.{in_from_all}
use Rattle.size_classes.specs.Pools.{IsEnded, IsFree, IsPool, IsReleased, IsTaken, IsTakenOut, pool_of, Pool}

-- how pairs are compared: by the first, and where these are equal by the second
abbrev pub pair_cmp : (a b : ℕ × ℕ) → Ordering
pair_cmp a b = ordering_then (nat_cmp a.0 b.0) (nat_cmp a.1 b.1)

exact_pair : CmpEqualImpliesEq pair_cmp
exact_pair = exact_pairs nat_cmp nat_cmp exact_unsigned exact_unsigned

-- ---- one more key
kept_key : {K : Type 0} (cmp : K → K → Ordering) (ks : List K) (k x : K) → IsIn x ks → IsIn x (insert_key cmp ks k)
kept_key cmp [] k x i = absurd i
kept_key {K} cmp (y ∷ ys) k x i = go (cmp k y) i (kept_key cmp ys k x)
  where
    go : (o : Ordering) → IsIn x (y ∷ ys) → (IsIn x ys → IsIn x (insert_key cmp ys k)) →
        IsIn x (match_ordering o (k ∷ y ∷ ys) (y ∷ ys) (y ∷ insert_key cmp ys k))
    go Less j ih = inr j
    go Equal j ih = j
    go Greater (inl e) ih = inl e
    go Greater (inr j) ih = inr (ih j)

own_key : {K : Type 0} (cmp : K → K → Ordering) (ks : List K) (k : K) → CmpEqualImpliesEq cmp →
    IsIn k (insert_key cmp ks k)
own_key cmp [] k exact = inl refl
own_key {K} cmp (y ∷ ys) k exact = go (cmp k y) refl (own_key cmp ys k exact)
  where
    go : (o : Ordering) → cmp k y ≡ o → IsIn k (insert_key cmp ys k) →
        IsIn k (match_ordering o (k ∷ y ∷ ys) (y ∷ ys) (y ∷ insert_key cmp ys k))
    go Less e ih = inl refl
    go Equal e ih = inl (exact k y e)
    go Greater e ih = inr ih

from_key : {K : Type 0} (cmp : K → K → Ordering) (ks : List K) (k x : K) → IsIn x (insert_key cmp ks k) →
    IsIn x ks ⊎ (x ≡ k)
from_key cmp [] k x (inl e) = inr e
from_key cmp [] k x (inr i) = absurd i
from_key {K} cmp (y ∷ ys) k x i = go (cmp k y) i (from_key cmp ys k x)
  where
    go : (o : Ordering) → IsIn x (match_ordering o (k ∷ y ∷ ys) (y ∷ ys) (y ∷ insert_key cmp ys k)) →
        (IsIn x (insert_key cmp ys k) → IsIn x ys ⊎ (x ≡ k)) → IsIn x (y ∷ ys) ⊎ (x ≡ k)
    go Less (inl e) ih = inr e
    go Less (inr j) ih = inl j
    go Equal j ih = inl j
    go Greater (inl e) ih = inl (inl e)
    go Greater (inr j) ih = elim (ih j) [ inl m ↦ inl (inr m) | inr e ↦ inr e ]

-- ---- the first key
pub taken_first : {K : Type 0} (ks rest : List K) (k : K) (r : Option K) → slice_get ks 0 ≡ Some k →
    (0 < length ks → IsSome r) → IfSome r (λ x. ks ≡ x ∷ rest) → ks ≡ k ∷ rest
taken_first {K} [] rest k r g s h = absurd cc
taken_first {K} (y ∷ ys) rest k r g s h = go r (s (omega arith)) h
  where
    same : y ≡ k
    same = cc

    go : (r : Option K) → IsSome r → IfSome r (λ x. y ∷ ys ≡ x ∷ rest) → y ∷ ys ≡ k ∷ rest
    go None t q = absurd cc
    go (Some x) t q = let e = same in cc

first_is_least : (s t : ℕ) → nat_cmp s t ≡ Less → s < t
first_is_least s t h = grind (arith, nat_tests)

first_is_earliest : (x y : ℕ × ℕ) → is_gt (pair_cmp x y) ≡ false → x.0 ≤ y.0
first_is_earliest x y h = go (nat_lt x.0 y.0) refl (x.0 == y.0) refl (nat_cmp x.1 y.1) h
  where
    go : (p : Bool) → nat_lt x.0 y.0 ≡ p → (q : Bool) → (x.0 == y.0) ≡ q → (o : Ordering) →
        is_gt (ordering_then (cond p Less (cond q Equal Greater)) o) ≡ false → x.0 ≤ y.0
    go true e q f o g = let k = less x.0 y.0 e in omega arith
    go false e true f o g = let k = equal x.0 y.0 f in omega arith
    go false e false f o g = absurd cc

-- ---- taking slots back
pub record IsReleasing (moment : ℕ) (old now : Pool) : Type 0 where
  pub pool : IsPool now
  count : now.count ≡ old.count
  chosen : (e : ℕ × ℕ) → IsIn e now.busy → IsIn e old.busy
  back : (e : ℕ × ℕ) → IsIn e old.busy → IsIn e now.busy ⊎ ((e.0 ≤ moment) × IsIn e.1 now.free)
  kept : (s : ℕ) → IsIn s old.free → IsIn s now.free
  came : (s : ℕ) → IsIn s now.free → IsIn s old.free ⊎ ((e : ℕ × ℕ) × IsIn e old.busy × IsEnded moment s e)

pub releasing_none : (moment : ℕ) (p : Pool) → IsPool p → IsReleasing moment p p
releasing_none moment p h = record {
  pool = h;
  count = refl;
  chosen = λ e i. i;
  back = λ e i. inl i;
  kept = λ s i. i;
  came = λ s i. inl i;
}

pool_released : (end slot count : ℕ) (busy rest : List (ℕ × ℕ)) (free more : List ℕ) →
    busy ≡ (end, slot) ∷ rest → more ≡ insert_key nat_cmp free slot → IsPool (pool_of busy free count) →
    IsPool (pool_of rest more count)
pool_released end slot count busy rest free more e grown h = record {
  busy = λ x i. h.busy x (rw e (inr i));
  free = λ s i. elim (from_key nat_cmp free slot s (rw grown at i)) [
    | inl j ↦ h.free s j
    | inr q ↦ rw q (h.busy (end, slot) (rw e (inl refl)))
  ];
}

-- also where there was no memory for it
pub pool_unput : (first : ℕ × ℕ) (count : ℕ) (busy rest : List (ℕ × ℕ)) (free more : List ℕ) →
    busy ≡ first ∷ rest → more ≡ free → IsPool (pool_of busy free count) → IsPool (pool_of rest more count)
pool_unput first count busy rest free more e same h = record {
  busy = λ x i. h.busy x (rw e (inr i));
  free = λ s i. h.free s (rw same at i);
}

pub releasing_more : (moment end slot count : ℕ) (old : Pool) (busy rest : List (ℕ × ℕ)) (free more : List ℕ) →
    end ≤ moment → busy ≡ (end, slot) ∷ rest → more ≡ insert_key nat_cmp free slot →
    IsReleasing moment old (pool_of busy free count) → IsReleasing moment old (pool_of rest more count)
releasing_more moment end slot count old busy rest free more le e grown h = record {
  pool = pool_released end slot count busy rest free more e grown h.pool;
  count = h.count;
  chosen = λ x i. h.chosen x (rw e (inr i));
  back = λ x i. elim (h.back x i) [
    | inl j ↦ left x (rw e at j)
    | inr q ↦ inr (q.0, rw grown (kept_key nat_cmp free slot x.1 q.1))
  ];
  kept = λ s i. rw grown (kept_key nat_cmp free slot s (h.kept s i));
  came = λ s i. elim (from_key nat_cmp free slot s (rw grown at i)) [
    | inl j ↦ h.came s j
    | inr q ↦ inr ((end, slot), h.chosen (end, slot) (rw e (inl refl)), record { slot = sym q; ended = le })
  ];
}
  where
    left : (x : ℕ × ℕ) → IsIn x ((end, slot) ∷ rest) → IsIn x rest ⊎ ((x.0 ≤ moment) × IsIn x.1 more)
    left x (inl q) = inr (rw q le, rw (grown, q) (own_key nat_cmp free slot exact_unsigned))
    left x (inr j) = inl j

pub released : (moment : ℕ) (old now : Pool) → ((e : ℕ × ℕ) → IsIn e now.busy → moment < e.0) →
    IsReleasing moment old now → IsReleased moment old now
released moment old now late h = record {
  count = h.count;
  busy = λ e. ((λ i. (h.chosen e i, late e i)), (λ q. still e q.1 (h.back e q.0)));
  free = λ s. (forth s, back s);
}
  where
    still : (e : ℕ × ℕ) → moment < e.0 → IsIn e now.busy ⊎ ((e.0 ≤ moment) × IsIn e.1 now.free) → IsIn e now.busy
    still e lt (inl i) = i
    still e lt (inr q) = let k = q.0 in absurd (omega arith)

    forth : (s : ℕ) → IsFree now s → IsFree old s ⊎ ((e : ℕ × ℕ) × IsIn e old.busy × IsEnded moment s e)
    forth s (inl i) = elim (h.came s i) [ inl j ↦ inl (inl j) | inr q ↦ inr q ]
    forth s (inr le) = inl (inr (let k = h.count in omega arith))

    came_back : (s : ℕ) (e : ℕ × ℕ) → IsEnded moment s e →
        IsIn e now.busy ⊎ ((e.0 ≤ moment) × IsIn e.1 now.free) → IsFree now s
    came_back s e d (inl i) = let k = late e i in let l = d.ended in absurd (omega arith)
    came_back s e d (inr q) = inl (subst (λ (t : ℕ). IsIn t now.free) d.slot q.1)

    back : (s : ℕ) → IsFree old s ⊎ ((e : ℕ × ℕ) × IsIn e old.busy × IsEnded moment s e) → IsFree now s
    back s (inl (inl i)) = inl (h.kept s i)
    back s (inl (inr le)) = inr (let k = h.count in omega arith)
    back s (inr q) = came_back s q.0 q.2 (h.back q.0 q.1)

-- where the first comes back later, all do
pub all_late : (moment : ℕ) (x : ℕ × ℕ) (busy : List (ℕ × ℕ)) → All (IsLeBy pair_cmp x) busy → moment < x.0 →
    (e : ℕ × ℕ) → IsIn e busy → moment < e.0
all_late moment x busy all lt e i =
    let k = first_is_earliest x e (in_from_all (IsLeBy pair_cmp x) busy all e i) in omega arith

pub none_late : (moment : ℕ) (busy : List (ℕ × ℕ)) → (0 < length busy → false ≡ true) → (e : ℕ × ℕ) → IsIn e busy →
    moment < e.0
none_late moment [] h e i = absurd i
none_late moment (x ∷ xs) h e i = absurd (let q = h (omega arith) in cc)

-- ---- taking one out
pub taken_back : (slot count : ℕ) (busy : List (ℕ × ℕ)) (free rest : List ℕ) → free ≡ slot ∷ rest →
    All (IsLtBy nat_cmp slot) rest → IsPool (pool_of busy free count) →
    IsTakenOut slot (pool_of busy free count) (pool_of busy rest count)
taken_back slot count busy free rest e above h = record {
  least = record { free = inl own; least = least };
  free = λ s. (forth s, back s);
  below = below;
  grows = omega arith;
  by_one = omega arith;
}
  where
    own : IsIn slot free
    own = rw e (inl refl)

    below : slot < count
    below = h.free slot own

    later : (s : ℕ) → IsIn s rest → slot < s
    later s i = first_is_least slot s (in_from_all (IsLtBy nat_cmp slot) rest above s i)

    least_in : (s : ℕ) → IsIn s (slot ∷ rest) → slot ≤ s
    least_in s (inl q) = omega arith
    least_in s (inr i) = let k = later s i in omega arith

    least : (s : ℕ) → IsFree (pool_of busy free count) s → slot ≤ s
    least s (inl i) = least_in s (rw e at i)
    least s (inr le) = let k = below in omega arith

    forth : (s : ℕ) → IsFree (pool_of busy rest count) s → IsFree (pool_of busy free count) s × (s ≢ slot)
    forth s (inl i) = (inl (rw e (inr i)), (λ q. let k = later s i in omega arith))
    forth s (inr le) = (inr le, (λ q. let k = below in omega arith))

    other : (s : ℕ) → IsIn s (slot ∷ rest) → s ≢ slot → IsIn s rest
    other s (inl q) ne = absurd (ne q)
    other s (inr i) ne = i

    back : (s : ℕ) → IsFree (pool_of busy free count) s × (s ≢ slot) → IsFree (pool_of busy rest count) s
    back s (inl i, ne) = inl (other s (rw e at i) ne)
    back s (inr le, ne) = inr le

pub taken_new : (count : ℕ) (busy : List (ℕ × ℕ)) (free now : List ℕ) → free ≡ [] → now ≡ free →
    IsTakenOut count (pool_of busy free count) (pool_of busy now (count + 1))
taken_new count busy free now e same = record {
  least = record { free = inr (omega arith); least = least };
  free = λ s. (forth s, back s);
  below = omega arith;
  grows = omega arith;
  by_one = omega arith;
}
  where
    least : (s : ℕ) → IsFree (pool_of busy free count) s → count ≤ s
    least s (inl i) = absurd (rw e at i)
    least s (inr le) = le

    forth : (s : ℕ) → IsFree (pool_of busy now (count + 1)) s → IsFree (pool_of busy free count) s × (s ≢ count)
    forth s (inl i) = absurd (rw (same, e) at i)
    forth s (inr le) = (inr (omega arith), (λ q. omega arith))

    back : (s : ℕ) → IsFree (pool_of busy free count) s × (s ≢ count) → IsFree (pool_of busy now (count + 1)) s
    back s (inl i, ne) = absurd (rw e at i)
    back s (inr le, ne) = inr (more s le ne)
      where
        more : (s : ℕ) → count ≤ s → s ≢ count → count + 1 ≤ s
        more s le ne = grind arith

pub pool_back : (slot count : ℕ) (busy : List (ℕ × ℕ)) (free rest : List ℕ) → free ≡ slot ∷ rest →
    IsPool (pool_of busy free count) → IsPool (pool_of busy rest count)
pool_back slot count busy free rest e h = record { busy = h.busy; free = λ s i. h.free s (rw e (inr i)) }

pub pool_new : (count : ℕ) (busy : List (ℕ × ℕ)) (free now : List ℕ) → now ≡ free → IsPool (pool_of busy free count) →
    IsPool (pool_of busy now (count + 1))
pool_new count busy free now same h = record {
  busy = λ e i. let k = h.busy e i in omega arith;
  free = λ s i. let k = h.free s (rw same at i) in omega arith;
}

pub taken : (end slot : ℕ) (old mid : Pool) (busy : List (ℕ × ℕ)) → IsTakenOut slot old mid → mid.busy ≡ old.busy →
    busy ≡ insert_key pair_cmp mid.busy (end, slot) → IsTaken end slot old (pool_of busy mid.free mid.count)
taken end slot old mid busy out same grown = record {
  out = record {
    least = out.least;
    free = λ s. ((λ f. (out.free s).0 f), (λ f. (out.free s).1 f));
    below = out.below;
    grows = out.grows;
    by_one = out.by_one;
  };
  busy = λ e. (
    (λ i. elim (from_key pair_cmp mid.busy (end, slot) e (rw grown at i)) [
      | inl j ↦ inl (rw same at j)
      | inr q ↦ inr q
    ]),
    (λ i. rw grown (elim i [
      | inl j ↦ kept_key pair_cmp mid.busy (end, slot) e (rw same j)
      | inr q ↦ rw q (own_key pair_cmp mid.busy (end, slot) exact_pair)
    ])),
  );
}

pub pool_taken : (end slot : ℕ) (mid : Pool) (busy : List (ℕ × ℕ)) → slot < mid.count →
    busy ≡ insert_key pair_cmp mid.busy (end, slot) → IsPool mid → IsPool (pool_of busy mid.free mid.count)
pool_taken end slot mid busy lt grown h = record {
  busy = λ e i. elim (from_key pair_cmp mid.busy (end, slot) e (rw grown at i)) [
    | inl j ↦ h.busy e j
    | inr q ↦ rw q lt
  ];
  free = h.free;
}
