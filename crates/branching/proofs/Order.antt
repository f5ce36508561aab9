-- The keys of the choices, sorted, are in the order of the choices.
use Rattle.std.proofs.Common.{◌≡◌, ◌≢◌, ◌⊎◌, ◌↔◌, ℕ, suc, ◌+◌, ◌<◌, ◌≤◌, inl, inr, length, slice_index_or, Bool, true, false, cond, ◌&&◌, ◌||◌, ◌==◌, nat_cmp, nat_lt, List, [], ◌∷◌, ◌++◌, append-nil, append_assoc, map, filter, sym, refl, ap, subst, ◌∙◌, arith}
use Rattle.std.proofs.lemmas.Bool.Decides.{nat_tests}
use Rattle.std.specs.List.{AllByRecursion, IsDistinct}
use Rattle.std.specs.List.Sorted.{IsPermutation, IsSorted}
use Rattle.std.specs.Ordering.{is_lt, ordering_then}
use Rattle.std.specs.declared.cmp.Ordering.{Ordering}
use Rattle.std.specs.declared.cmp.Ordering.TheVariants.{Equal, Greater, Less}
use Rattle.std.proofs.lemmas.List.Sorted.{IsPermutation-map, IsPermutation-sym}
use Rattle.std.proofs.lemmas.Map.Keys.{IsDistinct-IsPermutation}
use Rattle.dsa_terms.specs.Sorts.{IsOrdered}
use Rattle.dsa_terms.proofs.NumberTests.{differ, equal, not_less}
use Rattle.dsa_terms.proofs.Places.{in_permutation}
use Rattle.branching.proofs.Words.{Instance, Claim, Entry, IsClaim, IsIn, Rises, buffers_of, up, comes_before, choices, not_excluded, from_filter, from_map, into_filter, into_map, entry_of, is_entry, rises-filter}
use Rattle.branching.specs.Keys.{key_of}

-- ---- the loop that finds the keys
-- the keys of those of the entries that no rule excludes in the claim
abbrev pub keys_of : Instance → Claim → List Entry → List (ℕ × ℕ)
keys_of I l es = map (key_of I) (filter (not_excluded I l) es)

-- with the keys that are left, these are all
abbrev pub AreKeysBut : Instance → Claim → List Entry → List (ℕ × ℕ) → Type 0
AreKeysBut I l left keys = keys ++ keys_of I l left ≡ keys_of I l l

module _ (I : Instance) (l left rest : Claim) (e : Entry) (keys : List (ℕ × ℕ)) (s : left ≡ e ∷ rest)
    (h : AreKeysBut I l left keys) where
  pub keys_skip : not_excluded I l e ≡ false → AreKeysBut I l rest keys
  keys_skip t = ap (λ ks. keys ++ ks) same ∙ h
    where
      same : keys_of I l rest ≡ keys_of I l left
      same = rw (s, t) refl

  pub keys_take : (key : ℕ × ℕ) (more : List (ℕ × ℕ)) → not_excluded I l e ≡ true → key ≡ key_of I e →
      more ≡ keys ++ key ∷ [] → AreKeysBut I l rest more
  keys_take key more t is q =
      ap (λ ks. ks ++ keys_of I l rest) q ∙ append_assoc keys (key ∷ []) (keys_of I l rest)
      ∙ ap (λ ks. keys ++ ks) next ∙ h
    where
      next : key ∷ keys_of I l rest ≡ keys_of I l left
      next = rw (s, t, is) refl

pub keys_all : (I : Instance) (l left : Claim) (keys : List (ℕ × ℕ)) → left ≡ [] → AreKeysBut I l left keys →
    keys ≡ keys_of I l l
keys_all I l left keys s h = sym (append-nil keys) ∙ ap (λ es. keys ++ keys_of I l es) (sym s) ∙ h

-- ---- how keys are compared
-- by the first numbers, then by the second ones
abbrev pub key_cmp : ℕ × ℕ → ℕ × ℕ → Ordering
key_cmp x y = ordering_then (nat_cmp x.0 y.0) (nat_cmp x.1 y.1)

-- no later than
abbrev IsUpTo : ℕ × ℕ → ℕ × ℕ → Type 0
IsUpTo x y = (x.0 < y.0) ⊎ ((x.0 ≡ y.0) × (x.1 ≤ y.1))

not_before : (k l b c : ℕ) → is_lt (ordering_then (nat_cmp l k) (nat_cmp c b)) ≡ false → (k < l) ⊎ ((k ≡ l) × (b ≤ c))
not_before k l b c h = go (nat_lt l k) refl (l == k) refl (nat_lt c b) refl (c == b) h
  where
    more : (m n : ℕ) → n ≤ m → m ≢ n → n < m
    more m n p q = grind arith

    go : (p : Bool) → nat_lt l k ≡ p → (q : Bool) → (l == k) ≡ q → (r : Bool) → nat_lt c b ≡ r → (s : Bool) →
        is_lt (ordering_then (cond p Less (cond q Equal Greater)) (cond r Less (cond s Equal Greater))) ≡ false →
        (k < l) ⊎ ((k ≡ l) × (b ≤ c))
    go true p q e r f s g = absurd cc
    go false p true e true f s g = absurd cc
    go false p true e false f s g = inr (sym (equal l k e), not_less c b f)
    go false p false e r f s g = inl (more l k (not_less l k p) (differ l k e))

along : (x y z : ℕ × ℕ) → IsUpTo x y → IsUpTo y z → IsUpTo x z
along x y z (inl p) (inl q) = inl (omega arith)
along x y z (inl p) (inr q) = inl (omega arith)
along x y z (inr p) (inl q) = inl (omega arith)
along x y z (inr p) (inr q) = inr (omega arith, omega arith)

-- each is no later than the next one
abbrev Climbs : List (ℕ × ℕ) → Type 0
Climbs ks = (i j : ℕ) (d : ℕ × ℕ) → j ≡ i + 1 → j < length ks →
    IsUpTo (slice_index_or ks i d) (slice_index_or ks j d)

later : (x : ℕ × ℕ) (xs : List (ℕ × ℕ)) → Climbs (x ∷ xs) → (y : ℕ × ℕ) → IsIn y xs → IsUpTo x y
later x [] h y i = absurd i
later x (z ∷ zs) h y (inl q) = rw q (h 0 1 z (omega arith) (omega arith))
later x (z ∷ zs) h y (inr i) = along x z y (h 0 1 z (omega arith) (omega arith))
    (later z zs (λ i j d e lt. h (suc i) (suc j) d (omega arith) (omega arith)) y i)

-- ---- numbers that stand once
rises_distinct : (bs : List ℕ) → Rises bs → IsDistinct (λ (m n : ℕ). m == n) bs
unfolding IsDistinct
rises_distinct [] r = tt
rises_distinct (b ∷ bs) r = (apart b bs r.0, rises_distinct bs r.1)
  where
    no : (m n : ℕ) → m < n → (m == n) ≡ false
    no m n q = grind (arith, nat_tests)

    apart : (x : ℕ) (xs : List ℕ) → ((y : ℕ) → IsIn y xs → x < y) → AllByRecursion (λ (y : ℕ). (x == y) ≡ false) xs
    apart x [] h = tt
    apart x (y ∷ ys) h = (no x y (h y (inl refl)), apart x ys (λ z i. h z (inr i)))

all_at : {X : Type 0} (P : X → Type 0) (xs : List X) (x : X) → AllByRecursion P xs → IsIn x xs → P x
all_at P [] x h i = absurd i
all_at P (y ∷ ys) x h (inl q) = rw q h.0
all_at P (y ∷ ys) x h (inr i) = all_at P ys x h.1 i

-- ---- sorted keys give the entries in order
abbrev seconds : List (ℕ × ℕ) → List ℕ
seconds ks = map (λ (k : ℕ × ℕ). k.1) ks

-- what holds of the keys of entries of a claim, once they are sorted
record AreSorted (I : Instance) (l : Claim) (ks : List (ℕ × ℕ)) : Type 0 where
  each : (k : ℕ × ℕ) → IsIn k ks → k.0 ≡ up I (entry_of l k.1)
  climbs : Climbs ks
  distinct : IsDistinct (λ (m n : ℕ). m == n) (seconds ks)

ordered_from : (I : Instance) (l : Claim) (ks : List (ℕ × ℕ)) → AreSorted I l ks →
    IsOrdered (comes_before I) (map (entry_of l) (seconds ks))
unfolding IsDistinct comes_before
ordered_from I l [] h = tt
ordered_from I l (k ∷ ks) h = (
  first,
  ordered_from I l ks (record {
    each = λ f i. h.each f (inr i);
    climbs = λ i j d e lt. h.climbs (suc i) (suc j) d (omega arith) (omega arith);
    distinct = h.distinct.1;
  }),
)
  where
    test : (m n b c : ℕ) → (m < n) ⊎ ((m ≡ n) × (b ≤ c)) → b ≢ c → (nat_lt m n || ((m == n) && nat_lt b c)) ≡ true
    test m n b c p ne = grind (arith, nat_tests)

    before : (j : ℕ × ℕ) → IsIn j ks → k.1 ≢ j.1 → comes_before I (entry_of l k.1) (entry_of l j.1) ≡ true
    before j i ne = test (up I (entry_of l k.1)) (up I (entry_of l j.1)) k.1 j.1
        (subst (λ (n : ℕ). (up I (entry_of l k.1) < n) ⊎ ((up I (entry_of l k.1) ≡ n) × (k.1 ≤ j.1))) (h.each j (inr i))
        (subst (λ (m : ℕ). (m < j.0) ⊎ ((m ≡ j.0) × (k.1 ≤ j.1))) (h.each k (inl refl)) (later k ks h.climbs j i)))
        ne

    first : (f : Entry) → IsIn f (map (entry_of l) (seconds ks)) → comes_before I (entry_of l k.1) f ≡ true
    first f i =
        let r = from_map (entry_of l) (seconds ks) f i in
        let q = from_map (λ (k : ℕ × ℕ). k.1) ks r.0 r.1 in
        let d = differ k.1 q.0.1 (all_at (λ (c : ℕ). (k.1 == c) ≡ false) (seconds ks) q.0.1 h.distinct.0
        (subst (λ (b : ℕ). IsIn b (seconds ks)) q.2 r.1)) in
        subst (λ (f : Entry). comes_before I (entry_of l k.1) f ≡ true)
        (ap (entry_of l) (sym q.2) ∙ sym r.2) (before q.0 q.1 d)

second_of_keys : (I : Instance) (es : List Entry) → seconds (map (key_of I) es) ≡ buffers_of es
second_of_keys I [] = refl
second_of_keys I (x ∷ xs) = ap (λ bs. x.0 ∷ bs) (second_of_keys I xs)

module _ (I : Instance) (l : Claim) (xs ys : List (ℕ × ℕ)) (claim : IsClaim I l) (is : xs ≡ keys_of I l l)
    (moved : IsPermutation xs ys) (climbing : IsSorted key_cmp ys) where
  -- a key is that of an entry that no rule excludes
  back : (k : ℕ × ℕ) → IsIn k ys → (e : Entry) × (IsIn e l × (not_excluded I l e ≡ true)) × (k ≡ key_of I e)
  back k i =
      let r = from_map (key_of I) (filter (not_excluded I l) l) k (subst (λ (ks : List (ℕ × ℕ)). IsIn k ks) is
      (in_permutation ys xs k (IsPermutation-sym xs ys moved) i)) in
      (r.0, from_filter (not_excluded I l) l r.0 r.1, r.2)

  forth : (e : Entry) → IsIn e l → not_excluded I l e ≡ true → IsIn (key_of I e) ys
  forth e i t = in_permutation xs ys (key_of I e) moved (subst (λ (ks : List (ℕ × ℕ)). IsIn (key_of I e) ks) (sym is)
      (into_map (key_of I) (filter (not_excluded I l) l) e (into_filter (not_excluded I l) l e i t)))

  sorted : AreSorted I l ys
  sorted = record {
    each = λ k i. (let r = back k i in
        let e : Entry = r.0 in
        let n : k.1 ≡ e.0 = ap (λ (k : ℕ × ℕ). k.1) r.2 in
        ap (λ (k : ℕ × ℕ). k.0) r.2 ∙ ap (up I) (is_entry l e claim.rises r.1.0 ∙ ap (entry_of l) (sym n)));
    climbs = λ i j d e lt. rw e (not_before (slice_index_or ys i d).0 (slice_index_or ys (i + 1) d).0
        (slice_index_or ys i d).1 (slice_index_or ys (i + 1) d).1 (climbing i d (omega arith) (omega arith)));
    distinct = IsDistinct-IsPermutation (λ (m n : ℕ). m == n) flips (seconds xs) (seconds ys)
        (IsPermutation-map (λ (k : ℕ × ℕ). k.1) xs ys moved)
        (subst (λ (bs : List ℕ). IsDistinct (λ (m n : ℕ). m == n) bs) (sym numbers)
        (rises_distinct (buffers_of (filter (not_excluded I l) l)) (rises-filter (not_excluded I l) l claim.rises)));
  }
    where
      flips : (m n : ℕ) → (m == n) ≡ (n == m)
      flips m n = grind (arith, nat_tests)

      numbers : seconds xs ≡ buffers_of (filter (not_excluded I l) l)
      numbers = ap (λ (ks : List (ℕ × ℕ)). seconds ks) is ∙ second_of_keys I (filter (not_excluded I l) l)

  members : ((e : Entry) → IsIn e (choices I (not_excluded I) l) ↔ (IsIn e l × (not_excluded I l e ≡ true))) →
      (e : Entry) → IsIn e (map (entry_of l) (seconds ys)) ↔ IsIn e (choices I (not_excluded I) l)
  members law e = (into, out)
    where
      into : IsIn e (map (entry_of l) (seconds ys)) → IsIn e (choices I (not_excluded I) l)
      into i =
          let r = from_map (entry_of l) (seconds ys) e i in
          let q = from_map (λ (k : ℕ × ℕ). k.1) ys r.0 r.1 in
          let b = back q.0 q.1 in
          let f : Entry = b.0 in
          let n : r.0 ≡ f.0 = q.2 ∙ ap (λ (k : ℕ × ℕ). k.1) b.2 in
          let s : f ≡ e = is_entry l f claim.rises b.1.0 ∙ ap (entry_of l) (sym n) ∙ sym r.2 in
          (law e).1
          (subst (λ (g : Entry). IsIn g l × (not_excluded I l g ≡ true)) s b.1)

      out : IsIn e (choices I (not_excluded I) l) → IsIn e (map (entry_of l) (seconds ys))
      out i =
          let r = (law e).0 i in
          subst (λ (g : Entry). IsIn g (map (entry_of l) (seconds ys))) (sym (is_entry l e claim.rises r.0))
          (into_map (entry_of l) (seconds ys) e.0
          (into_map (λ (k : ℕ × ℕ). k.1) ys (key_of I e) (forth e r.0 r.1)))

  -- by the law of the choices
  pub sorted_keys : IsOrdered (comes_before I) (choices I (not_excluded I) l) →
      ((e : Entry) → IsIn e (choices I (not_excluded I) l) ↔ (IsIn e l × (not_excluded I l e ≡ true))) →
      ((es fs : List Entry) → IsOrdered (comes_before I) es → IsOrdered (comes_before I) fs →
      ((e : Entry) → IsIn e es ↔ IsIn e fs) → es ≡ fs) →
      map (entry_of l) (map (λ (k : ℕ × ℕ). k.1) ys) ≡ choices I (not_excluded I) l
  sorted_keys order law one = one (map (entry_of l) (seconds ys)) (choices I (not_excluded I) l)
      (ordered_from I l ys sorted) order (members law)
