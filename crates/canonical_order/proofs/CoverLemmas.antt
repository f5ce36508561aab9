-- Children, covering, and the least buffer that passes a test.
use Rattle.std.proofs.Common.{◌≡◌, ℕ, zero, suc, ◌+◌, ◌<◌, ◌≤◌, ◌≢◌, ◌⊎◌, inl, inr, Bool, true, false, cond, ◌==◌, nat_lt, List, [], ◌∷◌, ◌++◌, length, take, max, ◌^◌, Option, Some, None, option_map, find, slice_index_or, IsTrue, nat_le, All, ◌-◌, refl, sym, ap, ◌∙◌, subst, arith}
use Rattle.std.proofs.lemmas.Bool.Decides.{nat_tests}
use Rattle.std.proofs.lemmas.Grind.{common_steps}
use Rattle.dsa_terms.specs.Buffers.{Instance, buffer, do_share}
use Rattle.dsa_model.specs.Buffer.{IsBuffer, buffer_limit}
use Rattle.dsa_model.proofs.Instances.{sound_buffer}
use Rattle.dsa_terms.specs.Claims.{Entry, Claim, IsIn, Rises, buffers_of, up, step, child, Covers}
use Rattle.dsa_search_laws.proofs.Placing.{in_buffers, in_child, of_child}
use Rattle.dsa_search_laws.proofs.Claims.{rises-child, length-child}
use Rattle.canonical_order.specs.Claims.{HasBuffer, entry_of, IsBoundedBy, IsKeptClaim, NonePassBelow, CoversEntry, CoversFirst, entries_below, least_buffer, IsLeastOf, IsLeastNumber, Passes}
use Rattle.canonical_order.specs.Stands.{Stands}
use Rattle.dsa_terms.proofs.NumberTests.{same, apart, at_most, is_at_most, is_below, not_below, below_or_last}
use Rattle.dsa_terms.proofs.Places.{in_at}
use Rattle.canonical_order.proofs.Entries.{entry_in, is_entry, in_range, up_limit}

-- ---- the least buffer that passes
pub pass_below_next : (test : Entry → Bool) (l : Claim) (n : ℕ) → Rises (buffers_of l) →
    (HasBuffer l n → test (entry_of l n) ≡ false) → NonePassBelow test l n → NonePassBelow test l (n + 1)
pass_below_next test l n r h k e i lt = elim (below_or_last e.0 n lt) [
  | inl q ↦ k e i q
  | inr q ↦ let p : e ≡ entry_of l e.0 = is_entry l e r i in
      ap test (p ∙ ap (entry_of l) q) ∙ h (subst (λ b. HasBuffer l b) q (in_buffers l e i))
]

pub none_passes_all : (test : Entry → Bool) (l : Claim) (n : ℕ) → ((e : Entry) → IsIn e l → e.0 < n) →
    NonePassBelow test l n → None ≡ least_buffer test l
none_passes_all test [] n h k = refl
none_passes_all test (x ∷ xs) n h k = rw (k x (inl refl) (h x (inl refl)))
    (none_passes_all test xs n (λ e i. h e (inr i)) (λ e i. k e (inr i)))

pub first_passes : (test : Entry → Bool) (l : Claim) (b : ℕ) → Rises (buffers_of l) → HasBuffer l b →
    test (entry_of l b) ≡ true → NonePassBelow test l b → Some b ≡ least_buffer test l
first_passes test l b r h t k = go l (entry_of l b) r (entry_in l b h) t k
  where
    go : (l : Claim) (e : Entry) → Rises (buffers_of l) → IsIn e l → test e ≡ true → NonePassBelow test l e.0 →
        Some e.0 ≡ least_buffer test l
    go [] e r i t k = absurd i
    go (x ∷ xs) e r (inl q) t k = rw (ap test (sym q) ∙ t) (ap (λ (e : Entry). let o : Option ℕ = Some e.0 in o) q)
    go (x ∷ xs) e r (inr i) t k = rw (k x (inl refl) (r.0 e.0 (in_buffers xs e i)))
        (go xs e r.1 i t (λ f j. k f (inr j)))

-- the first that passes is the least, since buffers rise
pub first_is_least : (test : Entry → Bool) (l : Claim) (answer : Option ℕ) → Rises (buffers_of l) →
    answer ≡ least_buffer test l → IsLeastOf (Passes test l) answer
first_is_least test l answer r e = subst (IsLeastOf (Passes test l)) (sym e) (go l r)
  where
    later : (x : Entry) (xs : Claim) (b : ℕ) → test x ≡ false → Passes test (x ∷ xs) b → Passes test xs b
    later x xs b f p = elim p.1 [
      | inl q ↦ absurd (let k : test p.0 ≡ false = ap test q ∙ f in let t : test p.0 ≡ true =
          p.3 in cc)
      | inr i ↦ (p.0, i, p.2, p.3)
    ]

    next : (x : Entry) (xs : Claim) (answer : Option ℕ) → test x ≡ false → IsLeastOf (Passes test xs) answer →
        IsLeastOf (Passes test (x ∷ xs)) answer
    next x xs None f h = λ b p. h b (later x xs b f p)
    next x xs (Some b) f h = record {
      holds = (h.holds.0, inr h.holds.1, h.holds.2, h.holds.3);
      least = λ c p. h.least c
          (later x xs c f p);
    }

    here : (x : Entry) (xs : Claim) → Rises (buffers_of (x ∷ xs)) → test x ≡ true →
        IsLeastNumber (Passes test (x ∷ xs)) x.0
    here x xs r t = record {
      holds = (x, inl refl, refl, t);
      least = λ c p. elim p.1 [
        | inl q ↦ let k : p.0.0 ≡ c = p.2 in let m : p.0.0 ≡ x.0 = ap (λ (e : Entry). e.0) q in omega arith
        | inr i ↦ let k : p.0.0 ≡ c = p.2 in let m : x.0 < p.0.0 = r.0 p.0.0 (in_buffers xs p.0 i) in omega arith
      ];
    }

    cases : (x : Entry) (xs : Claim) → Rises (buffers_of (x ∷ xs)) → (b : Bool) → test x ≡ b →
        IsLeastOf (Passes test xs) (least_buffer test xs) →
        IsLeastOf (Passes test (x ∷ xs)) (option_map (λ (e : Entry). e.0) (cond b (Some x) (find test xs)))
    cases x xs r true t h = here x xs r t
    cases x xs r false t h = next x xs (least_buffer test xs) t h

    go : (l : Claim) → Rises (buffers_of l) → IsLeastOf (Passes test l) (least_buffer test l)
    go [] r = λ b p. absurd p.1
    go (x ∷ xs) r = cases x xs r (test x) refl (go xs r.1)

-- ---- the entries below a number
below_in : (l : Claim) (n : ℕ) → ((y : ℕ) → IsIn y (buffers_of l) → n ≤ y) → entries_below n l ≡ []
below_in [] n h = refl
below_in (x ∷ xs) n h = rw (not_below x.0 n (h x.0 (inl refl))) (below_in xs n (λ y i. h y (inr i)))

pub below_zero : (l : Claim) → [] ≡ entries_below 0 l
below_zero l = sym (below_in l 0 (λ y i. omega arith))

pub below_skip : (l : Claim) (n : ℕ) → (HasBuffer l n → ⊥) → entries_below (n + 1) l ≡ entries_below n l
below_skip [] n h = refl
below_skip (x ∷ xs) n h = let e : nat_lt x.0 (n + 1) ≡ nat_lt x.0 n = unmoved x.0 n (λ q. h (inl (sym q))) in let f =
    below_skip xs n (λ i. h (inr i)) in cc
  where
    unmoved : (a n : ℕ) → a ≢ n → nat_lt a (n + 1) ≡ nat_lt a n
    unmoved a n h = grind (arith, nat_tests)

pub below_take : (l : Claim) (n : ℕ) → Rises (buffers_of l) → HasBuffer l n →
    entries_below (n + 1) l ≡ entries_below n l ++ entry_of l n ∷ []
below_take [] n r h = absurd h
below_take (x ∷ xs) n r (inl q) =
    let k : x.0 ≡ n = sym q in
    let e : nat_lt x.0 (n + 1) ≡ true = is_below x.0 (n + 1) (omega arith) in
    let f : nat_lt x.0 n ≡ false = not_below x.0 n (omega arith) in
    let a : entries_below (n + 1) xs ≡ [] = below_in xs (n + 1) (λ y i. let m : x.0 < y = r.0 y i in omega arith) in
    let b : entries_below n xs ≡ [] = below_in xs n (λ y i. let m : x.0 < y = r.0 y i in omega arith) in
    let t : (x.0 == n) ≡ true = same x.0 n k in
    rw (e, f, a, b, t) (ap (λ (b : ℕ). let e : Claim = (b, x.1) ∷ [] in e) k)
below_take (x ∷ xs) n r (inr i) =
    let k : x.0 < n = r.0 n i in
    let e : nat_lt x.0 (n + 1) ≡ true = is_below x.0 (n + 1) (omega arith) in
    let f : nat_lt x.0 n ≡ true = is_below x.0 n k in
    let t : (x.0 == n) ≡ false = apart x.0 n (omega arith) in
    rw (e, f, t) (ap (λ (l : Claim). x ∷ l) (below_take xs n r.1 i))

pub below_all : (l : Claim) (n : ℕ) → ((e : Entry) → IsIn e l → e.0 < n) → entries_below n l ≡ l
below_all [] n h = refl
below_all (x ∷ xs) n h = rw (is_below x.0 n (h x (inl refl))) (ap (λ (l : Claim). x ∷ l)
    (below_all xs n (λ e i. h e (inr i))))

-- ---- children
pub in_child_by : (I : Instance) (l : Claim) (b c : ℕ) → HasBuffer l c → c ≢ b → HasBuffer (child I l (entry_of l b)) c
in_child_by I l b c h ne = in_buffers _ _ (in_child I l (entry_of l b) (entry_of l c) (entry_in l c h) ne)

pub entry_of_child : (I : Instance) (l : Claim) (b c : ℕ) → Rises (buffers_of l) → HasBuffer l c → c ≢ b →
    entry_of (child I l (entry_of l b)) c ≡ (c, max (up I (entry_of l c)) (up I (entry_of l b) + step I b c))
entry_of_child I l b c r h ne =
    sym (is_entry (child I l (entry_of l b)) (c, max (up I (entry_of l c)) (up I (entry_of l b) + step I b c))
    (rises-child I l (entry_of l b) r)
    (in_child I l (entry_of l b) (entry_of l c) (entry_in l c h) ne))

pub from_child : (I : Instance) (l : Claim) (b c : ℕ) → HasBuffer (child I l (entry_of l b)) c → HasBuffer l c × (c ≢ b)
from_child I l b c h =
    let r = of_child I l (entry_of l b) (entry_of (child I l (entry_of l b)) c) (entry_in _ c h) in
    let q : c ≡ r.0.0 = ap (λ (e : Entry). e.0) r.3 in
    (subst (λ b. HasBuffer l b) (sym q) (in_buffers l r.0 r.1), λ e. r.2 (sym q ∙ e))

-- ---- covering
pub covers_entry : (I : Instance) (l : Claim) (e : Entry) → HasBuffer l e.0 → e.1 ≤ up I (entry_of l e.0) →
    CoversEntry I l e
covers_entry I l e h le = (entry_of l e.0, entry_in l e.0 h, refl, le)

pub covered_has : (I : Instance) (l : Claim) (e : Entry) → CoversEntry I l e → HasBuffer l e.0
covered_has I l e k = subst (λ b. HasBuffer l b) k.2 (in_buffers l k.0 k.1)

pub from_covered : (I : Instance) (l : Claim) (e : Entry) → Rises (buffers_of l) → CoversEntry I l e →
    HasBuffer l e.0 × (e.1 ≤ up I (entry_of l e.0))
from_covered I l e r k = (
  subst (λ b. HasBuffer l b) k.2 (in_buffers l k.0 k.1),
  subst (λ (f : Entry). e.1 ≤ up I f)
      (is_entry l k.0 r k.1 ∙ ap (entry_of l) k.2) k.3,
)

in_take : {X : Type 0} (xs : List X) (n : ℕ) (x d : X) → IsIn x (take (n + 1) xs) → n < length xs →
    IsIn x (take n xs) ⊎ (x ≡ slice_index_or xs n d)
in_take xs n x d i lt = go x d xs n (rw (add_one n) at i) lt
  where
    add_one : (n : ℕ) → n + 1 ≡ suc n
    add_one n = omega arith

    go : {X : Type 0} (x d : X) (xs : List X) (n : ℕ) → IsIn x (take (suc n) xs) → n < length xs →
        IsIn x (take n xs) ⊎ (x ≡ slice_index_or xs n d)
    go x d [] n i lt = absurd i
    go x d (y ∷ ys) zero (inl q) lt = inr q
    go x d (y ∷ ys) zero (inr q) lt = absurd (none_taken x ys q)
      where
        none_taken : {X : Type 0} (x : X) (ys : List X) → IsIn x (take zero ys) → ⊥
        none_taken x [] i = i
        none_taken x (y ∷ ys) i = i
    go x d (y ∷ ys) (suc n) (inl q) lt = inl (inl q)
    go x d (y ∷ ys) (suc n) (inr q) lt = elim (go x d ys n q (omega arith)) [ inl h ↦ inl (inr h) | inr h ↦ inr h ]

pub covers_next : (I : Instance) (k l items : Claim) (n : ℕ) → items ≡ k → n < length items →
    CoversEntry I l (slice_index_or items n (0, 0)) → CoversFirst I k l n → CoversFirst I k l (n + 1)
covers_next I k l items n q lt h c f i = elim (in_take items n f (0, 0)
    (subst (λ (k : Claim). IsIn f (take (n + 1) k)) (sym q) i) lt) [
      | inl j ↦ c f (subst (λ (k : Claim). IsIn f (take n k)) q j)
      | inr j ↦ subst (CoversEntry I l) (sym j) h
    ]

pub covers_from_first : (I : Instance) (k l items : Claim) (n : ℕ) → items ≡ k → length items ≤ n →
    CoversFirst I k l n → Covers I k l
covers_from_first I k l items n q le c e i = c e (subst (λ k. IsIn e k) (sym (take_all k n (rw q at le))) i)
  where
    take_all : (k : Claim) (n : ℕ) → length k ≤ n → take n k ≡ k
    take_all k n le = grind (arith, common_steps)

pub not_covered : (I : Instance) (k l items : Claim) (n : ℕ) → items ≡ k → n < length items →
    (CoversEntry I l (slice_index_or items n (0, 0)) → ⊥) → Covers I k l → ⊥
not_covered I k l items n q lt h c = h (c (slice_index_or items n (0, 0))
    (subst (λ k. IsIn (slice_index_or items n (0, 0)) k) q (in_at items n (0, 0) lt)))

-- ---- the loop that makes a child
pub child_skips : (I : Instance) (l : Claim) (b c : ℕ) (pairs after : Claim) → (HasBuffer l c → c ≢ b → ⊥) →
    pairs ≡ entries_below c (child I l (entry_of l b)) → after ≡ pairs →
    after ≡ entries_below (c + 1) (child I l (entry_of l b))
child_skips I l b c pairs after h e q =
    q ∙ (e ∙ sym (below_skip (child I l (entry_of l b)) c (λ i. let r = from_child I l b c i in h r.0 r.1)))

pub child_takes : (I : Instance) (l : Claim) (b c bound : ℕ) (pairs after : Claim) → Rises (buffers_of l) →
    HasBuffer l c → c ≢ b →
    bound ≡ max (up I (entry_of l c)) (up I (entry_of l b) + step I b c) →
    pairs ≡ entries_below c (child I l (entry_of l b)) → after ≡ pairs ++ (c, bound) ∷ [] →
    after ≡ entries_below (c + 1) (child I l (entry_of l b))
child_takes I l b c bound pairs after r h ne m e q =
    let t = below_take (child I l (entry_of l b)) c (rises-child I l (entry_of l b) r) (in_child_by I l b c h ne) in
    let f = entry_of_child I l b c r h ne in
    rw (t, f, q, e, m) refl

pub child_made : (I : Instance) (l : Claim) (b n : ℕ) (pairs : Claim) → Stands I l → length I ≤ n →
    pairs ≡ entries_below n (child I l (entry_of l b)) → pairs ≡ child I l (entry_of l b)
child_made I l b n pairs s le e = e ∙ below_all (child I l (entry_of l b)) n
    (λ f i. let k : f.0 < length I = in_range_child f i in omega arith)
  where
    in_range_child : (f : Entry) → IsIn f (child I l (entry_of l b)) → f.0 < length I
    in_range_child f i = in_range I l f.0 s (from_child I l b f.0 (in_buffers _ f i)).0

-- a claim of the instance has no more buffers than the instance
pub length_within : (l : Claim) (n : ℕ) → Rises (buffers_of l) → ((e : Entry) → IsIn e l → e.0 < n) → length l ≤ n
length_within l n r h = let k : length l ≤ n - 0 = from l 0 r (λ e i. omega arith) h in omega arith
  where
    from : (l : Claim) (m : ℕ) → Rises (buffers_of l) → ((e : Entry) → IsIn e l → m ≤ e.0) →
        ((e : Entry) → IsIn e l → e.0 < n) → length l ≤ n - m
    from [] m r h k = omega arith
    from (x ∷ xs) m r h k =
        let a : m ≤ x.0 = h x (inl refl) in
        let b : x.0 < n = k x (inl refl) in
        let c : length xs ≤ n - suc x.0 = from xs (suc x.0) r.1 (λ e i. r.0 e.0 (in_buffers xs e i))
        (λ e i. k e (inr i)) in
        omega arith

pub step_limit : (I : Instance) (b c : ℕ) → All IsBuffer I → b < length I → step I b c ≤ 2 ^ 40
unfolding step
step_limit I b c h lt = go (do_share (buffer I b) (buffer I c)) (nat_lt c b) ((sound_buffer I b h lt).within_size)
  where
    go : (s t : Bool) → (buffer I b).size ≤ 2 ^ 40 → cond s (buffer I b).size (cond t 1 0) ≤ 2 ^ 40
    go true t h = h
    go false true h = omega arith
    go false false h = omega arith

pub child_is_kept : (I : Instance) (l : Claim) (b : ℕ) → Stands I l → IsBoundedBy (2 ^ 60) l → HasBuffer l b →
    IsKeptClaim (child I l (entry_of l b))
child_is_kept I l b s k h = record {
  rises = rises-child I l (entry_of l b) s.claim.rises;
  bounds = λ e i.
      let q = from_child I l b e.0 (in_buffers _ e i) in
      let f : e ≡ (e.0, max (up I (entry_of l e.0)) (up I (entry_of l b) + step I b e.0)) =
      is_entry _ e (rises-child I l (entry_of l b) s.claim.rises) i ∙
      entry_of_child I l b e.0 s.claim.rises q.0 q.1 in
      let k1 : e.1 ≡ max (up I (entry_of l e.0)) (up I (entry_of l b) + step I b e.0) = ap (λ (e : Entry). e.1) f in
      let k2 : up I (entry_of l e.0) < 2 ^ 60 + 2 ^ 32 = up_limit I l e.0 (2 ^ 60) s k q.0 in
      let k3 : up I (entry_of l b) < 2 ^ 60 + 2 ^ 32 = up_limit I l b (2 ^ 60) s k h in
      let k4 : step I b e.0 ≤ 2 ^ 40 = step_limit I b e.0 s.buffers (in_range I l b s h) in
      omega arith;
  count = let q : suc (length (child I l (entry_of l b))) ≡ length l =
      length-child I l (entry_of l b) s.claim.rises (entry_in l b h) in let n : length l ≤ length I =
      length_within l (length I) s.claim.rises s.claim.in_range in let m : length I ≤ buffer_limit = s.count in
      omega arith;
}

-- the test of one entry
pub covers_test : (I : Instance) (l : Claim) (c bound low : ℕ) → Rises (buffers_of l) → HasBuffer l c →
    low ≡ up I (entry_of l c) →
    (IsTrue (nat_le bound low) → CoversEntry I l (c, bound)) × (CoversEntry I l (c, bound) → IsTrue (nat_le bound low))
covers_test I l c bound low r h e = (
  λ t. covers_entry I l (c, bound) h (let k : bound ≤ low = at_most bound low t in omega arith),
  λ k. let q : bound ≤ up I (entry_of l c) = (from_covered I l (c, bound) r k).1 in is_at_most bound low (omega arith),
)
