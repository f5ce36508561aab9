-- Changes carried out: what is in the claim that results, and that a difference leads from one claim to the other.
use Rattle.std.proofs.Common.{◌≡◌, ◌↔◌, ℕ, ◌<◌, ◌≤◌, ◌⊎◌, inl, inr, Bool, true, false, cond, ◌==◌, ◌&&◌, nat_lt, List, [], ◌∷◌, ◌++◌, map, filter, refl, sym, ap, ◌∙◌, subst, arith, append-nil}
use Rattle.dsa_terms.specs.Claims.{Claim, Entry, IsIn, Rises, buffers_of}
use Rattle.dsa_terms.proofs.Lists.{any_from, any_gives, from_append, from_filter, from_map, into_filter, left_append, into_map, right_append}
use Rattle.dsa_terms.proofs.Moments.{and_true}
use Rattle.dsa_terms.proofs.NumberTests.{below_or_from, equal, is_below, less, not_below, same}
use Rattle.log_text.specs.Changes.{Change, Drops, Puts, above, below, buffer_of, carried_out, difference, has_entry, left_by}

-- ---- entries below and above a buffer
-- what is above all of it
abbrev pub IsAbove : ℕ → Claim → Type 0
IsAbove b l = (e : Entry) → IsIn e l → b < e.0

pub head_above : (e : Entry) (l : Claim) → Rises (buffers_of (e ∷ l)) → IsAbove e.0 l
head_above e l r f i = r.0 f.0 (into_map (λ (g : Entry). g.0) l f i)

pub below_none : (b : ℕ) (l : Claim) → IsAbove b l → below b l ≡ []
below_none b [] h = refl
below_none b (e ∷ l) h = go (nat_lt e.0 b) (not_below e.0 b (let k = h e (inl refl) in omega arith))
    (below_none b l (λ f i. h f (inr i)))
  where
    go : (t : Bool) → t ≡ false → below b l ≡ [] → cond t (e ∷ below b l) (below b l) ≡ []
    go true q ih = absurd cc
    go false q ih = ih

pub above_all : (b : ℕ) (l : Claim) → IsAbove b l → above b l ≡ l
above_all b [] h = refl
above_all b (e ∷ l) h = go (nat_lt b e.0) (is_below b e.0 (h e (inl refl))) (above_all b l (λ f i. h f (inr i)))
  where
    go : (t : Bool) → t ≡ true → above b l ≡ l → cond t (e ∷ above b l) (above b l) ≡ e ∷ l
    go true q ih = ap (λ (u : Claim). e ∷ u) ih
    go false q ih = absurd cc

-- an entry below the buffer
pub below_more : (b : ℕ) (e : Entry) (l : Claim) → e.0 < b → below b (e ∷ l) ≡ e ∷ below b l
below_more b e l h = go (nat_lt e.0 b) (is_below e.0 b h)
  where
    go : (t : Bool) → t ≡ true → cond t (e ∷ below b l) (below b l) ≡ e ∷ below b l
    go true q = refl
    go false q = absurd cc

pub above_less : (b : ℕ) (e : Entry) (l : Claim) → e.0 ≤ b → above b (e ∷ l) ≡ above b l
above_less b e l h = go (nat_lt b e.0) (not_below b e.0 h)
  where
    go : (t : Bool) → t ≡ false → cond t (e ∷ above b l) (above b l) ≡ above b l
    go true q = absurd cc
    go false q = refl

pub below_same : (b : ℕ) (e : Entry) (l : Claim) → b ≤ e.0 → below b (e ∷ l) ≡ below b l
below_same b e l h = go (nat_lt e.0 b) (not_below e.0 b h)
  where
    go : (t : Bool) → t ≡ false → cond t (e ∷ below b l) (below b l) ≡ below b l
    go true q = absurd cc
    go false q = refl

pub in_above : (b : ℕ) (l : Claim) (e : Entry) → IsIn e (above b l) → IsIn e l × (b < e.0)
in_above b l e i = let k = from_filter (λ f. nat_lt b f.0) l e i in (k.0, less b e.0 k.1)

in_below : (b : ℕ) (l : Claim) (e : Entry) → IsIn e (below b l) → IsIn e l × (e.0 < b)
in_below b l e i = let k = from_filter (λ f. nat_lt f.0 b) l e i in (k.0, less e.0 b k.1)

pub above_is_above : (b : ℕ) (l : Claim) → IsAbove b (above b l)
above_is_above b l e i = (in_above b l e i).1

-- ---- lists that rise
rises_filtered : (p : Entry → Bool) (l : Claim) → Rises (buffers_of l) → Rises (buffers_of (filter p l))
rises_filtered p [] r = tt
rises_filtered p (x ∷ xs) r = go (rises_filtered p xs r.1) (p x)
  where
    among : (y : ℕ) → IsIn y (buffers_of (filter p xs)) → x.0 < y
    among y i =
        let q = from_map (λ (e : Entry). e.0) (filter p xs) y i in
        rw q.2 (r.0 q.0.0 (into_map (λ (e : Entry). e.0) xs q.0 ((from_filter p xs q.0 q.1).0)))

    go : Rises (buffers_of (filter p xs)) → (b : Bool) → Rises (buffers_of (cond b (x ∷ filter p xs) (filter p xs)))
    go ih true = (among, ih)
    go ih false = ih

pub rises_joined : (xs ys : List ℕ) → Rises xs → Rises ys → ((x y : ℕ) → IsIn x xs → IsIn y ys → x < y) →
    Rises (xs ++ ys)
rises_joined [] ys r s h = s
rises_joined (x ∷ xs) ys r s h = (first, rises_joined xs ys r.1 s (λ a b i j. h a b (inr i) j))
  where
    first : (z : ℕ) → IsIn z (xs ++ ys) → x < z
    first z i = elim (from_append xs ys z i) [ inl j ↦ r.0 z j | inr j ↦ h x z (inl refl) j ]

-- ---- what is in the claim that results
pub in_carried : (l : Claim) (cs : List Change) (e : Entry) → IsIn e (carried_out l cs) →
    IsIn e l ⊎ IsIn (Puts e) cs
in_carried l [] e i = inl i
in_carried l (c ∷ cs) e i = elim (from_append (below (buffer_of c) l)
    (left_by c ++ carried_out (above (buffer_of c) l) cs) e i) [
      | inl j ↦ inl (in_below (buffer_of c) l e j).0
      | inr j ↦ after (in_carried (above (buffer_of c) l) cs e)
          (from_append (left_by c) (carried_out (above (buffer_of c) l) cs) e j)
    ]
  where
    here : (d : Change) → IsIn e (left_by d) → Puts e ≡ d
    here (Puts f) (inl q) = ap Puts q
    here (Puts f) (inr k) = absurd k
    here (Drops b) k = absurd k

    after : (IsIn e (carried_out (above (buffer_of c) l) cs) → IsIn e (above (buffer_of c) l) ⊎ IsIn (Puts e) cs) →
        IsIn e (left_by c) ⊎ IsIn e (carried_out (above (buffer_of c) l) cs) → IsIn e l ⊎ IsIn (Puts e) (c ∷ cs)
    after ih (inl j) = inr (inl (here c j))
    after ih (inr j) = elim (ih j)
        [ inl k ↦ inl (in_above (buffer_of c) l e k).0 | inr k ↦ inr (inr k) ]

-- what results past a buffer is above it
rest_is_above : (b : ℕ) (l : Claim) (cs : List Change) → ((x : ℕ) → IsIn x (map buffer_of cs) → b < x) →
    IsAbove b (carried_out (above b l) cs)
rest_is_above b l cs h e i = elim (in_carried (above b l) cs e i)
    [ inl j ↦ (in_above b l e j).1 | inr j ↦ h e.0 (into_map buffer_of cs (Puts e) j) ]

buffers-append : (k m : Claim) → buffers_of (k ++ m) ≡ buffers_of k ++ buffers_of m
buffers-append [] m = refl
buffers-append (e ∷ k) m = ap (λ (u : List ℕ). e.0 ∷ u) (buffers-append k m)

-- the buffers of what results rise
pub rises_carried : (l : Claim) (cs : List Change) → Rises (buffers_of l) → Rises (map buffer_of cs) →
    Rises (buffers_of (carried_out l cs))
rises_carried l [] r s = r
rises_carried l (c ∷ cs) r s =
    subst Rises (sym (buffers-append (below (buffer_of c) l) (left_by c ++ carried_out (above (buffer_of c) l) cs)))
    (rises_joined (buffers_of (below (buffer_of c) l))
    (buffers_of (left_by c ++ carried_out (above (buffer_of c) l) cs))
    (rises_filtered (λ e. nat_lt e.0 (buffer_of c)) l r)
    (tail c (carried_out (above (buffer_of c) l) cs) (rest_is_above (buffer_of c) l cs s.0)
    (rises_carried (above (buffer_of c) l) cs (rises_filtered (λ e. nat_lt (buffer_of c) e.0) l r) s.1))
    (λ x y i j. let k : x < buffer_of c = low (buffer_of c) l x i in
    let m : buffer_of c ≤ y = high c (carried_out (above (buffer_of c) l) cs) y
    (rest_is_above (buffer_of c) l cs s.0) j in
    omega arith))
  where
    tail : (c : Change) (rest : Claim) → IsAbove (buffer_of c) rest → Rises (buffers_of rest) →
        Rises (buffers_of (left_by c ++ rest))
    tail (Puts e) rest h r = (λ y i. let q = from_map (λ (f : Entry). f.0) rest y i in rw q.2 (h q.0 q.1), r)
    tail (Drops b) rest h r = r

    low : (b : ℕ) (l : Claim) (x : ℕ) → IsIn x (buffers_of (below b l)) → x < b
    low b l x i = let q = from_map (λ (f : Entry). f.0) (below b l) x i in rw q.2 ((in_below b l q.0 q.1).1)

    high : (c : Change) (rest : Claim) (y : ℕ) → IsAbove (buffer_of c) rest → IsIn y (buffers_of (left_by c ++ rest)) →
        buffer_of c ≤ y
    high (Puts e) rest y h (inl q) = omega arith
    high (Puts e) rest y h (inr i) = let q = from_map (λ (f : Entry). f.0) rest y i in
        let k : e.0 < q.0.0 = h q.0 q.1 in let m : y ≡ q.0.0 = q.2 in omega arith
    high (Drops b) rest y h i = let q = from_map (λ (f : Entry). f.0) rest y i in
        let k : b < q.0.0 = h q.0 q.1 in let m : y ≡ q.0.0 = q.2 in omega arith

-- ---- a difference leads from one claim to the other
abbrev pub dropped : Claim → List Change
dropped l = map (λ e. Drops e.0) l

-- an entry above the first changed buffer ..
first_goes : (e : Entry) (l : Claim) (cs : List Change) → IsAbove e.0 l →
    carried_out (e ∷ l) (Drops e.0 ∷ cs) ≡ carried_out l cs
first_goes e l cs h = rw (
  below_same e.0 e l (omega arith),
  below_none e.0 l h,
  above_less e.0 e l (omega arith),
  above_all e.0 l h,
) refl

first_changes : (e f : Entry) (l : Claim) (cs : List Change) → e.0 ≡ f.0 → IsAbove f.0 l →
    carried_out (e ∷ l) (Puts f ∷ cs) ≡ f ∷ carried_out l cs
first_changes e f l cs q h = rw (
  below_same f.0 e l (omega arith),
  below_none f.0 l h,
  above_less f.0 e l (omega arith),
  above_all f.0 l h,
) refl

one_comes_first : (f : Entry) (l : Claim) (cs : List Change) → IsAbove f.0 l →
    carried_out l (Puts f ∷ cs) ≡ f ∷ carried_out l cs
one_comes_first f l cs h = rw (below_none f.0 l h, above_all f.0 l h) refl

pub first_stays : (e : Entry) (l : Claim) (cs : List Change) → ((c : Change) → IsIn c cs → e.0 < buffer_of c) →
    carried_out (e ∷ l) cs ≡ e ∷ carried_out l cs
first_stays e l [] h = refl
first_stays e l (c ∷ cs) h = let k : e.0 < buffer_of c = h c (inl refl) in
    rw (below_more (buffer_of c) e l k, above_less (buffer_of c) e l (omega arith)) refl

-- what is below is dropped
low_goes : (low high : Claim) (cs : List Change) → Rises (buffers_of (low ++ high)) →
    carried_out (low ++ high) (dropped low ++ cs) ≡ carried_out high cs
low_goes [] high cs r = refl
low_goes (e ∷ low) high cs r = first_goes e (low ++ high) (dropped low ++ cs) (head_above e (low ++ high) r)
    ∙ low_goes low high cs r.1

-- the claim around a buffer
pub parted : (b : ℕ) (l : Claim) → Rises (buffers_of l) →
    (l ≡ below b l ++ above b l) ⊎ ((x : ℕ) × (l ≡ below b l ++ ((b, x) ∷ above b l)))
parted b [] r = inl refl
parted b (e ∷ l) r = elim (below_or_from e.0 b) [
  | inl h ↦ elim (parted b l r.1) [
    | inl q ↦ inl (rw (below_more b e l h, above_less b e l (omega arith)) (ap (λ (u : Claim). e ∷ u) q))
    | inr q ↦ inr (q.0, rw (below_more b e l h, above_less b e l (omega arith)) (ap (λ (u : Claim). e ∷ u) q.1))
  ]
  | inr h ↦ elim (below_or_from b e.0) [
    | inl k ↦ inl (all_above k)
    | inr k ↦ inr (e.1, here (omega arith))
  ]
]
  where
    all_above : b < e.0 → e ∷ l ≡ below b (e ∷ l) ++ above b (e ∷ l)
    all_above k = rw (below_none b (e ∷ l) past, above_all b (e ∷ l) past) refl
      where
        past : IsAbove b (e ∷ l)
        past f (inl q) = let m : f.0 ≡ e.0 = ap (λ (g : Entry). g.0) q in omega arith
        past f (inr i) = let m : e.0 < f.0 = head_above e l r f i in omega arith

    here : e.0 ≡ b → e ∷ l ≡ below b (e ∷ l) ++ ((b, e.1) ∷ above b (e ∷ l))
    here q = rw (
      below_same b e l (omega arith),
      below_none b l past,
      above_less b e l (omega arith),
      above_all b l past,
    )
        (ap (λ (n : ℕ). let f : Entry = (n, e.1) in f ∷ l) q)
      where
        past : IsAbove b l
        past f i = let m : e.0 < f.0 = head_above e l r f i in omega arith

-- ---- the test of an entry
same_both : (e f : Entry) → ((f.0 == e.0) && (f.1 == e.1)) ≡ true → e ≡ f
same_both e f h = let t = and_true (f.0 == e.0) (f.1 == e.1) h in
    pair_of (equal f.0 e.0 t.0) (equal f.1 e.1 t.1)
  where
    pair_of : f.0 ≡ e.0 → f.1 ≡ e.1 → e ≡ f
    pair_of p q = ap (λ (a : ℕ). let g : Entry = (a, e.1) in g) (sym p)
        ∙ ap (λ (a : ℕ). let g : Entry = (f.0, a) in g) (sym q)

pub has_in : (e : Entry) (l : Claim) → has_entry e l ≡ true → IsIn e l
has_in e l h = let t = any_gives (λ f. (f.0 == e.0) && (f.1 == e.1)) l h in
    subst (λ (f : Entry). IsIn f l) (sym (same_both e t.0 t.2)) t.1

pub has_not : (e : Entry) (l : Claim) → has_entry e l ≡ false → IsIn e l → ⊥
has_not e l h i = let k : has_entry e l ≡ true = any_from (λ f. (f.0 == e.0) && (f.1 == e.1)) l e i
    (rw (same e.0 e.0 refl, same e.1 e.1 refl) refl) in cc

-- ---- what a difference has
pub in_difference : (l m : Claim) (c : Change) → Rises (buffers_of m) → IsIn c (difference l m) →
    ((e : Entry) × IsIn e l × (c ≡ Drops e.0)) ⊎ ((e : Entry) × IsIn e m × (IsIn e l → ⊥) × (c ≡ Puts e))
in_difference l [] c r i = let t = from_map (λ (e : Entry). Drops e.0) l c i in inl (t.0, t.1, t.2)
in_difference l (f ∷ m) c r i =
    elim (from_append (dropped (below f.0 l))
    (cond (has_entry f l) [] (Puts f ∷ []) ++ difference (above f.0 l) m) c i) [
      | inl j ↦ (let t = from_map (λ (e : Entry). Drops e.0) (below f.0 l) c j in
          inl (t.0, (in_below f.0 l t.0 t.1).0, t.2))
      | inr j ↦ elim (from_append (cond (has_entry f l) [] (Puts f ∷ [])) (difference (above f.0 l) m) c j)
          [ inl k ↦ here (has_entry f l) refl k | inr k ↦ later (in_difference (above f.0 l) m c r.1 k) ]
    ]
  where
    here : (t : Bool) → has_entry f l ≡ t → IsIn c (cond t [] (Puts f ∷ [])) →
        ((e : Entry) × IsIn e l × (c ≡ Drops e.0)) ⊎ ((e : Entry) × IsIn e (f ∷ m) × (IsIn e l → ⊥) × (c ≡ Puts e))
    here true q k = absurd k
    here false q (inl p) = inr (f, inl refl, has_not f l q, p)
    here false q (inr k) = absurd k

    later : ((e : Entry) × IsIn e (above f.0 l) × (c ≡ Drops e.0))
        ⊎ ((e : Entry) × IsIn e m × (IsIn e (above f.0 l) → ⊥) × (c ≡ Puts e)) →
        ((e : Entry) × IsIn e l × (c ≡ Drops e.0)) ⊎ ((e : Entry) × IsIn e (f ∷ m) × (IsIn e l → ⊥) × (c ≡ Puts e))
    later (inl (e, i, q)) = inl (e, (in_above f.0 l e i).0, q)
    later (inr (e, i, n, q)) = inr (
      e,
      inr i,
      (λ j. n (into_filter (λ g. nat_lt f.0 g.0) l e j
          (is_below f.0 e.0 (head_above f m r e i)))),
      q,
    )

-- all of it is above what is below both claims
difference_above : (b : ℕ) (l m : Claim) → Rises (buffers_of m) → IsAbove b l → IsAbove b m → (c : Change) →
    IsIn c (difference l m) → b < buffer_of c
difference_above b l m r h k c i = elim (in_difference l m c r i) [
  | inl t ↦ at c t.0.0 (ap buffer_of t.2) (h t.0 t.1)
  | inr t ↦ at c t.0.0 (ap buffer_of t.3) (k t.0 t.1)
]
  where
    at : (c : Change) (n : ℕ) → buffer_of c ≡ n → b < n → b < buffer_of c
    at c n q h = omega arith

-- the buffers of a difference rise
pub rises_difference : (l m : Claim) → Rises (buffers_of l) → Rises (buffers_of m) →
    Rises (map buffer_of (difference l m))
rises_difference l [] r s = subst Rises (sym (drops_buffers l)) r
  where
    drops_buffers : (l : Claim) → map buffer_of (dropped l) ≡ buffers_of l
    drops_buffers [] = refl
    drops_buffers (e ∷ l) = ap (λ (u : List ℕ). e.0 ∷ u) (drops_buffers l)
rises_difference l (f ∷ m) r s =
    subst Rises (sym (split (below f.0 l) (cond (has_entry f l) [] (Puts f ∷ []) ++ difference (above f.0 l) m)))
    (rises_joined (buffers_of (below f.0 l))
    (map buffer_of (cond (has_entry f l) [] (Puts f ∷ []) ++ difference (above f.0 l) m))
    (rises_filtered (λ e. nat_lt e.0 f.0) l r)
    (with_head (rises_difference (above f.0 l) m (rises_filtered (λ e. nat_lt f.0 e.0) l r) s.1) (has_entry f l))
    (λ x y i j. let k : x < f.0 = low x i in let n : f.0 ≤ y = high (has_entry f l) y j in omega arith))
  where
    split : (k : Claim) (cs : List Change) → map buffer_of (dropped k ++ cs) ≡ buffers_of k ++ map buffer_of cs
    split [] cs = refl
    split (e ∷ k) cs = ap (λ (u : List ℕ). e.0 ∷ u) (split k cs)

    past : (c : Change) → IsIn c (difference (above f.0 l) m) → f.0 < buffer_of c
    past c i = difference_above f.0 (above f.0 l) m s.1 (above_is_above f.0 l) (head_above f m s) c i

    past_number : (y : ℕ) → IsIn y (map buffer_of (difference (above f.0 l) m)) → f.0 < y
    past_number y i = let q = from_map buffer_of (difference (above f.0 l) m) y i in rw q.2 (past q.0 q.1)

    with_head : Rises (map buffer_of (difference (above f.0 l) m)) → (t : Bool) →
        Rises (map buffer_of (cond t [] (Puts f ∷ []) ++ difference (above f.0 l) m))
    with_head rest true = rest
    with_head rest false = (past_number, rest)

    low : (x : ℕ) → IsIn x (buffers_of (below f.0 l)) → x < f.0
    low x i = let q = from_map (λ (e : Entry). e.0) (below f.0 l) x i in rw q.2 ((in_below f.0 l q.0 q.1).1)

    high : (t : Bool) (y : ℕ) → IsIn y (map buffer_of (cond t [] (Puts f ∷ []) ++ difference (above f.0 l) m)) → f.0 ≤ y
    high true y i = let k = past_number y i in omega arith
    high false y (inl q) = omega arith
    high false y (inr i) = let k = past_number y i in omega arith

-- carried out, it gives the other claim
pub carried_difference : (l m : Claim) → Rises (buffers_of l) → Rises (buffers_of m) →
    carried_out l (difference l m) ≡ m
carried_difference l [] r s = ap (λ (k : Claim). carried_out k (dropped l)) (sym (append-nil l))
    ∙ (ap (λ (cs : List Change). carried_out (l ++ []) cs) (sym (append-nil (dropped l)))
    ∙ low_goes l [] [] (subst (λ (k : Claim). Rises (buffers_of k)) (sym (append-nil l)) r))
carried_difference l (f ∷ m) r s =
    go (carried_difference (above f.0 l) m (rises_filtered (λ e. nat_lt f.0 e.0) l r) s.1) (parted f.0 l r)
    (has_entry f l) refl
  where
    start : (high : Claim) (cs : List Change) → l ≡ below f.0 l ++ high →
        carried_out l (dropped (below f.0 l) ++ cs) ≡ carried_out high cs
    start high cs q = ap (λ (k : Claim). carried_out k (dropped (below f.0 l) ++ cs)) q
        ∙ low_goes (below f.0 l) high cs (subst (λ (k : Claim). Rises (buffers_of k)) q r)

    past : (c : Change) → IsIn c (difference (above f.0 l) m) → f.0 < buffer_of c
    past c i = difference_above f.0 (above f.0 l) m s.1 (above_is_above f.0 l) (head_above f m s) c i

    -- f is the entry of its buffer there
    its_bound : (x : ℕ) → l ≡ below f.0 l ++ ((f.0, x) ∷ above f.0 l) → IsIn f l → f ≡ (f.0, x)
    its_bound x q i =
        elim (from_append (below f.0 l) ((f.0, x) ∷ above f.0 l) f (subst (λ (k : Claim). IsIn f k) q i)) [
          | inl j ↦ absurd (let k = (in_below f.0 l f j).1 in omega arith)
          | inr (inl e) ↦ e
          | inr (inr j) ↦ absurd (let k = (in_above f.0 l f j).1 in omega arith)
        ]

    go : carried_out (above f.0 l) (difference (above f.0 l) m) ≡ m →
        (l ≡ below f.0 l ++ above f.0 l) ⊎ ((x : ℕ) × (l ≡ below f.0 l ++ ((f.0, x) ∷ above f.0 l))) →
        (t : Bool) → has_entry f l ≡ t →
        carried_out l (dropped (below f.0 l) ++ (cond t [] (Puts f ∷ []) ++ difference (above f.0 l) m)) ≡ f ∷ m
    go ih (inl q) true h = absurd (elim (from_append (below f.0 l) (above f.0 l) f
        (subst (λ (k : Claim). IsIn f k) q (has_in f l h))) [
          | inl j ↦ (let k = (in_below f.0 l f j).1 in omega arith)
          | inr j ↦ (let k = (in_above f.0 l f j).1 in omega arith)
        ])
    go ih (inl q) false h = start (above f.0 l) _ q
        ∙ (one_comes_first f (above f.0 l) (difference (above f.0 l) m) (above_is_above f.0 l)
        ∙ ap (λ (k : Claim). f ∷ k) ih)
    go ih (inr (x, q)) true h = start ((f.0, x) ∷ above f.0 l) _ q
        ∙ (first_stays (f.0, x) (above f.0 l) (difference (above f.0 l) m) past
        ∙ (ap (λ (e : Entry). e ∷ carried_out (above f.0 l) (difference (above f.0 l) m))
        (sym (its_bound x q (has_in f l h)))
        ∙ ap (λ (k : Claim). f ∷ k) ih))
    go ih (inr (x, q)) false h = start ((f.0, x) ∷ above f.0 l) _ q
        ∙ (first_changes (f.0, x) f (above f.0 l) (difference (above f.0 l) m) refl (above_is_above f.0 l)
        ∙ ap (λ (k : Claim). f ∷ k) ih)

-- ---- buffer by buffer
-- an entry that no change is of stays
entry_stays : (l : Claim) (cs : List Change) (e : Entry) → IsIn e l → (IsIn e.0 (map buffer_of cs) → ⊥) →
    IsIn e (carried_out l cs)
entry_stays l [] e i n = i
entry_stays l (c ∷ cs) e i n = elim (below_or_from e.0 (buffer_of c)) [
  | inl h ↦ left_append (below (buffer_of c) l) (left_by c ++ carried_out (above (buffer_of c) l) cs) e
      (into_filter (λ f. nat_lt f.0 (buffer_of c)) l e i (is_below e.0 (buffer_of c) h))
  | inr h ↦ right_append (below (buffer_of c) l) (left_by c ++ carried_out (above (buffer_of c) l) cs) e
      (right_append (left_by c) (carried_out (above (buffer_of c) l) cs) e
      (entry_stays (above (buffer_of c) l) cs e (into_filter (λ f. nat_lt (buffer_of c) f.0) l e i
      (is_below (buffer_of c) e.0 (other h (λ q. n (inl q))))) (λ j. n (inr j))))
]
  where
    other : {a b : ℕ} → b ≤ a → (a ≡ b → ⊥) → b < a
    other h n = grind arith

-- an entry that is put there is there
entry_put : (l : Claim) (cs : List Change) (e : Entry) → IsIn (Puts e) cs → IsIn e (carried_out l cs)
entry_put l [] e i = absurd i
entry_put l (c ∷ cs) e (inl q) = right_append (below (buffer_of c) l)
    (left_by c ++ carried_out (above (buffer_of c) l) cs) e
    (left_append (left_by c) (carried_out (above (buffer_of c) l) cs) e
    (subst (λ (d : Change). IsIn e (left_by d)) q (inl refl)))
entry_put l (c ∷ cs) e (inr i) = right_append (below (buffer_of c) l)
    (left_by c ++ carried_out (above (buffer_of c) l) cs) e
    (right_append (left_by c) (carried_out (above (buffer_of c) l) cs) e (entry_put (above (buffer_of c) l) cs e i))

-- an entry that is there was put there, or no change is of its buffer
entry_from : (l : Claim) (cs : List Change) (e : Entry) → Rises (buffers_of l) → Rises (map buffer_of cs) →
    IsIn e (carried_out l cs) → IsIn (Puts e) cs ⊎ (IsIn e l × (IsIn e.0 (map buffer_of cs) → ⊥))
entry_from l [] e r s i = inr (i, λ j. j)
entry_from l (c ∷ cs) e r s i =
    elim (from_append (below (buffer_of c) l) (left_by c ++ carried_out (above (buffer_of c) l) cs) e i) [
      | inl j ↦ (let k = in_below (buffer_of c) l e j in inr (k.0, low k.1))
      | inr j ↦ elim (from_append (left_by c) (carried_out (above (buffer_of c) l) cs) e j) [
        | inl k ↦ inl (inl (here c k))
        | inr k ↦ later (entry_from (above (buffer_of c) l) cs e
            (rises_filtered (λ f. nat_lt (buffer_of c) f.0) l r) s.1 k)
      ]
    ]
  where
    here : (d : Change) → IsIn e (left_by d) → Puts e ≡ d
    here (Puts f) (inl q) = ap Puts q
    here (Puts f) (inr k) = absurd k
    here (Drops b) k = absurd k

    low : e.0 < buffer_of c → IsIn e.0 (map buffer_of (c ∷ cs)) → ⊥
    low h (inl q) = omega arith
    low h (inr j) = let m : buffer_of c < e.0 = s.0 e.0 j in omega arith

    later : IsIn (Puts e) cs ⊎ (IsIn e (above (buffer_of c) l) × (IsIn e.0 (map buffer_of cs) → ⊥)) →
        IsIn (Puts e) (c ∷ cs) ⊎ (IsIn e l × (IsIn e.0 (map buffer_of (c ∷ cs)) → ⊥))
    later (inl j) = inl (inr j)
    later (inr (j, n)) = let k = in_above (buffer_of c) l e j in inr (k.0, past k.1 n)
      where
        past : buffer_of c < e.0 → (IsIn e.0 (map buffer_of cs) → ⊥) → IsIn e.0 (map buffer_of (c ∷ cs)) → ⊥
        past h n (inl q) = omega arith
        past h n (inr j) = n j

pub carried_entries : (l : Claim) (cs : List Change) (e : Entry) → Rises (buffers_of l) → Rises (map buffer_of cs) →
    IsIn e (carried_out l cs) ↔ (IsIn (Puts e) cs ⊎ (IsIn e l × (IsIn e.0 (map buffer_of cs) → ⊥)))
carried_entries l cs e r s = (
  entry_from l cs e r s,
  λ h. elim h
      [ inl i ↦ entry_put l cs e i | inr k ↦ entry_stays l cs e k.0 k.1 ],
)
