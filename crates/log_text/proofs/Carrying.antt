-- Changes carried out in one pass: what is left of the claim and of the changes.
use Rattle.std.proofs.Common.{◌≡◌, ◌↔◌, ◌≢◌, ℕ, zero, suc, ◌+◌, ◌<◌, ◌≤◌, ◌⊎◌, inl, inr, nat_lt, ◌==◌, Bool, IsTrue, true, false, List, [], ◌∷◌, ◌++◌, map, drop, length, get_or, All, refl, sym, ap, ◌∙◌, subst, arith, append_assoc}
use Rattle.dsa_terms.specs.Claims.{Claim, Entry, IsIn, Rises, buffers_of}
use Rattle.dsa_terms.proofs.Lists.{from_map, into_filter, into_map, true_or_false}
use Rattle.dsa_terms.proofs.NumberTests.{below_or_from, differ, equal, is_below, not_less}
use Rattle.log_text.specs.Changes.{AreChanges, Change, DoesChange, Drops, Puts, above, below, buffer_of, carried_out, left_by}
use Rattle.log_text.proofs.Differences.{IsAbove, above_all, above_less, below_more, below_none, below_same, first_stays, head_above, in_above}
use Rattle.log_text.proofs.Saying.{all_in, in_all}

-- ---- what is left from a place on
pub drop_index : {X : Type 0} (xs : List X) (k : ℕ) (d : X) → k < length xs →
    drop k xs ≡ get_or xs k d ∷ drop (k + 1) xs
drop_index {X = X} xs k d lt = rw (add_one k) (go xs k lt)
  where
    add_one : (n : ℕ) → n + 1 ≡ suc n
    add_one n = omega arith

    drop_none : (xs : List X) → drop 0 xs ≡ xs
    drop_none [] = refl
    drop_none (x ∷ xs) = refl

    go : (xs : List X) (k : ℕ) → k < length xs → drop k xs ≡ get_or xs k d ∷ drop (suc k) xs
    go [] k lt = absurd (omega arith)
    go (x ∷ xs) zero lt = ap (λ (u : List X). x ∷ u) (sym (drop_none xs))
    go (x ∷ xs) (suc k) lt = go xs k (omega arith)

pub drop_past : {X : Type 0} (xs : List X) (k : ℕ) → length xs ≤ k → drop k xs ≡ []
drop_past [] zero h = refl
drop_past [] (suc k) h = refl
drop_past (x ∷ xs) zero h = absurd (omega arith)
drop_past (x ∷ xs) (suc k) h = drop_past xs k (omega arith)

pub rises_drop : {X : Type 0} (f : X → ℕ) (xs : List X) (k : ℕ) → Rises (map f xs) → Rises (map f (drop k xs))
rises_drop f [] zero r = r
rises_drop f [] (suc k) r = r
rises_drop f (x ∷ xs) zero r = r
rises_drop f (x ∷ xs) (suc k) r = rises_drop f xs k r.1

pub rises_at : (base : Claim) (k : ℕ) → k < length base → Rises (buffers_of base) →
    Rises (buffers_of (get_or base k (0, 0) ∷ drop (k + 1) base))
rises_at base k lt r = subst (λ (l : Claim). Rises (buffers_of l)) (drop_index base k (0, 0) lt)
    (rises_drop (λ (e : Entry). e.0) base k r)

-- ---- the first entry that is left
-- nothing is below b: the first entry is at b or above
at_least : (b : ℕ) (e : Entry) (l : Claim) → below b (e ∷ l) ≡ [] → b ≤ e.0
at_least b e l h = elim (below_or_from e.0 b) [
  | inl k ↦ absurd (let q : e ∷ below b l ≡ [] = sym (below_more b e l k) ∙ h in cc)
  | inr k ↦ k
]

pub past_it : (b : ℕ) (e : Entry) (l : Claim) → Rises (buffers_of (e ∷ l)) → e.0 ≡ b → l ≡ above b (e ∷ l)
past_it b e l r q = sym (above_less b e l (omega arith)
    ∙ above_all b l (λ f i. let k : e.0 < f.0 = head_above e l r f i in omega arith))

pub not_past_it : (b : ℕ) (e : Entry) (l : Claim) → Rises (buffers_of (e ∷ l)) → below b (e ∷ l) ≡ [] → e.0 ≢ b →
    e ∷ l ≡ above b (e ∷ l)
not_past_it b e l r h n = sym (above_all b (e ∷ l) past)
  where
    first : b < e.0
    first = apart b e.0 (at_least b e l h) n
      where
        apart : (b a : ℕ) → b ≤ a → a ≢ b → b < a
        apart b a h n = grind arith

    past : IsAbove b (e ∷ l)
    past f (inl q) = let k : f.0 ≡ e.0 = ap (λ (g : Entry). g.0) q in let m : b < e.0 = first in omega arith
    past f (inr i) = let k : e.0 < f.0 = head_above e l r f i in let m : b < e.0 = first in omega arith

-- the first entry is not below b
pub none_below : (b : ℕ) (e : Entry) (l : Claim) → Rises (buffers_of (e ∷ l)) → (e.0 < b → ⊥) → below b (e ∷ l) ≡ []
none_below b e l r n = elim (below_or_from e.0 b) [
  | inl h ↦ absurd (n h)
  | inr h ↦ below_same b e l h ∙ below_none b l (λ f i. let k : e.0 < f.0 = head_above e l r f i in omega arith)
]

into_above : (b : ℕ) (l : Claim) (e : Entry) → IsIn e l → b < e.0 → IsIn e (above b l)
into_above b l e i h = into_filter (λ f. nat_lt b f.0) l e i (is_below b e.0 h)

-- the first entry alone decides whether the change changes what is left
pub one_decides : (c : Change) (e : Entry) (l : Claim) → Rises (buffers_of (e ∷ l)) → below (buffer_of c) (e ∷ l) ≡ [] →
    DoesChange (e ∷ []) c ↔ DoesChange (e ∷ l) c
one_decides (Puts f) e l r h = (
  λ n i. elim i [ inl q ↦ n (inl q) | inr j ↦ later j ],
  λ n i. elim i [ inl q ↦ n (inl q) | inr j ↦ absurd j ],
)
  where
    later : IsIn f l → ⊥
    later j = let k : e.0 < f.0 = head_above e l r f j in let m : f.0 ≤ e.0 = at_least f.0 e l h in omega arith
one_decides (Drops b) e l r h = (
  λ i. elim i [ inl q ↦ inl q | inr j ↦ absurd j ],
  λ i. elim i [ inl q ↦ inl q | inr j ↦ absurd (later j) ],
)
  where
    later : IsIn b (buffers_of l) → ⊥
    later j = let q = from_map (λ (g : Entry). g.0) l b j in let k : e.0 < q.0.0 = head_above e l r q.0 q.1 in
        let m : b ≤ e.0 = at_least b e l h in let n : b ≡ q.0.0 = q.2 in omega arith

-- ---- one pass
-- changes of buffers above an entry change the claim with it exactly where they change the claim without it
with_lower : (e : Entry) (l : Claim) (d : Change) → e.0 < buffer_of d → DoesChange (e ∷ l) d → DoesChange l d
with_lower e l (Puts f) h n = λ i. n (inr i)
with_lower e l (Drops b) h i = elim i [ inl q ↦ absurd (other q) | inr j ↦ j ]
  where
    other : b ≡ e.0 → ⊥
    other q = omega arith

without_lower : (e : Entry) (l : Claim) (d : Change) → e.0 < buffer_of d → DoesChange l d → DoesChange (e ∷ l) d
without_lower e l (Puts f) h n = λ i. elim i [ inl q ↦ other q | inr j ↦ n j ]
  where
    other : f ≡ e → ⊥
    other q = let k : f.0 ≡ e.0 = ap (λ (g : Entry). g.0) q in omega arith
without_lower e l (Drops b) h i = inr i

-- the same of the entries above a buffer
within_above : (b : ℕ) (l : Claim) (d : Change) → b < buffer_of d → DoesChange l d → DoesChange (above b l) d
within_above b l (Puts f) h n = λ i. n (in_above b l f i).0
within_above b l (Drops a) h i = let q = from_map (λ (g : Entry). g.0) l a i in
    subst (λ (n : ℕ). IsIn n (buffers_of (above b l))) (sym q.2)
    (into_map (λ (g : Entry). g.0) (above b l) q.0 (into_above b l q.0 q.1 (let m : a ≡ q.0.0 = q.2 in omega arith)))

of_above : (b : ℕ) (l : Claim) (d : Change) → b < buffer_of d → DoesChange (above b l) d → DoesChange l d
of_above b l (Puts f) h n = λ i. n (into_above b l f i h)
of_above b l (Drops a) h i = let q = from_map (λ (g : Entry). g.0) (above b l) a i in
    subst (λ (n : ℕ). IsIn n (buffers_of l)) (sym q.2) (into_map (λ (g : Entry). g.0) l q.0 (in_above b l q.0 q.1).0)

pub record IsCarried (base : Claim) (cs : List Change) (l : Claim) (ds : List Change) (out : Claim) : Type 0 where
  pub same : out ++ carried_out l ds ≡ carried_out base cs
  pub onward : All (DoesChange base) cs → All (DoesChange l) ds
  pub back : All (DoesChange l) ds → All (DoesChange base) cs

pub carry_start : (base : Claim) (cs : List Change) → IsCarried base cs base cs []
carry_start base cs = record { same = refl; onward = λ a. a; back = λ a. a }

-- the changes after the first are of higher buffers
later_changes : (c : Change) (ds : List Change) → Rises (map buffer_of (c ∷ ds)) → (d : Change) → IsIn d ds →
    buffer_of c < buffer_of d
later_changes c ds r d i = r.0 (buffer_of d) (into_map buffer_of ds d i)

all_after : (a : ℕ) (c : Change) (ds : List Change) → a < buffer_of c → Rises (map buffer_of (c ∷ ds)) → (d : Change) →
    IsIn d (c ∷ ds) → a < buffer_of d
all_after a c ds h r d (inl q) = let k : buffer_of d ≡ buffer_of c = ap buffer_of q in omega arith
all_after a c ds h r d (inr i) = let k : buffer_of c < buffer_of d = later_changes c ds r d i in omega arith

-- an entry below the first change stays
pub carry_stays : (base : Claim) (cs : List Change) (e : Entry) (l : Claim) (c : Change) (ds : List Change)
    (out more : Claim) → e.0 < buffer_of c → Rises (map buffer_of (c ∷ ds)) →
    IsCarried base cs (e ∷ l) (c ∷ ds) out → more ≡ out ++ e ∷ [] → IsCarried base cs l (c ∷ ds) more
carry_stays base cs e l c ds out more h r p q = record {
  same = ap (λ (u : Claim). u ++ carried_out l (c ∷ ds)) q
      ∙ (append_assoc out (e ∷ []) (carried_out l (c ∷ ds))
      ∙ (ap (λ (u : Claim). out ++ u) (sym (first_stays e l (c ∷ ds) (all_after e.0 c ds h r))) ∙ p.same));
  onward = λ a. all_in (DoesChange l) (c ∷ ds) (λ d i. with_lower e l d (all_after e.0 c ds h r d i)
      (in_all (DoesChange (e ∷ l)) (c ∷ ds) (p.onward a) d i));
  back = λ a. p.back (all_in (DoesChange (e ∷ l)) (c ∷ ds) (λ d i. without_lower e l d (all_after e.0 c ds h r d i)
      (in_all (DoesChange l) (c ∷ ds) a d i)));
}

-- the first change is carried out
pub carry_change : (base : Claim) (cs : List Change) (l : Claim) (c : Change) (ds : List Change)
    (out more rest : Claim) → Rises (map buffer_of (c ∷ ds)) → below (buffer_of c) l ≡ [] → DoesChange l c →
    IsCarried base cs l (c ∷ ds) out → more ≡ out ++ left_by c → rest ≡ above (buffer_of c) l →
    IsCarried base cs rest ds more
carry_change base cs l c ds out more rest r h n p q e =
    subst (λ (u : Claim). IsCarried base cs u ds more) (sym e) (record {
      same = ap (λ (u : Claim). u ++ carried_out (above (buffer_of c) l) ds) q
          ∙ (append_assoc out (left_by c) (carried_out (above (buffer_of c) l) ds)
          ∙ (ap (λ (u : Claim). out ++ (u ++ (left_by c ++ carried_out (above (buffer_of c) l) ds))) (sym h) ∙ p.same));
      onward = λ a. all_in (DoesChange (above (buffer_of c) l)) ds (λ d i. within_above (buffer_of c) l d
          (later_changes c ds r d i) (in_all (DoesChange l) (c ∷ ds) (p.onward a) d (inr i)));
      back = λ a. p.back (all_in (DoesChange l) (c ∷ ds) (both a));
    })
  where
    both : All (DoesChange (above (buffer_of c) l)) ds → (d : Change) → IsIn d (c ∷ ds) → DoesChange l d
    both a d (inl q) = subst (λ (u : Change). DoesChange l u) (sym q) n
    both a d (inr i) = of_above (buffer_of c) l d (later_changes c ds r d i)
        (in_all (DoesChange (above (buffer_of c) l)) ds a d i)

-- the first change changes nothing
pub carry_bad : (base : Claim) (cs : List Change) (l : Claim) (c : Change) (ds : List Change) (out : Claim) →
    (DoesChange l c → ⊥) → IsCarried base cs l (c ∷ ds) out → AreChanges base cs → ⊥
carry_bad base cs l c ds out n p a = n (in_all (DoesChange l) (c ∷ ds) (p.onward a.each) c (inl refl))

-- no change is left
pub carry_end : (base : Claim) (cs : List Change) (l out more : Claim) → IsCarried base cs l [] out → more ≡ out ++ l →
    more ≡ carried_out base cs
carry_end base cs l out more p q = q ∙ p.same

pub carry_all : (base : Claim) (cs : List Change) (l out more : Claim) → IsCarried base cs l [] out → more ≡ out ++ l →
    more ≢ [] → (more ≡ carried_out base cs) × AreChanges base cs
carry_all base cs l out more p q n = let e = carry_end base cs l out more p q in
    (e, record { each = p.back (all_in (DoesChange l) [] (λ d i. absurd i)); some = subst (λ (u : Claim). u ≢ []) e n })

pub carry_none : (base : Claim) (cs : List Change) (l out more : Claim) → IsCarried base cs l [] out → more ≡ out ++ l →
    more ≡ [] → AreChanges base cs → ⊥
carry_none base cs l out more p q n a = a.some (sym (carry_end base cs l out more p q) ∙ n)

-- ---- by places
in_range : (k n : ℕ) → k ≤ n → k ≢ n → k < n
in_range k n h m = grind arith

pub past_then : (base : Claim) (k b : ℕ) → Rises (buffers_of base) → k ≤ length base → k ≢ length base →
    (get_or base k (0, 0)).0 ≡ b → drop (k + 1) base ≡ above b (drop k base)
past_then base k b r h m q =
    let lt = in_range k (length base) h m in
    past_it b (get_or base k (0, 0)) (drop (k + 1) base) (rises_at base k lt r) q
    ∙ ap (λ (u : Claim). above b u) (sym (drop_index base k (0, 0) lt))

pub past_else : (base : Claim) (k b : ℕ) → Rises (buffers_of base) → k ≤ length base → k ≢ length base →
    below b (drop k base) ≡ [] → (get_or base k (0, 0)).0 ≢ b → drop k base ≡ above b (drop k base)
past_else base k b r h m e n =
    let lt = in_range k (length base) h m in
    let d = drop_index base k (0, 0) lt in
    d ∙ (not_past_it b (get_or base k (0, 0)) (drop (k + 1) base) (rises_at base k lt r)
    (subst (λ (u : Claim). below b u ≡ []) d e) n ∙ ap (λ (u : Claim). above b u) (sym d))

pub reached : (base : Claim) (k b : ℕ) → Rises (buffers_of base) → k ≤ length base → k ≢ length base →
    nat_lt (get_or base k (0, 0)).0 b ≡ false → below b (drop k base) ≡ []
reached base k b r h m f =
    let lt = in_range k (length base) h m in
    subst (λ (u : Claim). below b u ≡ []) (sym (drop_index base k (0, 0) lt))
    (none_below b (get_or base k (0, 0)) (drop (k + 1) base) (rises_at base k lt r)
    (λ l. let n : b ≤ (get_or base k (0, 0)).0 = not_less (get_or base k (0, 0)).0 b f in omega arith))

pub decided : (base : Claim) (k : ℕ) (c : Change) (r : Bool) → Rises (buffers_of base) → k ≤ length base →
    k ≢ length base → below (buffer_of c) (drop k base) ≡ [] →
    IsTrue r ↔ DoesChange (((get_or base k (0, 0)).0, (get_or base k (0, 0)).1) ∷ []) c →
    IsTrue r ↔ DoesChange (drop k base) c
decided base k c r s h m e t =
    let lt = in_range k (length base) h m in
    let d = drop_index base k (0, 0) lt in
    let o = one_decides c (get_or base k (0, 0)) (drop (k + 1) base) (rises_at base k lt s)
    (subst (λ (u : Claim). below (buffer_of c) u ≡ []) d e) in
    subst (λ (u : Claim). IsTrue r ↔ DoesChange u c) (sym d) ((λ x. o.0 (t.0 x)), (λ y. t.1 (o.1 y)))

pub drop_changes : {X : Type 0} (f : X → Change) (xs : List X) (k : ℕ) (d : X) → k < length xs →
    drop k (map f xs) ≡ f (get_or xs k d) ∷ drop (k + 1) (map f xs)
drop_changes {X = X} f xs k d lt = rw (add_one k) (go xs k lt)
  where
    add_one : (n : ℕ) → n + 1 ≡ suc n
    add_one n = omega arith

    drop_none : (cs : List Change) → drop 0 cs ≡ cs
    drop_none [] = refl
    drop_none (x ∷ xs) = refl

    go : (xs : List X) (k : ℕ) → k < length xs → drop k (map f xs) ≡ f (get_or xs k d) ∷ drop (suc k) (map f xs)
    go [] k lt = absurd (omega arith)
    go (x ∷ xs) zero lt = ap (λ (u : List Change). f x ∷ u) (sym (drop_none (map f xs)))
    go (x ∷ xs) (suc k) lt = go xs k (omega arith)

pub loop_stays : {X : Type 0} (f : X → Change) (base : Claim) (xs : List X) (place next b : ℕ) (d : X)
    (out more : Claim) →
    Rises (map buffer_of (map f xs)) → next < length xs → place < length base → (get_or base place (0, 0)).0 < b →
    b ≡ buffer_of (f (get_or xs next d)) →
    IsCarried base (map f xs) (drop place base) (drop next (map f xs)) out →
    more ≡ out ++ get_or base place (0, 0) ∷ [] →
    IsCarried base (map f xs) (drop (place + 1) base) (drop next (map f xs)) more
loop_stays f base xs place next b d out more r n p h q c e =
    let k = drop_changes f xs next d n in
    subst (λ (u : List Change). IsCarried base (map f xs) (drop (place + 1) base) u more) (sym k)
    (carry_stays base (map f xs) (get_or base place (0, 0)) (drop (place + 1) base) (f (get_or xs next d))
    (drop (next + 1) (map f xs)) out more (omega arith)
    (subst (λ (u : List Change). Rises (map buffer_of u)) k (rises_drop buffer_of (map f xs) next r))
    (subst (λ (u : List Change). IsCarried base (map f xs) (get_or base place (0, 0) ∷ drop (place + 1) base) u out) k
    (subst (λ (u : Claim). IsCarried base (map f xs) u (drop next (map f xs)) out) (drop_index base place (0, 0) p) c))
    e)

pub loop_changes : {X : Type 0} (f : X → Change) (base : Claim) (xs : List X) (place next b : ℕ) (d : X)
    (out more rest : Claim) →
    Rises (map buffer_of (map f xs)) → next < length xs → b ≡ buffer_of (f (get_or xs next d)) →
    below b (drop place base) ≡ [] → DoesChange (drop place base) (f (get_or xs next d)) →
    IsCarried base (map f xs) (drop place base) (drop next (map f xs)) out →
    more ≡ out ++ left_by (f (get_or xs next d)) →
    rest ≡ above b (drop place base) →
    IsCarried base (map f xs) rest (drop (next + 1) (map f xs)) more
loop_changes f base xs place next b d out more rest r n o e s c q t =
    let k = drop_changes f xs next d n in
    carry_change base (map f xs) (drop place base) (f (get_or xs next d)) (drop (next + 1) (map f xs)) out more rest
    (subst (λ (u : List Change). Rises (map buffer_of u)) k (rises_drop buffer_of (map f xs) next r))
    (subst (λ (a : ℕ). below a (drop place base) ≡ []) o e) s
    (subst (λ (u : List Change). IsCarried base (map f xs) (drop place base) u out) k c) q
    (subst (λ (a : ℕ). rest ≡ above a (drop place base)) o t)

pub loop_bad : {X : Type 0} (f : X → Change) (base : Claim) (xs : List X) (place next : ℕ) (d : X) (out : Claim) →
    next < length xs → (DoesChange (drop place base) (f (get_or xs next d)) → ⊥) →
    IsCarried base (map f xs) (drop place base) (drop next (map f xs)) out → AreChanges base (map f xs) → ⊥
loop_bad f base xs place next d out n s c = carry_bad base (map f xs) (drop place base) (f (get_or xs next d))
    (drop (next + 1) (map f xs)) out s (subst (λ (u : List Change). IsCarried base (map f xs) (drop place base) u out)
    (drop_changes f xs next d n) c)

-- pairs
pub one_pair : (b x c y : ℕ) → (IsIn {X = Entry} (c, y) ((b, x) ∷ []) → ⊥) ↔ ((b ≢ c) ⊎ (x ≢ y))
one_pair b x c y = (
  λ n. go n (true_or_false (b == c)),
  λ h i. elim i [
    | inl q ↦ elim h [
      | inl m ↦ m (sym (ap (λ (e : Entry). e.0) q))
      | inr m ↦ m
          (sym (ap (λ (e : Entry). e.1) q))
    ]
    | inr j ↦ j
  ],
)
  where
    same_pair : b ≡ c → x ≡ y → IsIn {X = Entry} (c, y) ((b, x) ∷ [])
    same_pair p q = inl (ap (λ (a : ℕ). let e : Entry = (a, y) in e) (sym p)
        ∙ ap (λ (a : ℕ). let e : Entry = (b, a) in e) (sym q))

    go : (IsIn {X = Entry} (c, y) ((b, x) ∷ []) → ⊥) → ((b == c) ≡ true) ⊎ ((b == c) ≡ false) → (b ≢ c) ⊎ (x ≢ y)
    go n (inl h) = inr (λ q. n (same_pair (equal b c h) q))
    go n (inr h) = inl (differ b c h)
