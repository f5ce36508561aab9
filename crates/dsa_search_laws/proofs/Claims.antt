-- Claims: their children, and placements as lists and as functions.
use Rattle.std.proofs.Common.{◌≡◌, ℕ, suc, ◌+◌, ◌<◌, ◌≤◌, ◌≢◌, ◌⊎◌, inl, inr, Bool, true, false, cond, not, ◌==◌, [], ◌∷◌, map, length, filter, max, sym, refl, ap, subst, arith}
use Rattle.std.proofs.lemmas.Bool.Decides.{nat_tests}
use Rattle.std.proofs.lemmas.List.{length-map}
use Rattle.dsa_terms.specs.Buffers.{Instance}
use Rattle.dsa_terms.specs.Claims.{Entry, Claim, IsIn, Rises, buffers_of, IsClaim, up, number_of, Places, IsPlacement, IsRefuted, step, child}
use Rattle.dsa_terms.proofs.Lists.{from_map, from_filter}
use Rattle.dsa_search_laws.specs.Placements.{IsFirst}
use Rattle.dsa_search_laws.proofs.Placing.{in_buffers, of_child}

-- ---- a placement as a list and as a function
pub number_of-map : (g : ℕ → ℕ) (l : Claim) (e : Entry) → IsIn e l → number_of (map (λ f. (f.0, g f.0)) l) e.0 ≡ g e.0
number_of-map g [] e i = absurd i
number_of-map g (x ∷ xs) e i = go (number_of-map g xs e) (x.0 == e.0) refl i
  where
    go : (IsIn e xs → number_of (map (λ f. (f.0, g f.0)) xs) e.0 ≡ g e.0) → (b : Bool) → (x.0 == e.0) ≡ b →
        IsIn e (x ∷ xs) →
        cond b (g x.0) (number_of (map (λ f. (f.0, g f.0)) xs) e.0) ≡ g e.0
    go ih true q j = let h : x.0 ≡ e.0 = (grind (arith, nat_tests)) in ap g h
    go ih false q (inl j) = absurd (let h : e.0 ≡ x.0 = ap (λ e. e.0) j in
        let k : x.0 ≢ e.0 = (grind (arith, nat_tests)) in k (sym h))
    go ih false q (inr j) = ih j

pub buffers_of-map : (g : Entry → ℕ) (l : Claim) → buffers_of (map (λ f. (f.0, g f)) l) ≡ buffers_of l
buffers_of-map g [] = refl
buffers_of-map g (x ∷ xs) = ap (λ ys. x.0 ∷ ys) (buffers_of-map g xs)

-- what places the claim goes by the offsets of its buffers alone
pub places_like : (I : Instance) (C : ℕ) (l : Claim) (o p : ℕ → ℕ) → ((e : Entry) → IsIn e l → p e.0 ≡ o e.0) →
    Places I C l o → Places I C l p
places_like I C l o p same h = record {
  aligned = λ e i. rw (same e i) (h.aligned e i);
  above = λ e i. rw (same e i) (h.above e i);
  within = λ e i. rw (same e i) (h.within e i);
  apart = λ e f t i j ne a b. rw (same e i, same f j) (h.apart e f t i j ne a b);
}

pub placement_from : (I : Instance) (C : ℕ) (l : Claim) (o : ℕ → ℕ) → Places I C l o →
    IsPlacement I C l (map (λ f. (f.0, o f.0)) l)
placement_from I C l o h = record {
  same_buffers = buffers_of-map (λ f. o f.0) l;
  places = places_like I C l o (number_of (map (λ f. (f.0, o f.0)) l)) (number_of-map o l) h;
}

pub not_placed : (I : Instance) (C : ℕ) (l : Claim) (o : ℕ → ℕ) → IsRefuted I C l → Places I C l o → ⊥
not_placed I C l o r h = r (map (λ f. (f.0, o f.0)) l) (placement_from I C l o h)

-- ---- the child is a claim with one buffer less
pub rises-filter : (p : Entry → Bool) (l : Claim) → Rises (buffers_of l) → Rises (buffers_of (filter p l))
rises-filter p [] r = tt
rises-filter p (x ∷ xs) r = go (rises-filter p xs r.1) (p x)
  where
    among : (y : ℕ) → IsIn y (buffers_of (filter p xs)) → x.0 < y
    among y i =
        let q = from_map (λ e. e.0) (filter p xs) y i in
        rw q.2 (r.0 q.0.0 (in_buffers xs q.0 ((from_filter p xs q.0 q.1).0)))

    go : Rises (buffers_of (filter p xs)) → (b : Bool) → Rises (buffers_of (cond b (x ∷ filter p xs) (filter p xs)))
    go ih true = (among, ih)
    go ih false = ih

pub rises-child : (I : Instance) (l : Claim) (e : Entry) → Rises (buffers_of l) → Rises (buffers_of (child I l e))
unfolding child
rises-child I l e r =
    rw (buffers_of-map (λ f. max (up I f) (up I e + step I e.0 f.0)) (filter (λ f. not (f.0 == e.0)) l))
    (rises-filter (λ f. not (f.0 == e.0)) l r)

pub claim-child : (I : Instance) (l : Claim) (e : Entry) → IsClaim I l → IsClaim I (child I l e)
claim-child I l e c = record {
  rises = rises-child I l e c.rises;
  in_range = λ g i. let r = of_child I l e g i in subst (λ (g : Entry). g.0 < length I) (sym r.3) (c.in_range r.0 r.1);
}

filter_all : (b : ℕ) (l : Claim) → ((y : ℕ) → IsIn y (buffers_of l) → b < y) →
    length (filter (λ f. not (f.0 == b)) l) ≡ length l
filter_all b [] h = refl
filter_all b (x ∷ xs) h = go (filter_all b xs (λ y i. h y (inr i))) (x.0 == b) refl
  where
    go : length (filter (λ f. not (f.0 == b)) xs) ≡ length xs → (t : Bool) → (x.0 == b) ≡ t →
        length (cond (not t) (x ∷ filter (λ f. not (f.0 == b)) xs) (filter (λ f. not (f.0 == b)) xs)) ≡ suc (length xs)
    go ih true q = absurd (let k : b < x.0 = h x.0 (inl refl) in let e : x.0 ≡ b = (grind (arith, nat_tests)) in
        omega arith)
    go ih false q = ap suc ih

one_less : (l : Claim) (e : Entry) → Rises (buffers_of l) → IsIn e l →
    suc (length (filter (λ f. not (f.0 == e.0)) l)) ≡ length l
one_less [] e r i = absurd i
one_less (x ∷ xs) e r i = go (one_less xs e r.1) (x.0 == e.0) refl i
  where
    go : (IsIn e xs → suc (length (filter (λ f. not (f.0 == e.0)) xs)) ≡ length xs) → (t : Bool) → (x.0 == e.0) ≡ t →
        IsIn e (x ∷ xs) →
        suc (length (cond (not t) (x ∷ filter (λ f. not (f.0 == e.0)) xs) (filter (λ f. not (f.0 == e.0)) xs))) ≡ suc
        (length xs)
    go ih true q j =
        let h : x.0 ≡ e.0 = (grind (arith, nat_tests)) in
        ap suc (filter_all e.0 xs (λ y k. rw (← h) (r.0 y k)))
    go ih false q (inl j) = absurd (let h : e.0 ≡ x.0 = ap (λ e. e.0) j in
        let k : x.0 ≢ e.0 = (grind (arith, nat_tests)) in k (sym h))
    go ih false q (inr j) = ap suc (ih j)

pub length-child : (I : Instance) (l : Claim) (e : Entry) → Rises (buffers_of l) → IsIn e l →
    suc (length (child I l e)) ≡ length l
unfolding child
length-child I l e r i =
    rw (length-map (filter (λ f. not (f.0 == e.0)) l)
    (λ (f : Entry). let g : Entry = (f.0, max (up I f) (up I e + step I e.0 f.0)) in g)) (one_less l e r i)

-- ---- a claim that is not empty has a first buffer
in_turn : (a b m n : ℕ) → ((a ≤ b) × (a ≡ b → m ≤ n)) ⊎ ((b ≤ a) × (b ≡ a → n ≤ m))
in_turn a b m n = go (three a b) (two m n)
  where
    three : (a b : ℕ) → (a < b) ⊎ ((b < a) ⊎ (a ≡ b))
    three a b = grind arith

    two : (m n : ℕ) → (m ≤ n) ⊎ (n ≤ m)
    two m n = grind arith

    go : (a < b) ⊎ ((b < a) ⊎ (a ≡ b)) → (m ≤ n) ⊎ (n ≤ m) → ((a ≤ b) × (a ≡ b → m ≤ n)) ⊎ ((b ≤ a) × (b ≡ a → n ≤ m))
    go (inl h) k = inl (omega arith, λ e. absurd (omega arith))
    go (inr (inl h)) k = inr (omega arith, λ e. absurd (omega arith))
    go (inr (inr h)) (inl k) = inl (omega arith, λ e. k)
    go (inr (inr h)) (inr k) = inr (omega arith, λ e. k)

-- e comes no later than f
IsNoLater : (o : ℕ → ℕ) (e f : Entry) → Type 0
IsNoLater o e f = (o e.0 ≤ o f.0) × (o e.0 ≡ o f.0 → e.0 ≤ f.0)

no_later_itself : (o : ℕ → ℕ) (e f : Entry) → f ≡ e → IsNoLater o e f
unfolding IsNoLater
no_later_itself o e f q = let k : o f.0 ≡ o e.0 = ap (λ (f : Entry). o f.0) q in
    let n : f.0 ≡ e.0 = ap (λ (f : Entry). f.0) q in (omega arith, λ h. omega arith)

no_later_along : (o : ℕ → ℕ) (e f g : Entry) → IsNoLater o e f → IsNoLater o f g → IsNoLater o e g
unfolding IsNoLater
no_later_along o e f g a b = (
  omega arith,
  λ h. (let k : e.0 ≤ f.0 = a.1 (omega arith) in let m : f.0 ≤ g.0 = b.1 (omega arith) in omega arith),
)

pub has_first : (l : Claim) (o : ℕ → ℕ) (e : Entry) → IsIn e l → (f : Entry) × IsFirst l o f
unfolding IsNoLater
has_first [] o e i = absurd i
has_first (x ∷ []) o e i = (
  x,
  record {
    is_in = inl refl;
    lowest = λ f j. elim j [ inl q ↦ (no_later_itself o x f q).0 | inr q ↦ absurd q ];
    least = λ f j h. elim j [ inl q ↦ (no_later_itself o x f q).1 h | inr q ↦ absurd q ];
  },
)
has_first (x ∷ y ∷ ys) o e i = go (has_first (y ∷ ys) o y (inl refl))
  where
    among : (f : Entry) → IsFirst (y ∷ ys) o f → (g : Entry) → IsIn g (y ∷ ys) → IsNoLater o f g
    among f h g j = (h.lowest g j, h.least g j)

    made : (f : Entry) → IsIn f (x ∷ y ∷ ys) → ((g : Entry) → IsIn g (x ∷ y ∷ ys) → IsNoLater o f g) →
        IsFirst (x ∷ y ∷ ys) o f
    made f j h = record { is_in = j; lowest = λ g k. (h g k).0; least = λ g k. (h g k).1 }

    go : (f : Entry) × IsFirst (y ∷ ys) o f → (f : Entry) × IsFirst (x ∷ y ∷ ys) o f
    go r = elim (in_turn (o x.0) (o r.0.0) x.0 r.0.0) [
      | inl h ↦ (
        x,
        made x (inl refl) (λ g k. elim k [
          | inl q ↦ no_later_itself o x g q
          | inr q ↦ no_later_along o x r.0 g h (among r.0 r.1 g q)
        ]),
      )
      | inr h ↦ (
        r.0,
        made r.0 (inr r.1.is_in)
            (λ g k. elim k [
              | inl q ↦ no_later_along o r.0 x g h (no_later_itself o x g q)
              | inr q ↦ among r.0 r.1 g q
            ]),
      )
    ]
