-- A stack never falls where more is live: the starts of sections.
use Rattle.std.proofs.Common.{◌≡◌, ℕ, ◌+◌, ◌-◌, ◌%◌, ◌<◌, ◌≤◌, ◌≢◌, ◌⊎◌, inl, inr, Bool, true, false, ◌&&◌, ◌==◌, cond, nat_le, List, [], ◌∷◌, map, length, filter, sum_by, find, Option, Some, None, le_antisymm, sym, refl, ap, ◌∙◌, subst, arith}
use Rattle.std.specs.Option.{unwrap_or}
use Rattle.std.proofs.lemmas.List.Sums.{sum_by-cons}
use Rattle.dsa_terms.specs.Buffers.{Instance, buffer, is_live, IsLive, floor}
use Rattle.dsa_terms.specs.Claims.{Claim, Entry, IsIn}
use Rattle.dsa_terms.specs.Logs.{greatest}
use Rattle.dsa_terms.specs.Parts.{numbers, whole}
use Rattle.dsa_terms.specs.Bounds.{counted, stack, heights, moments, highest_at, highest_stack, lower_bound, least_of, bound_modulus}
use Rattle.dsa_terms.proofs.Lists.{from_filter, into_filter, into_map, nil_or_not, none_found}
use Rattle.dsa_terms.proofs.NumberTests.{equal, same}
use Rattle.dsa_start_laws.specs.Piles.{counted_buffers, rounded_size, pile}
use Rattle.dsa_start_laws.specs.Reaching.{bound_moment, bound_height, HasSections}
use Rattle.dsa_search_laws.proofs.Logs.{in_greatest}
use Rattle.dsa_start_laws.proofs.Piles.{counted_are, in_counted, into_counted, greatest_in_sum, stack_of_some, stack_of_none}
use Rattle.dsa_start_laws.proofs.Stacks.{found_in, found_passes, greatest_of, greatest_all, at_reached, at_under_highest}
use Rattle.dsa_start_laws.proofs.BoundModuli.{bound_modulus_reaches, least_is}

-- ---- a stack never falls when a buffer is added
-- what is kept by p is kept by q
abbrev Within : (ℕ → Bool) → (ℕ → Bool) → List ℕ → Type 0
Within p q xs = (x : ℕ) → IsIn x xs → p x ≡ true → q x ≡ true

-- the sums of what is kept, and what the greatest roundings make of them
record IsLess (f g : ℕ → ℕ) (xs ys : List ℕ) : Type 0 where
  sums : sum_by f xs ≤ sum_by f ys
  less : sum_by f xs + greatest (map g ys) ≤ sum_by f ys + greatest (map g xs)

less_for_more : (f g : ℕ → ℕ) (p q : ℕ → Bool) (xs : List ℕ) → ((x : ℕ) → g x ≤ f x) → Within p q xs →
    IsLess f g (filter p xs) (filter q xs)
less_for_more f g p q [] h w = record { sums = omega arith; less = omega arith }
less_for_more f g p q (x ∷ xs) h w = go (p x) (q x) (w x (inl refl)) (less_for_more f g p q xs h (λ y i. w y (inr i)))
  where
    go : (a b : Bool) → (a ≡ true → b ≡ true) → IsLess f g (filter p xs) (filter q xs) →
        IsLess f g (cond a (x ∷ filter p xs) (filter p xs)) (cond b (x ∷ filter q xs) (filter q xs))
    go true true k r = record {
      sums = rw (sum_by-cons f x (filter p xs), sum_by-cons f x (filter q xs)) (let u = r.sums in omega arith);
      less = rw (sum_by-cons f x (filter p xs), sum_by-cons f x (filter q xs)) (let u = r.sums in let v = r.less in
          omega arith);
    }
    go true false k r = absurd (let z = k refl in cc)
    go false true k r = record {
      sums = rw (sum_by-cons f x (filter q xs)) (let u = r.sums in omega arith);
      less = rw (sum_by-cons f x (filter q xs)) (let u = r.sums in let v = r.less in let z = h x in omega arith);
    }
    go false false k r = r

-- what is counted for one stack is counted for the other, which is from no lower height
record IsWithin (I : Instance) (t H s K G : ℕ) : Type 0 where
  higher : H ≤ K
  counts : (b : ℕ) → IsIn b (counted_buffers I t H G) → IsIn b (counted_buffers I s K G)

pile_within : (I : Instance) (t H s K G : ℕ) →
    ((b : ℕ) → IsIn b (counted_buffers I t H G) → IsIn b (counted_buffers I s K G)) → pile I t H G ≤ pile I s K G
unfolding pile counted_buffers
pile_within I t H s K G w =
    close (sum_by f (filter p all)) (greatest (map g (filter p all))) (sum_by f (filter q all))
    (greatest (map g (filter q all))) (r.less) (greatest_in_sum f g (filter q all) low)
  where
    f : ℕ → ℕ
    f b = rounded_size I G b

    g : ℕ → ℕ
    g b = rounded_size I G b - (buffer I b).size

    p : ℕ → Bool
    p b = is_live (buffer I b) t && nat_le H (floor (buffer I b)) && ((buffer I b).alignment % G == 0)

    q : ℕ → Bool
    q b = is_live (buffer I b) s && nat_le K (floor (buffer I b)) && ((buffer I b).alignment % G == 0)

    all : List ℕ
    all = numbers (length I)

    low : (x : ℕ) → rounded_size I G x - (buffer I x).size ≤ rounded_size I G x
    low x = omega arith

    within : (x : ℕ) → IsIn x all → p x ≡ true → q x ≡ true
    within x i m = (from_filter q all x (w x (into_filter p all x i m))).1

    r : IsLess f g (filter p all) (filter q all)
    r = less_for_more f g p q all low within

    close : (a m b n : ℕ) → a + n ≤ b + m → n ≤ b → a - m ≤ b - n
    close a m b n u v = omega arith

pub filled : (p : List ℕ) (b : ℕ) → IsIn b p → p ≢ []
filled [] b i = absurd i
filled (c ∷ cs) b i = λ e. cc

stack_within : (I : Instance) (t H s K G : ℕ) → IsWithin I t H s K G → stack I t H G ≤ stack I s K G
stack_within I t H s K G w = go (nil_or_not (counted_buffers I t H G))
  where
    go : (counted_buffers I t H G ≡ []) ⊎ ((b : ℕ) × IsIn b (counted_buffers I t H G)) →
        stack I t H G ≤ stack I s K G
    go (inl e) = let z = stack_of_none I t H G e in omega arith
    go (inr b) =
        let x = stack_of_some I t H G (filled (counted_buffers I t H G) b.0 b.1) in
        let y = stack_of_some I s K G (filled (counted_buffers I s K G) b.0 (w.counts b.0 b.1)) in
        let k = pile_within I t H s K G w.counts in
        let h = w.higher in
        omega arith

pub stack_grows : (I : Instance) (t s H G : ℕ) →
    ((b : ℕ) → b < length I → IsLive (buffer I b) t → IsLive (buffer I b) s) → stack I t H G ≤ stack I s H G
stack_grows I t s H G h = stack_within I t H s H G (record {
  higher = omega arith;
  counts = λ b i. let r = in_counted I t H G b i in into_counted I s H G b r.0 (h b r.0 r.1) r.2 r.3;
})

-- ---- from the least floor of what is counted on the same is counted
least_image : (f : ℕ → ℕ) (xs : List ℕ) → xs ≢ [] → (x : ℕ) × IsIn x xs × ((y : ℕ) → IsIn y xs → f x ≤ f y)
least_image f [] n = absurd (n refl)
least_image f (x ∷ []) n = (
  x,
  inl refl,
  λ y i. elim i [ inl q ↦ (let k : f y ≡ f x = ap f q in omega arith) | inr q ↦ absurd q ],
)
least_image f (x ∷ y ∷ ys) n = go (least_image f (y ∷ ys) (λ e. cc))
  where
    cases : (m n : ℕ) → (m ≤ n) ⊎ (n < m)
    cases m n = grind arith

    go : (z : ℕ) × IsIn z (y ∷ ys) × ((w : ℕ) → IsIn w (y ∷ ys) → f z ≤ f w) →
        (z : ℕ) × IsIn z (x ∷ y ∷ ys) × ((w : ℕ) → IsIn w (x ∷ y ∷ ys) → f z ≤ f w)
    go r = elim (cases (f x) (f r.0)) [
      | inl le ↦ (
        x,
        inl refl,
        λ w i. elim i [
          | inl q ↦ (let k : f w ≡ f x = ap f q in omega arith)
          | inr j ↦ (let k = r.2 w j in omega arith)
        ],
      )
      | inr lt ↦ (
        r.0,
        inr r.1,
        λ w i. elim i [
          | inl q ↦ (let k : f w ≡ f x = ap f q in omega arith)
          | inr j ↦ r.2 w j
        ],
      )
    ]

least_floor_reaches : (I : Instance) (t H G : ℕ) → counted_buffers I t H G ≢ [] →
    (b : ℕ) × IsIn b (counted_buffers I t H G) × (stack I t H G ≤ stack I t (floor (buffer I b)) G)
least_floor_reaches I t H G some =
    let m = least_image (λ b. floor (buffer I b)) (counted_buffers I t H G) some in (
      m.0,
      m.1,
      stack_within I t H t (floor (buffer I m.0)) G (record {
        higher = (in_counted I t H G m.0 m.1).2;
        counts = λ b i. let r = in_counted I t H G b i in
            into_counted I t (floor (buffer I m.0)) G b r.0 r.1 (m.2 b i) r.3;
      }),
    )

pub floor_reaches : (I : Instance) (t H G : ℕ) → counted I t H G ≢ [] →
    (e : Entry) × IsIn e (counted I t H G) × (stack I t H G ≤ stack I t (floor (buffer I e.0)) G)
floor_reaches I t H G some = (
  (b.0, (buffer I b.0).lowest),
  subst (λ (l : Claim). IsIn (b.0, (buffer I b.0).lowest) l) (sym (counted_are I t H G))
      (into_map (λ (b : ℕ). let e : Entry = (b, (buffer I b).lowest) in e) (counted_buffers I t H G) b.0 b.1),
  b.2,
)
  where
    b : (b : ℕ) × IsIn b (counted_buffers I t H G) × (stack I t H G ≤ stack I t (floor (buffer I b)) G)
    b = least_floor_reaches I t H G (λ e. some (counted_are I t H G ∙ ap (whole I) e))

-- ---- over the starts of sections
pub at_grows : (I : Instance) (t s G : ℕ) →
    ((b : ℕ) → b < length I → IsLive (buffer I b) t → IsLive (buffer I b) s) → highest_at I t G ≤ highest_at I s G
unfolding highest_at
at_grows I t s G h =
    greatest_all (λ H. stack I t H G) (heights I G) (greatest (map (λ H. stack I s H G) (heights I G)))
    (λ H i. let a = stack_grows I t s H G h in let b = in_greatest (λ H. stack I s H G) (heights I G) H i in
    omega arith)

-- a moment with a stack above 0 has a buffer
stack_has : (I : Instance) (t H G : ℕ) → 1 ≤ stack I t H G → (b : ℕ) × (b < length I) × IsLive (buffer I b) t
stack_has I t H G pos = elim (nil_or_not (counted_buffers I t H G)) [
  | inl e ↦ absurd (let z = stack_of_none I t H G e in omega arith)
  | inr b ↦ (let r = in_counted I t H G b.0 b.1 in (b.0, r.0, r.1))
]

highest_under : (I : Instance) (starts : List ℕ) (G t : ℕ) → HasSections I starts →
    highest_at I t G ≤ greatest (map (λ s. highest_at I s G) starts)
highest_under I starts G t h = go (at_reached I t G) (cases (highest_at I t G))
  where
    cases : (n : ℕ) → (n ≡ 0) ⊎ (1 ≤ n)
    cases n = grind arith

    go : (highest_at I t G ≡ 0) ⊎ ((H : ℕ) × IsIn H (heights I G) × (highest_at I t G ≡ stack I t H G)) →
        (highest_at I t G ≡ 0) ⊎ (1 ≤ highest_at I t G) →
        highest_at I t G ≤ greatest (map (λ s. highest_at I s G) starts)
    go (inl z) c = omega arith
    go r (inl z) = omega arith
    go (inr r) (inr pos) =
        let q = r.2 in
        let b = stack_has I t r.0 G (omega arith) in
        let s = h t b.0 b.1 b.2 in
        let k = at_grows I t s.0 G s.2 in
        let m = in_greatest (λ s. highest_at I s G) starts s.0 s.1 in
        omega arith

pub sections_reach : (I : Instance) (starts : List ℕ) (G : ℕ) → HasSections I starts →
    greatest (map (λ s. highest_at I s G) starts) ≡ highest_stack I G
unfolding highest_stack
sections_reach I starts G h = le_antisymm
    (greatest_all (λ s. highest_at I s G) starts (greatest (map (λ t. highest_at I t G) (moments I))) (λ s i. under s))
    (greatest_all (λ t. highest_at I t G) (moments I) (greatest (map (λ s. highest_at I s G) starts))
    (λ t i. highest_under I starts G t h))
  where
    under : (s : ℕ) → highest_at I s G ≤ greatest (map (λ t. highest_at I t G) (moments I))
    under s = at_under_highest I s G

pub bound_moment_reaches : (I : Instance) (starts : List ℕ) → HasSections I starts → 1 ≤ lower_bound I →
    IsIn (bound_moment I starts) starts × (highest_at I (bound_moment I starts) (bound_modulus I) ≡ lower_bound I)
unfolding bound_moment
bound_moment_reaches I starts h pos = go (find at starts) refl
  where
    at : ℕ → Bool
    at t = highest_at I t (bound_modulus I) == lower_bound I

    high : greatest (map (λ s. highest_at I s (bound_modulus I)) starts) ≡ lower_bound I
    high = sections_reach I starts (bound_modulus I) h ∙ bound_modulus_reaches I

    some : (s : ℕ) × IsIn s starts × (highest_at I s (bound_modulus I) ≡ lower_bound I)
    some = elim (greatest_of (λ s. highest_at I s (bound_modulus I)) starts) [
      | inl z ↦ absurd (let k = high in omega arith)
      | inr r ↦ (r.0, r.1, sym r.2 ∙ high)
    ]

    go : (o : Option ℕ) → find at starts ≡ o →
        IsIn (unwrap_or o 0) starts × (highest_at I (unwrap_or o 0) (bound_modulus I) ≡ lower_bound I)
    go None e = absurd (let s = some in let f : at s.0 ≡ false = none_found at starts s.0 e s.1 in
        let t : at s.0 ≡ true = same (highest_at I s.0 (bound_modulus I)) (lower_bound I) s.2 in cc)
    go (Some t) e = (
      found_in at starts t e,
      equal (highest_at I t (bound_modulus I)) (lower_bound I)
          (found_passes at starts t e),
    )

-- ---- the least height that reaches it there
pub bound_height_least : (I : Instance) (starts : List ℕ) (H : ℕ) → IsIn H (heights I (bound_modulus I)) →
    stack I (bound_moment I starts) H (bound_modulus I) ≡ lower_bound I → bound_height I starts ≤ H
unfolding bound_height
bound_height_least I starts H i e =
    let p : IsIn H (filter (λ H. stack I (bound_moment I starts) H (bound_modulus I) == lower_bound I)
    (heights I (bound_modulus I))) = into_filter
    (λ H. stack I (bound_moment I starts) H (bound_modulus I) == lower_bound I) (heights I (bound_modulus I)) H i
    (same (stack I (bound_moment I starts) H (bound_modulus I)) (lower_bound I) e) in
    (least_is (filter (λ H. stack I (bound_moment I starts) H (bound_modulus I) == lower_bound I)
    (heights I (bound_modulus I))) 0 H p).least H p

pub bound_height_reaches : (I : Instance) (starts : List ℕ) → HasSections I starts → 1 ≤ lower_bound I →
    IsIn (bound_height I starts) (heights I (bound_modulus I))
    × (stack I (bound_moment I starts) (bound_height I starts) (bound_modulus I) ≡ lower_bound I)
unfolding bound_height
bound_height_reaches I starts h pos = go (at_reached I (bound_moment I starts) (bound_modulus I))
  where
    test : ℕ → Bool
    test H = stack I (bound_moment I starts) H (bound_modulus I) == lower_bound I

    at : highest_at I (bound_moment I starts) (bound_modulus I) ≡ lower_bound I
    at = (bound_moment_reaches I starts h pos).1

    go : (highest_at I (bound_moment I starts) (bound_modulus I) ≡ 0)
        ⊎ ((H : ℕ) × IsIn H (heights I (bound_modulus I)) × (highest_at I (bound_moment I starts) (bound_modulus I)
        ≡ stack I (bound_moment I starts) H (bound_modulus I))) →
        IsIn (least_of (filter test (heights I (bound_modulus I))) 0) (heights I (bound_modulus I))
        × (stack I (bound_moment I starts) (least_of (filter test (heights I (bound_modulus I))) 0) (bound_modulus I)
        ≡ lower_bound I)
    go (inl z) = absurd (let k = at in omega arith)
    go (inr r) =
        let l = least_is (filter test (heights I (bound_modulus I))) 0 r.0
        (into_filter test (heights I (bound_modulus I)) r.0 r.1
        (same (stack I (bound_moment I starts) r.0 (bound_modulus I)) (lower_bound I) (sym r.2 ∙ at))) in
        let f = from_filter test (heights I (bound_modulus I)) (least_of (filter test (heights I (bound_modulus I))) 0)
        l.is_in in (
          f.0,
          equal (stack I (bound_moment I starts) (least_of (filter test (heights I (bound_modulus I))) 0)
              (bound_modulus I)) (lower_bound I) f.1,
        )
