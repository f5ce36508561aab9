-- What the stack keeps once all sections are done: those to which they are thinned.
use Rattle.std.proofs.Common.{◌≡◌, ℕ, ◌+◌, ◌-◌, ◌<◌, ◌⊎◌, inl, inr, List, [], ◌∷◌, ◌++◌, length, reverse, slice_index_or, refl, sym, ap, ◌∙◌, subst, arith, append_assoc, length-append}
use Rattle.std.proofs.lemmas.List.{get_or-append_right, get_or_append_left, length-reverse, map-append, reverse-append, reverse-reverse}
use Rattle.dsa_terms.specs.Claims.{IsIn, Rises}
use Rattle.dsa_terms.proofs.Lists.{from_append, from_map, into_map, left_append, right_append}
use Rattle.dsa_terms.proofs.NumberTests.{below_or_last}
use Rattle.dsa_terms.proofs.Ranges.{rises-push}
use Rattle.lifetime.specs.Runs.{starts_of}
use Rattle.lifetime.specs.SectionList.{Section, no_section}
use Rattle.lifetime.specs.Thin.{AreAmong, IsThinnedTo, AreThin, IsBetween, StandsIn}
use Rattle.lifetime.specs.Stretches.{AreApart, AreStretches, IsAbove, IsNotOver}

rises_left : (xs ys : List ℕ) → Rises (xs ++ ys) → Rises xs
rises_left [] ys r = tt
rises_left (x ∷ xs) ys r = (λ y i. r.0 y (left_append xs ys y i), rises_left xs ys r.1)

rises_over : (xs ys : List ℕ) (x y : ℕ) → Rises (xs ++ ys) → IsIn x xs → IsIn y ys → x < y
rises_over [] ys x y r i j = absurd i
rises_over (z ∷ zs) ys x y r (inl e) j = let k = r.0 y (right_append zs ys y j) in omega arith
rises_over (z ∷ zs) ys x y r (inr i) j = rises_over zs ys x y r.1 i j

start_in : (xs : List Section) (x : Section) → IsIn x xs → IsIn x.start (starts_of xs)
start_in xs x i = into_map (λ (y : Section). y.start) xs x i

-- sections before and after a place
earlier : (xs ys : List Section) (x y : Section) → Rises (starts_of (xs ++ ys)) → IsIn x xs → IsIn y ys →
    x.start < y.start
earlier xs ys x y r i j =
    rises_over (starts_of xs) (starts_of ys) x.start y.start
    (rw (map-append (λ (z : Section). z.start) xs ys) at r) (start_in xs x i) (start_in ys y j)

rises_first : (xs ys : List Section) → Rises (starts_of (xs ++ ys)) → Rises (starts_of xs)
rises_first xs ys r = rises_left (starts_of xs) (starts_of ys)
    (rw (map-append (λ (z : Section). z.start) xs ys) at r)

pub chosen : (stack sections : List Section) (x : Section) → AreStretches sections stack → IsIn x stack →
    IsIn x sections
chosen [] sections x s i = absurd i
chosen (k ∷ ks) sections x s (inl e) = rw (s.3.is, e)
    (right_append s.0 (s.1 ++ k ∷ s.2) k (right_append s.1 (k ∷ s.2) k (inl refl)))
chosen (k ∷ ks) sections x s (inr i) = rw s.3.is (left_append s.0 (s.1 ++ k ∷ s.2) x (chosen ks s.0 x s.4 i))

reversed : (k : Section) (ks : List Section) → reverse (k ∷ ks) ≡ reverse ks ++ k ∷ []
reversed k ks = reverse-append (k ∷ []) ks

from_reverse : (ks : List Section) (x : Section) → IsIn x (reverse ks) → IsIn x ks
from_reverse [] x i = i
from_reverse (k ∷ ks) x i = elim (from_append (reverse ks) (k ∷ []) x (rw (reversed k ks) at i)) [
  | inl j ↦ inr (from_reverse ks x j)
  | inr j ↦ elim j [ inl e ↦ inl e | inr q ↦ absurd q ]
]

pub into_reverse : (ks : List Section) (x : Section) → IsIn x ks → IsIn x (reverse ks)
into_reverse [] x i = i
into_reverse (k ∷ ks) x (inl e) = rw (reversed k ks) (right_append (reverse ks) (k ∷ []) x (inl e))
into_reverse (k ∷ ks) x (inr i) = rw (reversed k ks) (left_append (reverse ks) (k ∷ []) x (into_reverse ks x i))

rise : (stack sections : List Section) → AreStretches sections stack → Rises (starts_of sections) →
    Rises (starts_of (reverse stack))
rise [] sections s r = tt
rise (k ∷ ks) sections s r =
    rw (reversed k ks, map-append (λ (x : Section). x.start) (reverse ks) (k ∷ []))
    (rises-push (starts_of (reverse ks)) k.start (rise ks s.0 s.4 (rises_first s.0 (s.1 ++ k ∷ s.2) whole)) below)
  where
    whole : Rises (starts_of (s.0 ++ (s.1 ++ k ∷ s.2)))
    whole = rw s.3.is at r

    below : (t : ℕ) → IsIn t (starts_of (reverse ks)) → t < k.start
    below t i =
        let q = from_map (λ (x : Section). x.start) (reverse ks) t i in
        let lt : q.0.start < k.start = earlier s.0 (s.1 ++ k ∷ s.2) q.0 k whole
        (chosen ks s.0 q.0 s.4 (from_reverse ks q.0 q.1)) (right_append s.1 (k ∷ s.2) k (inl refl)) in
        let e = q.2 in omega arith

-- the last of the list is the first of the stack
first : (l : Section) (ls : List Section) (s : ℕ) → s + 1 ≡ length (reverse (l ∷ ls)) →
    slice_index_or (reverse (l ∷ ls)) s no_section ≡ l
first l ls s e =
    let m = length-reverse (l ∷ ls) in
    let n = length-reverse ls in
    let k : s ≡ length (reverse ls) = omega arith in
    ap (λ xs. slice_index_or xs s no_section) (reversed l ls)
    ∙ (get_or-append_right (reverse ls) (l ∷ []) s s no_section (sym k) (omega arith)
    ∙ ap (λ n. slice_index_or (l ∷ []) n no_section) (let z : s - s ≡ 0 = omega arith in z))

thin : (stack : List Section) → AreApart stack → AreThin (reverse stack)
thin [] a = record { before = λ s lt. absurd (omega arith); after = λ s lt. absurd (omega arith) }
thin (k ∷ ks) a = rw (reversed k ks) (record {
  before = λ s lt. go_before s (place s lt) (thin ks a.2);
  after = λ s lt. go_after s (place s lt) (thin ks a.2);
})
  where
    place : (s : ℕ) → s + 1 < length (reverse ks ++ k ∷ []) →
        (s + 1 < length (reverse ks)) ⊎ (s + 1 ≡ length (reverse ks))
    place s lt = below_or_last (s + 1) (length (reverse ks))
        (let e = length-append (reverse ks) (k ∷ []) in omega arith)

    at : (s : ℕ) → s < length (reverse ks) →
        slice_index_or (reverse ks ++ k ∷ []) s no_section ≡ slice_index_or (reverse ks) s no_section
    at s lt = get_or_append_left (reverse ks) (k ∷ []) no_section s lt

    last : (s : ℕ) → s ≡ length (reverse ks) → slice_index_or (reverse ks ++ k ∷ []) s no_section ≡ k
    last s e = get_or-append_right (reverse ks) (k ∷ []) s s no_section (sym e) (omega arith)
        ∙ ap (λ n. slice_index_or (k ∷ []) n no_section) (let z : s - s ≡ 0 = omega arith in z)

    -- the one before it is the first of the others
    go_before : (s : ℕ) → (s + 1 < length (reverse ks)) ⊎ (s + 1 ≡ length (reverse ks)) → AreThin (reverse ks) →
        AreAmong (slice_index_or (reverse ks ++ k ∷ []) (s + 1) no_section).members
        (slice_index_or (reverse ks ++ k ∷ []) s no_section).members → ⊥
    go_before s (inl lt) ih = rw (at s (omega arith), at (s + 1) lt) (ih.before s lt)
    go_before s (inr e) ih = rw (at s (omega arith), last (s + 1) e) (top ks a.0 s e)
      where
        top : (ks : List Section) → IsAbove k ks → (s : ℕ) → s + 1 ≡ length (reverse ks) →
            AreAmong k.members (slice_index_or (reverse ks) s no_section).members → ⊥
        top [] h s e = absurd (omega arith)
        top (l ∷ ls) h s e = rw (first l ls s e) h

    go_after : (s : ℕ) → (s + 1 < length (reverse ks)) ⊎ (s + 1 ≡ length (reverse ks)) → AreThin (reverse ks) →
        AreAmong (slice_index_or (reverse ks ++ k ∷ []) s no_section).members
        (slice_index_or (reverse ks ++ k ∷ []) (s + 1) no_section).members → ⊥
    go_after s (inl lt) ih = rw (at s (omega arith), at (s + 1) lt) (ih.after s lt)
    go_after s (inr e) ih = rw (at s (omega arith), last (s + 1) e) (top ks a.1 s e)
      where
        top : (ks : List Section) → IsNotOver k ks → (s : ℕ) → s + 1 ≡ length (reverse ks) →
            AreAmong (slice_index_or (reverse ks) s no_section).members k.members → ⊥
        top [] h s e = absurd (omega arith)
        top (l ∷ ls) h s e = rw (first l ls s e) h

-- some section of the stack stands for each
stand : (stack sections : List Section) → AreStretches sections stack → Rises (starts_of sections) → (x : Section) →
    IsIn x sections → (k : Section) × IsIn k stack × StandsIn sections x k
stand [] sections s r x i = absurd (rw s at i)
stand (k ∷ ks) sections s r x i =
    go (stand ks s.0 s.4 (rises_first s.0 (s.1 ++ k ∷ s.2) whole) x)
    (from_append s.0 (s.1 ++ k ∷ s.2) x (rw s.3.is at i))
  where
    whole : Rises (starts_of (s.0 ++ (s.1 ++ k ∷ s.2)))
    whole = rw s.3.is at r

    split : (y : Section) → IsIn y sections → IsIn y s.0 ⊎ IsIn y (s.1 ++ k ∷ s.2)
    split y i = from_append s.0 (s.1 ++ k ∷ s.2) y (rw s.3.is at i)

    own : IsIn k (s.1 ++ k ∷ s.2)
    own = right_append s.1 (k ∷ s.2) k (inl refl)

    outside : (a b c : ℕ) → IsBetween a b c → ((a < c) × (b < c)) ⊎ ((c < a) × (c < b)) → ⊥
    outside a b c (inl h) (inl k) = absurd (omega arith)
    outside a b c (inl h) (inr k) = absurd (omega arith)
    outside a b c (inr h) (inl k) = absurd (omega arith)
    outside a b c (inr h) (inr k) = absurd (omega arith)

    seam : s.0 ++ (s.1 ++ k ∷ s.2) ≡ (s.0 ++ (s.1 ++ k ∷ [])) ++ s.2
    seam = sym (append_assoc s.0 (s.1 ++ k ∷ []) s.2 ∙ ap (λ xs. s.0 ++ xs) (append_assoc s.1 (k ∷ []) s.2))

    later : IsIn x s.2 → k.start < x.start
    later n = earlier (s.0 ++ (s.1 ++ k ∷ [])) s.2 k x (rw seam at whole)
        (right_append s.0 (s.1 ++ k ∷ []) k (right_append s.1 (k ∷ []) k (inl refl))) n

    go : (IsIn x s.0 → (l : Section) × IsIn l ks × StandsIn s.0 x l) → IsIn x s.0 ⊎ IsIn x (s.1 ++ k ∷ s.2) →
        (l : Section) × IsIn l (k ∷ ks) × StandsIn sections x l
    go ih (inl i) =
        let q = ih i in (
          q.0,
          inr q.1,
          record {
            has_all = λ y j between. elim (split y j) [
              | inl n ↦ q.2.has_all y n between
              | inr n ↦ absurd (outside x.start q.0.start y.start between (inl (
                earlier s.0 (s.1 ++ k ∷ s.2) x y whole i n,
                earlier s.0 (s.1 ++ k ∷ s.2) q.0 y whole (chosen ks s.0 q.0 s.4 q.1) n,
              )))
            ];
            more = q.2.more;
          },
        )
    go ih (inr i) = (
      k,
      inl refl,
      record {
        has_all = λ y j between. elim (split y j) [
          | inl n ↦ absurd (outside x.start k.start y.start between (inr (
            earlier s.0 (s.1 ++ k ∷ s.2) y x whole n i,
            earlier s.0 (s.1 ++ k ∷ s.2) y k whole n own,
          )))
          | inr n ↦ among y (from_append s.1 (k ∷ s.2) y n)
        ];
        more = λ lt. more lt (from_append s.1 (k ∷ s.2) x i);
      },
    )
      where
        among : (y : Section) → IsIn y s.1 ⊎ IsIn y (k ∷ s.2) → AreAmong y.members k.members
        among y (inl n) = (s.3.lesser y n).0
        among y (inr (inl e)) = subst (λ (z : Section). AreAmong z.members k.members) (sym e) (λ b i. i)
        among y (inr (inr n)) = s.3.within y n

        more : x.start < k.start → IsIn x s.1 ⊎ IsIn x (k ∷ s.2) → AreAmong k.members x.members → ⊥
        more lt (inl n) = (s.3.lesser x n).1
        more lt (inr (inl e)) = absurd (let z : x.start ≡ k.start = ap (λ (y : Section). y.start) e in omega arith)
        more lt (inr (inr n)) = absurd (let z = later n in omega arith)

-- what is kept once all sections are done
pub kept_of_all : (sections kept : List Section) → AreStretches sections (reverse kept) → AreApart (reverse kept) →
    Rises (starts_of sections) → IsThinnedTo sections kept
kept_of_all sections kept s a r = rw (← twice) (record {
  chosen = λ x i. chosen (reverse kept) sections x s (from_reverse (reverse kept) x i);
  rise = rise (reverse kept) sections s r;
  thin = thin (reverse kept) a;
  stand = λ x i. let q = stand (reverse kept) sections s r x i in (q.0, into_reverse (reverse kept) q.0 q.1, q.2);
})
  where
    twice : reverse (reverse kept) ≡ kept
    twice = reverse-reverse kept
