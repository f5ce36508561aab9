-- The first section that reaches the bound starts at the moment of the bound's log.
use Rattle.std.proofs.Common.{◌≡◌, ◌≢◌, ℕ, zero, suc, ◌<◌, ◌≤◌, ◌==◌, ◌⊎◌, inl, inr, Bool, true, false, List, [], ◌∷◌, length, find, slice_index_or, Some, refl, sym, ap, ◌∙◌, subst, arith}
use Rattle.std.proofs.lemmas.List.{length-map}
use Rattle.std.specs.Option.{unwrap_or}
use Rattle.dsa_terms.specs.Bounds.{bound_modulus, heights, highest_at, highest_stack, lower_bound, stack}
use Rattle.dsa_terms.specs.Buffers.{Instance, IsLive, buffer}
use Rattle.dsa_terms.proofs.Lists.{nil_or_not, true_or_false}
use Rattle.dsa_terms.proofs.NumberTests.{below_or_from, equal, same}
use Rattle.dsa_start_laws.specs.Reaching.{bound_moment}
use Rattle.dsa_start_laws.proofs.BoundModuli.{bound_modulus_reaches}
use Rattle.dsa_start_laws.proofs.Bounds.{at_grows, bound_moment_reaches}
use Rattle.dsa_start_laws.proofs.Stacks.{at_under_highest, dead_stack, greatest_all}
use Rattle.lifetime.specs.Determined.{AreSections}
use Rattle.lifetime.specs.Runs.{starts_of}
use Rattle.lifetime.specs.SectionList.{Section, SectionList, live_at, no_section, start_of}
use Rattle.lifetime.specs.Thin.{AreAmong, IsBetween, StandsFor}
use Rattle.lifetime.proofs.Among.{among_trans, same_members}
use Rattle.lifetime.proofs.Live.{from_live, into_live, not_nil, rises_live}
use Rattle.lifetime.proofs.OneList.{carried, own_start, reach, standing}
use Rattle.lifetime.proofs.Standing.{between_ends}
use Rattle.lower_bounds.specs.BoundMoment.{Gathers, HasAllOf, IsBoundMoment}
use Rattle.lower_bounds.proofs.Reaching.{sections_are_all}

-- ---- the first number that passes a test
first_below : (p : ℕ → Bool) (n : ℕ) →
    ((j : ℕ) → j < n → p j ≡ false) ⊎ ((m : ℕ) × (m < n) × (p m ≡ true) × ((j : ℕ) → j < m → p j ≡ false))
first_below p zero = inl (λ j lt. absurd (omega arith))
first_below p (suc n) = go (first_below p n) (true_or_false (p n))
  where
    split : (j : ℕ) → j < suc n → (j < n) ⊎ (j ≡ n)
    split j lt = grind arith

    go :
        ((j : ℕ) → j < n → p j ≡ false) ⊎ ((m : ℕ) × (m < n) × (p m ≡ true) × ((j : ℕ) → j < m → p j ≡ false)) →
        (p n ≡ true) ⊎ (p n ≡ false) →
        ((j : ℕ) → j < suc n → p j ≡ false)
        ⊎ ((m : ℕ) × (m < suc n) × (p m ≡ true) × ((j : ℕ) → j < m → p j ≡ false))
    go (inr r) t = inr (r.0, (let k = r.1 in omega arith), r.2, r.3)
    go (inl none) (inl t) = inr (n, omega arith, t, none)
    go (inl none) (inr f) = inl (λ j lt. elim (split j lt) [
      | inl k ↦ none j k
      | inr e ↦ subst (λ (i : ℕ). p i ≡ false) (sym e) f
    ])

first_with : (p : ℕ → Bool) (n : ℕ) → p n ≡ true →
    (m : ℕ) × (m ≤ n) × (p m ≡ true) × ((j : ℕ) → j < m → p j ≡ false)
first_with p n t = elim (first_below p (suc n)) [
  | inl none ↦ absurd (let f = none n (omega arith) in cc)
  | inr r ↦ (r.0, (let k = r.1 in omega arith), r.2, r.3)
]

find_first : (p : ℕ → Bool) (xs : List ℕ) (k : ℕ) → k < length xs → p (slice_index_or xs k 0) ≡ true →
    (j : ℕ) × (j ≤ k) × (find p xs ≡ Some (slice_index_or xs j 0))
find_first p [] k lt t = absurd (omega arith)
find_first p (x ∷ xs) k lt t = go (find_first p xs) (true_or_false (p x)) k lt t
  where
    go :
        ((k : ℕ) → k < length xs → p (slice_index_or xs k 0) ≡ true →
        (j : ℕ) × (j ≤ k) × (find p xs ≡ Some (slice_index_or xs j 0))) →
        (p x ≡ true) ⊎ (p x ≡ false) → (k : ℕ) → k < length (x ∷ xs) → p (slice_index_or (x ∷ xs) k 0) ≡ true →
        (j : ℕ) × (j ≤ k) × (find p (x ∷ xs) ≡ Some (slice_index_or (x ∷ xs) j 0))
    go ih (inl h) k lt t = (0, omega arith, rw h refl)
    go ih (inr f) zero lt t = absurd cc
    go ih (inr f) (suc k) lt t =
        let r = ih k (omega arith) t in (suc r.0, (let z = r.1 in omega arith), rw f r.2)

start_at : (xs : List Section) (s : ℕ) → slice_index_or (starts_of xs) s 0 ≡ (slice_index_or xs s no_section).start
start_at [] s = refl
start_at (x ∷ xs) zero = refl
start_at (x ∷ xs) (suc s) = start_at xs s

-- ---- what is live, as lists and as facts
all_of : (I : Instance) (s u : ℕ) → AreAmong (live_at I u) (live_at I s) → HasAllOf I s u
all_of I s u h b lt l = (from_live I s b (h b (into_live I u b lt l))).1

among_of : (I : Instance) (s u : ℕ) → HasAllOf I s u → AreAmong (live_at I u) (live_at I s)
among_of I s u h b i = let r = from_live I u b i in into_live I s b r.0 (h b r.0 r.1)

at_most_bound : (I : Instance) (u : ℕ) → highest_at I u (bound_modulus I) ≤ lower_bound I
unfolding highest_stack
at_most_bound I u =
    let k = at_under_highest I u (bound_modulus I) in let e = bound_modulus_reaches I in omega arith

nothing_live : (I : Instance) (t G : ℕ) → live_at I t ≡ [] → highest_at I t G ≤ 0
unfolding highest_at
nothing_live I t G e = greatest_all (λ H. stack I t H G) (heights I G) 0 (λ H i.
    let z = dead_stack I t H G (λ b lt l. not_nil (live_at I t) b (into_live I t b lt l) e) in omega arith)

-- ---- the section that stands for the first moment that reaches the bound
module _ (I : Instance) (S : SectionList) (a : AreSections I S) (pos : 1 ≤ lower_bound I) (t : ℕ)
    (reached : highest_at I t (bound_modulus I) ≡ lower_bound I)
    (none_before : (u : ℕ) → u < t → highest_at I u (bound_modulus I) ≢ lower_bound I) where
  something : live_at I t ≢ []
  something e = let k = nothing_live I t (bound_modulus I) e in absurd (omega arith)

  stands : (s : ℕ) × StandsFor I S s t
  stands = standing I S a t something

  has : (w : ℕ) → IsBetween t (start_of S stands.0) w → AreAmong (live_at I w) (live_at I (start_of S stands.0))
  has = reach I S a stands.0 t stands.1

  reaches : highest_at I (start_of S stands.0) (bound_modulus I) ≡ lower_bound I
  reaches =
      let g = at_grows I t (start_of S stands.0) (bound_modulus I)
      (all_of I (start_of S stands.0) t (has t (between_ends t (start_of S stands.0)))) in
      let u = at_most_bound I (start_of S stands.0) in omega arith

  late : t ≤ start_of S stands.0
  late = elim (below_or_from (start_of S stands.0) t) [
    | inl lt ↦ absurd (none_before (start_of S stands.0) lt reaches)
    | inr le ↦ le
  ]

  gathers : Gathers I t (start_of S stands.0)
  gathers = (late, λ u tu us. all_of I (start_of S stands.0) u (has u (inl (tu, us))))

  -- the section stands for each moment that has all between
  own : (u : ℕ) → live_at I u ≢ [] →
      ((w : ℕ) → IsBetween (start_of S stands.0) u w → AreAmong (live_at I w) (live_at I u)) → StandsFor I S stands.0 u
  own u n all =
      let q = standing I S a u n in
      let e = own_start I S a stands.0 q.0 stands.1.in_range q.1.in_range
      (carried I (start_of S stands.0) u (start_of S q.0) all (reach I S a q.0 u q.1)) in
      subst (λ (p : ℕ). StandsFor I S p u) e q.1

  most : (u : ℕ) → Gathers I t u → HasAllOf I (start_of S stands.0) u
  most u g b lt l = elim (below_or_from (start_of S stands.0) u) [
    | inl less ↦ (
        let f = own u (not_nil (live_at I u) b (into_live I u b lt l)) (λ w h. between less w h) in
        all_of I (start_of S stands.0) u (reach I S a stands.0 u f u (between_ends u (start_of S stands.0))) b lt l)
    | inr le ↦ gathers.1 u g.0 le b lt l
  ]
    where
      between : start_of S stands.0 < u → (w : ℕ) → IsBetween (start_of S stands.0) u w →
          AreAmong (live_at I w) (live_at I u)
      between less w (inl h) =
          let k = late in let m = h.0 in among_of I u w (g.1 w (omega arith) h.1)
      between less w (inr h) = let k = h.0 in let m = h.1 in absurd (omega arith)

  less_before : (u : ℕ) → t ≤ u → u < start_of S stands.0 → HasAllOf I u (start_of S stands.0) → ⊥
  less_before u tu us h = (own u some between).more us
      (same_members (live_at I u) (live_at I (start_of S stands.0)) (rises_live I u)
      (rises_live I (start_of S stands.0)) (has u (inl (tu, (omega arith)))) back
      ∙ sym (a.sections.live stands.0 stands.1.in_range))
    where
      back : AreAmong (live_at I (start_of S stands.0)) (live_at I u)
      back = among_of I u (start_of S stands.0) h

      some : live_at I u ≢ []
      some = elim (nil_or_not (live_at I t)) [
        | inl e ↦ absurd (something e)
        | inr r ↦ not_nil (live_at I u) r.0 (back r.0 (has t (between_ends t (start_of S stands.0)) r.0 r.1))
      ]

      between : (w : ℕ) → IsBetween (start_of S stands.0) u w → AreAmong (live_at I w) (live_at I u)
      between w (inl m) = let k = m.0 in let n = m.1 in absurd (omega arith)
      between w (inr m) =
          let k = m.0 in
          among_trans (live_at I w) (live_at I (start_of S stands.0)) (live_at I u) (has w (inl ((omega arith), m.1)))
          back

  is_moment : IsBoundMoment I (start_of S stands.0)
  is_moment = record {
    first = t;
    reached = reached;
    none_before = none_before;
    gathers = gathers;
    most = most;
    less_before = less_before;
  }

  -- no section before it reaches the bound
  first_start : bound_moment I (starts_of S.sections) ≡ start_of S stands.0
  unfolding bound_moment
  first_start = at_start ∙ sym (ap (start_of S) own_place)
    where
      at : ℕ → Bool
      at u = highest_at I u (bound_modulus I) == lower_bound I

      found : (j : ℕ) × (j ≤ stands.0)
          × (find at (starts_of S.sections) ≡ Some (slice_index_or (starts_of S.sections) j 0))
      found = find_first at (starts_of S.sections) stands.0
          (let k = length-map S.sections (λ (x : Section). x.start) in let m = stands.1.in_range in omega arith)
          (same (highest_at I (slice_index_or (starts_of S.sections) stands.0 0) (bound_modulus I)) (lower_bound I)
          (ap (λ u. highest_at I u (bound_modulus I)) (start_at S.sections stands.0) ∙ reaches))

      at_start : unwrap_or (find at (starts_of S.sections)) 0 ≡ start_of S found.0
      at_start = ap (λ o. unwrap_or o 0) found.2 ∙ start_at S.sections found.0

      there : highest_at I (start_of S found.0) (bound_modulus I) ≡ lower_bound I
      there = ap (λ u. highest_at I u (bound_modulus I)) (sym at_start)
          ∙ (bound_moment_reaches I (starts_of S.sections) (sections_are_all I S a.sections) pos).1

      not_early : t ≤ start_of S found.0
      not_early = elim (below_or_from (start_of S found.0) t) [
        | inl lt ↦ absurd (none_before (start_of S found.0) lt there)
        | inr le ↦ le
      ]

      split : (m n : ℕ) → m ≤ n → (m ≡ n) ⊎ (m < n)
      split m n le = grind arith

      not_late : start_of S found.0 ≤ start_of S stands.0
      not_late = elim (split found.0 stands.0 found.1) [
        | inl e ↦ (let k = ap (start_of S) e in omega arith)
        | inr lt ↦ (let k = a.sections.rise found.0 stands.0 lt stands.1.in_range in omega arith)
      ]

      between : (w : ℕ) → IsBetween (start_of S found.0) (start_of S stands.0) w →
          AreAmong (live_at I w) (live_at I (start_of S stands.0))
      between w (inl m) = let k = not_early in let n = m.0 in has w (inl ((omega arith), m.1))
      between w (inr m) =
          let k = late in let n = m.0 in let l = not_late in let o = m.1 in
          has w (inl ((omega arith), (omega arith)))

      own_place : stands.0 ≡ found.0
      own_place = own_start I S a found.0 stands.0 (let k = found.1 in let m = stands.1.in_range in omega arith)
          stands.1.in_range between

-- ---- the laws
pub first_section : (I : Instance) (S : SectionList) → AreSections I S → 1 ≤ lower_bound I →
    IsBoundMoment I (bound_moment I (starts_of S.sections))
first_section I S a pos =
    let found = bound_moment_reaches I (starts_of S.sections) (sections_are_all I S a.sections) pos in
    let first = first_with (λ u. highest_at I u (bound_modulus I) == lower_bound I)
    (bound_moment I (starts_of S.sections))
    (same (highest_at I (bound_moment I (starts_of S.sections)) (bound_modulus I)) (lower_bound I) found.1) in
    go first.0 (equal (highest_at I first.0 (bound_modulus I)) (lower_bound I) first.2) (λ u lt e.
    let k = first.3 u lt in let m = same (highest_at I u (bound_modulus I)) (lower_bound I) e in cc)
  where
    go : (t : ℕ) → highest_at I t (bound_modulus I) ≡ lower_bound I →
        ((u : ℕ) → u < t → highest_at I u (bound_modulus I) ≢ lower_bound I) →
        IsBoundMoment I (bound_moment I (starts_of S.sections))
    go t reached none = subst (IsBoundMoment I) (sym (first_start I S a pos t reached none))
        (is_moment I S a pos t reached none)

pub one_moment : (I : Instance) (s u : ℕ) → IsBoundMoment I s → IsBoundMoment I u → s ≡ u
one_moment I s u p q = go (which s u)
  where
    which : (m n : ℕ) → (m ≡ n) ⊎ ((m < n) ⊎ (n < m))
    which m n = grind arith

    same_first : p.first ≡ q.first
    same_first = elim (which p.first q.first) [
      | inl e ↦ e
      | inr (inl lt) ↦ absurd (q.none_before p.first lt p.reached)
      | inr (inr lt) ↦ absurd (p.none_before q.first lt q.reached)
    ]

    go : (s ≡ u) ⊎ ((s < u) ⊎ (u < s)) → s ≡ u
    go (inl e) = e
    go (inr (inl lt)) =
        let e = same_first in let k = p.gathers.0 in
        absurd (q.less_before s (omega arith) lt
        (p.most u (subst (λ (t : ℕ). Gathers I t u) (sym e) q.gathers)))
    go (inr (inr lt)) =
        let e = same_first in let k = q.gathers.0 in
        absurd (p.less_before u (omega arith) lt
        (q.most s (subst (λ (t : ℕ). Gathers I t s) e p.gathers)))

-- ---- at moment 0 the bound stands where it is reached, and what has all that is live then has no more
pub at_zero : (I : Instance) → highest_at I 0 (bound_modulus I) ≡ lower_bound I →
    ((u : ℕ) → HasAllOf I u 0 → HasAllOf I 0 u) → IsBoundMoment I 0
at_zero I reached most = record {
  first = 0;
  reached = reached;
  none_before = λ u lt. absurd (omega arith);
  gathers = (omega arith, λ u a b. subst (HasAllOf I 0) (zero_is u b) (λ c lt l. l));
  most = λ u g. most u (g.1 0 (omega arith) (omega arith));
  less_before = λ u a lt. absurd (omega arith);
}
  where
    zero_is : (u : ℕ) → u ≤ 0 → 0 ≡ u
    zero_is u le = omega arith

-- so it is where all buffers are live at 0
pub all_at_zero : (I : Instance) → highest_at I 0 (bound_modulus I) ≡ lower_bound I →
    ((b : ℕ) → b < length I → IsLive (buffer I b) 0) → IsBoundMoment I 0
all_at_zero I reached all = at_zero I reached (λ u h b lt l. all b lt)
