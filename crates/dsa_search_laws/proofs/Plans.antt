-- Plans at smaller capacities, and the hunt as an equation.
use Rattle.std.proofs.Common.{◌≡◌, ℕ, zero, suc, ◌+◌, ◌-◌, ◌/◌, ◌<◌, ◌≤◌, ◌⊎◌, inl, inr, Bool, true, false, cond, List, [], ◌∷◌, ◌++◌, map, length, find, nat_le, slice_index, Option, Some, None, refl, ap, ◌∙◌, arith}
use Rattle.std.specs.Option.{option_or}
use Rattle.dsa_terms.specs.Buffers.{Instance, buffer, IsInstance}
use Rattle.dsa_terms.specs.Layouts.{IsLayout}
use Rattle.dsa_terms.specs.Claims.{Entry, Claim, IsIn, buffers_of, IsClaim, number_of, IsPlacement}
use Rattle.dsa_terms.specs.Logs.{greatest}
use Rattle.dsa_terms.specs.Search.{first, not_excluded}
use Rattle.dsa_terms.specs.Parts.{numbers, parts, whole, join, first_of_all, offsets_of, offsets_found, searched, whole_work}
use Rattle.dsa_terms.specs.Plans.{layout_height, plan, after_plan, hunt_within, hunt}
use Rattle.dsa_terms.proofs.NumberTests.{above, at_most, is_at_most, not_at_most}
use Rattle.dsa_terms.proofs.Ranges.{from_range, into_range}
use Rattle.dsa_search_laws.proofs.First.{first_places, first_is_complete}
use Rattle.dsa_search_laws.proofs.Logs.{in_greatest}
use Rattle.dsa_search_laws.proofs.Search.{EndsBy, lower_of}
use Rattle.dsa_search_laws.proofs.Members.{in_whole, buffers_of-whole, claim_of_part}
use Rattle.dsa_search_laws.proofs.Parts.{AllApart, join_some, number_of-left, number_of-right, found_some, offset_at, parts_apart, searched_is_layout}

first_lower_by : (I : Instance) (C D : ℕ) (l : Claim) (seats : List Entry) → IsInstance I → IsClaim I l → D ≤ C →
    first I C l ≡ Some seats → EndsBy I D l (number_of seats) → first I D l ≡ Some seats
unfolding first
first_lower_by I C D l seats s c le h ends =
    lower_of I C D (not_excluded I) s (first_is_complete I C s) (first_is_complete I D s) le
    (length l) l seats refl c h ends

all_lower : (I : Instance) (C D : ℕ) (ps : List (List ℕ)) (seats : List Entry) → IsInstance I → D ≤ C →
    ((p : List ℕ) → IsIn p ps → IsClaim I (whole I p)) → AllApart ps →
    first_of_all I C ps ≡ Some seats → ((p : List ℕ) → IsIn p ps → EndsBy I D (whole I p) (number_of seats)) →
    first_of_all I D ps ≡ Some seats
all_lower I C D [] seats s le c a h ends = h
all_lower I C D (q ∷ qs) seats s le c a h ends =
    go (λ y e k. all_lower I C D qs y s le (λ p j. c p (inr j)) a.1 e k)
    (join_some (first I C (whole I q)) (first_of_all I C qs) seats h)
  where
    go : ((y : List Entry) → first_of_all I C qs ≡ Some y →
        ((p : List ℕ) → IsIn p qs → EndsBy I D (whole I p) (number_of y)) → first_of_all I D qs ≡ Some y) →
        (x : List Entry) × (y : List Entry) × (first I C (whole I q) ≡ Some x) × (first_of_all I C qs ≡ Some y)
        × (x ++ y ≡ seats) → join (first I D (whole I q)) (first_of_all I D qs) ≡ Some seats
    go ih r = rw (here, ih r.1 r.3 later, r.4) refl
      where
        placed : IsPlacement I C (whole I q) r.0
        placed = first_places I C (whole I q) r.0 s (c q (inl refl)) r.2

        same : buffers_of r.0 ≡ q
        same = placed.same_buffers ∙ buffers_of-whole I q

        here : first I D (whole I q) ≡ Some r.0
        here = first_lower_by I C D (whole I q) r.0 s (c q (inl refl)) le r.2
            (λ e m. let k = ends q (inl refl) e m in
            let z : number_of seats e.0 ≡ number_of r.0 e.0 = rw (← r.4)
            (number_of-left r.0 r.1 e.0 (rw same ((in_whole I q e m).0))) in rw (← z) k)

        later : (p : List ℕ) → IsIn p qs → EndsBy I D (whole I p) (number_of r.1)
        later p j e m =
            let k = ends p (inr j) e m in
            let z : number_of seats e.0 ≡ number_of r.1 e.0 = rw (← r.4)
            (number_of-right r.0 r.1 e.0 (λ z. a.0 p j e.0 (rw same at z) (in_whole I p e m).0)) in
            rw (← z) k

pub under_layout_height : (I : Instance) (offsets : List ℕ) (b : ℕ) → b < length I →
    slice_index offsets b + (buffer I b).size ≤ layout_height I offsets
unfolding layout_height
under_layout_height I offsets b lt = in_greatest (λ b. slice_index offsets b + (buffer I b).size) (numbers (length I)) b
    (into_range (length I) 0 b (omega arith) (omega arith))

pub searched_lower : (I : Instance) (C D : ℕ) (offsets : List ℕ) → IsInstance I → searched I C ≡ Some offsets →
    layout_height I offsets ≤ D → D ≤ C → searched I D ≡ Some offsets
unfolding searched
searched_lower I C D offsets s h below le = go (found_some I (first_of_all I C (parts I)) offsets h)
  where
    go : (seats : List Entry) × (first_of_all I C (parts I) ≡ Some seats) × (offsets_of I seats ≡ offsets) →
        offsets_found I (first_of_all I D (parts I)) ≡ Some offsets
    go r = rw (all_lower I C D (parts I) r.0 s le (claim_of_part I) (parts_apart I) r.1 ends)
        (ap (λ o. let a : Option (List ℕ) = Some o in a) r.2)
      where
        ends : (p : List ℕ) → IsIn p (parts I) → EndsBy I D (whole I p) (number_of r.0)
        ends p i e j =
            let lt = (claim_of_part I p i).in_range e j in
            let k = under_layout_height I offsets e.0 lt in
            let z : slice_index offsets e.0 ≡ number_of r.0 e.0 = rw (← r.2) (offset_at I r.0 e.0 lt) in
            rw (← z) (omega arith)

-- ---- plans
abbrev pub is_under : Instance → ℕ → List ℕ → Bool
is_under I C offsets = nat_le (layout_height I offsets) C

find_lower : (I : Instance) (C D : ℕ) (starts : List (List ℕ)) (offsets : List ℕ) → D ≤ C →
    find (is_under I C) starts ≡ Some offsets → layout_height I offsets ≤ D → find (is_under I D) starts ≡ Some offsets
find_lower I C D [] offsets le h low = absurd cc
find_lower I C D (x ∷ xs) offsets le h low =
    go (λ q. find_lower I C D xs offsets le q low) (nat_le (layout_height I x) C) refl h
  where
    go : (find (is_under I C) xs ≡ Some offsets → find (is_under I D) xs ≡ Some offsets) → (b : Bool) →
        nat_le (layout_height I x) C ≡ b → cond b (Some x) (find (is_under I C) xs) ≡ Some offsets →
        cond (nat_le (layout_height I x) D) (Some x) (find (is_under I D) xs) ≡ Some offsets
    go ih true e q = let same : x ≡ offsets = cc in rw (is_at_most (layout_height I x) D (rw same low)) q
    go ih false e q = rw (not_at_most (layout_height I x) D (let k = above (layout_height I x) C e in
        omega arith)) (ih q)

find_none_lower : (I : Instance) (C D : ℕ) (starts : List (List ℕ)) → D ≤ C → find (is_under I C) starts ≡ None →
    find (is_under I D) starts ≡ None
find_none_lower I C D [] le h = refl
find_none_lower I C D (x ∷ xs) le h = go (find_none_lower I C D xs le) (nat_le (layout_height I x) C) refl h
  where
    go : (find (is_under I C) xs ≡ None → find (is_under I D) xs ≡ None) → (b : Bool) →
        nat_le (layout_height I x) C ≡ b → cond b (Some x) (find (is_under I C) xs) ≡ None →
        cond (nat_le (layout_height I x) D) (Some x) (find (is_under I D) xs) ≡ None
    go ih true e q = absurd cc
    go ih false e q = rw (not_at_most (layout_height I x) D (let k = above (layout_height I x) C e in
        omega arith)) (ih q)

pub found_under : (I : Instance) (C : ℕ) (starts : List (List ℕ)) (offsets : List ℕ) →
    find (is_under I C) starts ≡ Some offsets → layout_height I offsets ≤ C
found_under I C [] offsets h = absurd cc
found_under I C (x ∷ xs) offsets h = go (found_under I C xs offsets) (nat_le (layout_height I x) C) refl h
  where
    go : (find (is_under I C) xs ≡ Some offsets → layout_height I offsets ≤ C) → (b : Bool) →
        nat_le (layout_height I x) C ≡ b → cond b (Some x) (find (is_under I C) xs) ≡ Some offsets →
        layout_height I offsets ≤ C
    go ih true e q = let same : x ≡ offsets = cc in rw (← same) (at_most (layout_height I x) C e)
    go ih false e q = ih q

greatest_le : {X : Type 0} (f : X → ℕ) (xs : List X) (C : ℕ) → ((x : X) → IsIn x xs → f x ≤ C) → greatest (map f xs) ≤ C
greatest_le f [] C h = omega arith
greatest_le f (x ∷ xs) C h = let a = h x (inl refl) in let b = greatest_le f xs C (λ y i. h y (inr i)) in omega arith

pub layout_under : (I : Instance) (C : ℕ) (offsets : List ℕ) → IsLayout I C offsets → layout_height I offsets ≤ C
unfolding layout_height
layout_under I C offsets h = greatest_le (λ b. slice_index offsets b + (buffer I b).size) (numbers (length I)) C
    (λ b i. h.within b (let k = (from_range (length I) 0 b i).1 in omega arith))

pub or_search_cases : (a b : Option (List ℕ)) (offsets : List ℕ) → option_or a b ≡ Some offsets →
    (a ≡ Some offsets) ⊎ ((a ≡ None) × (b ≡ Some offsets))
or_search_cases None b offsets h = inr (refl, h)
or_search_cases (Some x) b offsets h = inl h

pub plan_under : (starts : List (List ℕ)) (I : Instance) (C : ℕ) (offsets : List ℕ) → IsInstance I →
    plan starts I C ≡ Some offsets → layout_height I offsets ≤ C
unfolding plan
plan_under starts I C offsets s h = elim (or_search_cases (find (is_under I C) starts) (searched I C) offsets h) [
  | inl q ↦ found_under I C starts offsets q
  | inr q ↦ layout_under I C offsets (searched_is_layout I C offsets s q.1)
]

pub plan_lower : (starts : List (List ℕ)) (I : Instance) (C D : ℕ) (offsets : List ℕ) → IsInstance I →
    plan starts I C ≡ Some offsets → layout_height I offsets ≤ D → D ≤ C → plan starts I D ≡ Some offsets
unfolding plan
plan_lower starts I C D offsets s h low le =
    elim (or_search_cases (find (is_under I C) starts) (searched I C) offsets h) [
      | inl q ↦ rw (find_lower I C D starts offsets le q low) refl
      | inr q ↦ rw (find_none_lower I C D starts le q.0) (searched_lower I C D offsets s q.1 low le)
    ]

-- ---- the hunt
middle : (a b : ℕ) → a < b → (a ≤ (a + b) / 2) × ((a + b) / 2 < b)
middle a b lt = (omega arith, omega arith)

hunt_enough : (starts : List (List ℕ)) (I : Instance) (j k a b : ℕ) → IsInstance I → b - a ≤ j → b - a ≤ k →
    hunt_within j starts I a b ≡ hunt_within k starts I a b
hunt_enough starts I zero zero a b s p q = refl
hunt_enough starts I zero (suc k) a b s p q = let e : nat_le b a ≡ true = is_at_most b a (omega arith) in rw e refl
hunt_enough starts I (suc j) zero a b s p q = let e : nat_le b a ≡ true = is_at_most b a (omega arith) in rw e refl
hunt_enough starts I (suc j) (suc k) a b s p q = go (λ x y. hunt_enough starts I j k x y s) (nat_le b a) refl
  where
    go : ((x y : ℕ) → y - x ≤ j → y - x ≤ k → hunt_within j starts I x y ≡ hunt_within k starts I x y) → (t : Bool) →
        nat_le b a ≡ t →
        cond t 0 (whole_work I ((a + b) / 2) + after_plan (hunt_within j starts I) I a b ((a + b) / 2)
        (plan starts I ((a + b) / 2)))
        ≡ cond t 0 (whole_work I ((a + b) / 2) + after_plan (hunt_within k starts I) I a b ((a + b) / 2)
        (plan starts I ((a + b) / 2)))
    go ih true e = refl
    go ih false e = ap (λ w. whole_work I ((a + b) / 2) + w) (by (plan starts I ((a + b) / 2)) refl)
      where
        m : (a ≤ (a + b) / 2) × ((a + b) / 2 < b)
        m = middle a b (above b a e)

        by : (o : Option (List ℕ)) → plan starts I ((a + b) / 2) ≡ o →
            after_plan (hunt_within j starts I) I a b ((a + b) / 2) o ≡ after_plan (hunt_within k starts I) I a b
            ((a + b) / 2) o
        by None z = ih ((a + b) / 2 + 1) b (let x = m.0 in let y = m.1 in omega arith) (let x = m.0 in let y = m.1 in
            omega arith)
        by (Some o) z = let h = plan_under starts I ((a + b) / 2) o s z in
            ih a (layout_height I o) (let x = m.0 in let y = m.1 in omega arith) (let x = m.0 in let y = m.1 in
            omega arith)

pub hunt_met : (starts : List (List ℕ)) (I : Instance) (a b : ℕ) → b ≤ a → hunt starts I a b ≡ 0
unfolding hunt
hunt_met starts I a b le = let e : b - a ≡ 0 = omega arith in rw e refl

pub hunt_equation : (starts : List (List ℕ)) (I : Instance) (a b : ℕ) → IsInstance I → a < b →
    hunt starts I a b ≡ whole_work I ((a + b) / 2) + after_plan (hunt starts I) I a b ((a + b) / 2)
    (plan starts I ((a + b) / 2))
unfolding hunt
hunt_equation starts I a b s lt = hunt_enough starts I (b - a) (suc (b - a)) a b s (omega arith) (omega arith)
    ∙ rw e (ap (λ w. whole_work I ((a + b) / 2) + w) (by (plan starts I ((a + b) / 2)) refl))
  where
    e : nat_le b a ≡ false
    e = not_at_most b a lt

    m : (a ≤ (a + b) / 2) × ((a + b) / 2 < b)
    m = middle a b lt

    by : (o : Option (List ℕ)) → plan starts I ((a + b) / 2) ≡ o →
        after_plan (hunt_within (b - a) starts I) I a b ((a + b) / 2) o ≡ after_plan
        (λ x y. hunt_within (y - x) starts I x y) I a b ((a + b) / 2) o
    by None z = hunt_enough starts I (b - a) (b - ((a + b) / 2 + 1)) ((a + b) / 2 + 1) b s (let x = m.0 in
        omega arith) (omega arith)
    by (Some o) z = let h = plan_under starts I ((a + b) / 2) o s z in
        hunt_enough starts I (b - a) (layout_height I o - a) a (layout_height I o) s (let y = m.1 in
        omega arith) (omega arith)
