-- The plan over the six starts decides each capacity, and the best start is one of least height.
use Rattle.std.proofs.Common.{◌≡◌, ℕ, zero, suc, ◌+◌, ◌<◌, ◌≤◌, ◌⊎◌, ◌↔◌, inl, inr, Bool, true, false, cond, not, List, [], ◌∷◌, map, length, find, nat_le, slice_index_or, Option, Some, None, refl, ap, arith}
use Rattle.std.specs.List.{list_all, position_or_len, prefix_len}
use Rattle.std.proofs.lemmas.List.Sums.{passes_at_first, fails_before_first}
use Rattle.std.proofs.lemmas.List.{length-map}
use Rattle.std.specs.Option.{option_or}
use Rattle.dsa_terms.specs.Buffers.{Instance, IsInstance}
use Rattle.dsa_terms.specs.Layouts.{IsLayout, IsInfeasible}
use Rattle.dsa_terms.specs.Claims.{IsIn}
use Rattle.dsa_terms.specs.Parts.{searched}
use Rattle.dsa_terms.specs.Plans.{layout_height, plan}
use Rattle.dsa_terms.specs.Orders.{orders}
use Rattle.dsa_terms.specs.Starts.{starts, lowest_place, best_start, planned}
use Rattle.dsa_terms.proofs.Lists.{none_or_some, all_at, all_from}
use Rattle.dsa_terms.proofs.NumberTests.{at_most, below_or_from, is_at_most}
use Rattle.dsa_terms.proofs.Places.{in_at}
use Rattle.dsa_search_laws.proofs.Logs.{layout_higher}
use Rattle.dsa_search_laws.proofs.Parts.{searched_is_layout, searched_exactly}
use Rattle.dsa_search_laws.proofs.Plans.{is_under, found_under, layout_under, or_search_cases}
use Rattle.dsa_start_laws.proofs.Fits.{start_is_layout}
use Rattle.dsa_start_laws.proofs.Stacks.{found_in}

-- ---- the plan
pub planned_is_layout : (I : Instance) (C : ℕ) (offsets : List ℕ) → IsInstance I → planned I C ≡ Some offsets →
    IsLayout I C offsets
unfolding planned plan
planned_is_layout I C offsets s h = elim (or_search_cases (find (is_under I C) (starts I)) (searched I C) offsets h) [
  | inl q ↦ layout_higher I (layout_height I offsets) C offsets (found_under I C (starts I) offsets q)
      (start_is_layout I offsets s (found_in (is_under I C) (starts I) offsets q))
  | inr q ↦ searched_is_layout I C offsets s q.1
]

pub planned_under : (I : Instance) (C : ℕ) (offsets : List ℕ) → IsInstance I → planned I C ≡ Some offsets →
    layout_height I offsets ≤ C
planned_under I C offsets s h = layout_under I C offsets (planned_is_layout I C offsets s h)

or_search_none : (a b : Option (List ℕ)) → option_or a b ≡ None → b ≡ None
or_search_none None b h = h
or_search_none (Some x) b h = absurd cc

pub planned_none : (I : Instance) (C : ℕ) → IsInstance I → planned I C ≡ None → IsInfeasible I C
unfolding planned plan
planned_none I C s h = (searched_exactly I C s).0 (or_search_none (find (is_under I C) (starts I)) (searched I C) h)

pub planned_exactly : (I : Instance) (C : ℕ) → IsInstance I → (planned I C ≡ None) ↔ IsInfeasible I C
planned_exactly I C s = (
  planned_none I C s,
  λ h. elim (none_or_some (planned I C)) [ inl q ↦ q | inr q ↦ absurd (h q.0 (planned_is_layout I C q.0 s q.1)) ],
)

-- ---- the first of least height
-- some height is not above any
record HasLowest (hs : List ℕ) : Type 0 where
  lowest : ℕ
  is_in : IsIn lowest hs
  least : (h : ℕ) → IsIn h hs → lowest ≤ h

has_lowest : (h : ℕ) (hs : List ℕ) → HasLowest (h ∷ hs)
has_lowest h [] = record {
  lowest = h;
  is_in = inl refl;
  least = λ x i. elim i [ inl q ↦ omega arith | inr q ↦ absurd q ];
}
has_lowest h (g ∷ gs) = go (has_lowest g gs)
  where
    cases : (m n : ℕ) → (m ≤ n) ⊎ (n < m)
    cases m n = grind arith

    go : HasLowest (g ∷ gs) → HasLowest (h ∷ g ∷ gs)
    go r = elim (cases h r.lowest) [
      | inl le ↦ record {
        lowest = h;
        is_in = inl refl;
        least = λ x i. elim i [ inl q ↦ omega arith | inr q ↦ (let k = r.least x q in omega arith) ];
      }
      | inr lt ↦ record {
        lowest = r.lowest;
        is_in = inr r.is_in;
        least = λ x i. elim i [ inl q ↦ omega arith | inr q ↦ r.least x q ];
      }
    ]

-- the first place that passes is within the list where some item passes
first_within : {X : Type 0} (p : X → Bool) (xs : List X) (x : X) → IsIn x xs → p x ≡ true →
    position_or_len p xs < length xs
first_within p [] x i t = absurd i
first_within {X} p (y ∷ ys) x i t = go (p y) refl (first_within p ys x) i
  where
    go : (b : Bool) → p y ≡ b → (IsIn x ys → p x ≡ true → position_or_len p ys < length ys) → IsIn x (y ∷ ys) →
        cond (not b) (1 + prefix_len (λ x. not (p x)) ys) 0 < suc (length ys)
    go true e ih j = omega arith
    go false e ih (inl q) = absurd (let z : p x ≡ p y = ap p q in cc)
    go false e ih (inr j) = let k = ih j t in omega arith

pub lowest_within : (hs : List ℕ) → 1 ≤ length hs → lowest_place hs < length hs
unfolding lowest_place
lowest_within [] le = absurd (omega arith)
lowest_within (h ∷ hs) le =
    let r = has_lowest h hs in
    first_within (λ g. list_all (nat_le g) (h ∷ hs)) (h ∷ hs) r.lowest r.is_in
    (all_from (nat_le r.lowest) (h ∷ hs) (λ x i. is_at_most r.lowest x (r.least x i)))

pub lowest_is : (hs : List ℕ) (h : ℕ) → IsIn h hs → slice_index_or hs (lowest_place hs) 0 ≤ h
unfolding lowest_place
lowest_is [] h i = absurd i
lowest_is (g ∷ gs) h i =
    let w = lowest_within (g ∷ gs) (omega arith) in
    at_most (slice_index_or (g ∷ gs) (lowest_place (g ∷ gs)) 0) h
    (all_at (nat_le (slice_index_or (g ∷ gs) (lowest_place (g ∷ gs)) 0)) (g ∷ gs) h
    (passes_at_first (λ g'. list_all (nat_le g') (g ∷ gs)) (g ∷ gs) 0 w) i)

-- and each before it is higher
pub earlier_is_higher : (hs : List ℕ) (k : ℕ) → k < lowest_place hs →
    slice_index_or hs (lowest_place hs) 0 < slice_index_or hs k 0
unfolding lowest_place
earlier_is_higher [] k lt = absurd (omega arith)
earlier_is_higher (g ∷ gs) k lt = elim (below_or_from (slice_index_or (g ∷ gs) (lowest_place (g ∷ gs)) 0)
    (slice_index_or (g ∷ gs) k 0)) [
      | inl q ↦ q
      | inr q ↦ absurd (
          let w = lowest_within (g ∷ gs) (omega arith) in
          let f : list_all (nat_le (slice_index_or (g ∷ gs) k 0)) (g ∷ gs) ≡ false = fails_before_first
          (λ g'. list_all (nat_le g') (g ∷ gs)) (g ∷ gs) k 0 lt in
          let t : list_all (nat_le (slice_index_or (g ∷ gs) k 0)) (g ∷ gs) ≡ true =
          all_from (nat_le (slice_index_or (g ∷ gs) k 0)) (g ∷ gs)
          (λ x i. is_at_most (slice_index_or (g ∷ gs) k 0) x (let z = lowest_is (g ∷ gs) x i in omega arith)) in
          cc)
    ]

-- ---- the best start
get_map_at : {X : Type 0} (f : X → ℕ) (xs : List X) (k : ℕ) (d : X) → k < length xs →
    slice_index_or (map f xs) k 0 ≡ f (slice_index_or xs k d)
get_map_at f [] k d lt = absurd (omega arith)
get_map_at f (x ∷ xs) zero d lt = refl
get_map_at f (x ∷ xs) (suc k) d lt = get_map_at f xs k d (omega arith)

pub six_starts : (I : Instance) → length (starts I) ≡ 6
unfolding starts orders
six_starts I = refl

pub best_place_within : (I : Instance) → lowest_place (map (layout_height I) (starts I)) < length (starts I)
best_place_within I = let n = length-map (starts I) (layout_height I) in let k = six_starts I in
    let w = lowest_within (map (layout_height I) (starts I)) (omega arith) in omega arith

pub best_start_is_start : (I : Instance) → IsIn (best_start I) (starts I)
unfolding best_start
best_start_is_start I = in_at (starts I) (lowest_place (map (layout_height I) (starts I))) [] (best_place_within I)

pub best_start_is_lowest : (I : Instance) (offsets : List ℕ) → IsIn offsets (starts I) →
    layout_height I (best_start I) ≤ layout_height I offsets
unfolding best_start
best_start_is_lowest I offsets i =
    let e = get_map_at (layout_height I) (starts I) (lowest_place (map (layout_height I) (starts I))) []
    (best_place_within I) in
    let k = lowest_is (map (layout_height I) (starts I)) (layout_height I offsets)
    (into_heights offsets (starts I) i) in
    omega arith
  where
    into_heights : (x : List ℕ) (xs : List (List ℕ)) → IsIn x xs → IsIn (layout_height I x) (map (layout_height I) xs)
    into_heights x [] i = i
    into_heights x (y ∷ ys) (inl q) = inl (ap (layout_height I) q)
    into_heights x (y ∷ ys) (inr i) = inr (into_heights x ys i)
