-- Below the height of the best start there is no start, and at it the plan is the best start.
use Rattle.std.proofs.Common.{◌≡◌, ℕ, zero, suc, ◌<◌, inl, inr, Bool, true, false, List, [], ◌∷◌, map, length, find, slice_index_or, Some, None, refl, arith}
use Rattle.std.proofs.lemmas.List.{get_or-map}
use Rattle.dsa_terms.specs.Buffers.{Instance}
use Rattle.dsa_terms.specs.Parts.{searched}
use Rattle.dsa_terms.specs.Plans.{layout_height, plan}
use Rattle.dsa_terms.specs.Starts.{best_start, lowest_place, planned, starts}
use Rattle.dsa_terms.proofs.Lists.{none_or_some, none_found}
use Rattle.dsa_terms.proofs.NumberTests.{above, is_at_most, not_at_most}
use Rattle.dsa_search_laws.proofs.Plans.{found_under, is_under}
use Rattle.dsa_start_laws.proofs.Planned.{best_place_within, best_start_is_lowest, best_start_is_start, earlier_is_higher}
use Rattle.dsa_start_laws.proofs.Stacks.{found_in}
use Rattle.planner.specs.FirstStart.{start_within}

-- the first item that passes, at a place before which none does
found_at : {X : Type 0} (p : X → Bool) (xs : List X) (n : ℕ) (d : X) → n < length xs →
    p (slice_index_or xs n d) ≡ true → ((k : ℕ) → k < n → p (slice_index_or xs k d) ≡ false) →
    find p xs ≡ Some (slice_index_or xs n d)
found_at p [] n d lt t f = absurd (omega arith)
found_at p (x ∷ xs) zero d lt t f = rw t refl
found_at p (x ∷ xs) (suc n) d lt t f =
    let e : p x ≡ false = f 0 (omega arith) in
    rw e (found_at p xs n d (omega arith) t (λ k l. f (suc k) (omega arith)))

-- ---- below the best start
pub past_starts : (I : Instance) (C : ℕ) → start_within I C ≡ None → C < layout_height I (best_start I)
past_starts I C none =
    above (layout_height I (best_start I)) C
    (none_found (is_under I C) (starts I) (best_start I) none (best_start_is_start I))

pub below_starts : (I : Instance) (C : ℕ) → C < layout_height I (best_start I) → start_within I C ≡ None
below_starts I C lt = elim (none_or_some (start_within I C)) [
  | inl none ↦ none
  | inr found ↦ absurd (
      let h = found_under I C (starts I) found.0 found.1 in
      let k = best_start_is_lowest I found.0 (found_in (is_under I C) (starts I) found.0 found.1) in
      omega arith)
]

pub planned_below : (I : Instance) (C : ℕ) → C < layout_height I (best_start I) → planned I C ≡ searched I C
unfolding planned plan
planned_below I C lt = let e = below_starts I C lt in rw e refl

-- ---- at the best start
higher_before : (I : Instance) (k : ℕ) → k < lowest_place (map (layout_height I) (starts I)) →
    layout_height I (best_start I) < layout_height I (slice_index_or (starts I) k [])
unfolding best_start
higher_before I k lt =
    let n = lowest_place (map (layout_height I) (starts I)) in
    let w = best_place_within I in
    let a = get_or-map (layout_height I) (starts I) n [] 0 w in
    let b = get_or-map (layout_height I) (starts I) k [] 0 (omega arith) in
    let h = earlier_is_higher (map (layout_height I) (starts I)) k lt in
    omega arith

best_is_first : (I : Instance) → start_within I (layout_height I (best_start I)) ≡ Some (best_start I)
unfolding best_start
best_is_first I =
    found_at (is_under I (layout_height I (best_start I))) (starts I)
    (lowest_place (map (layout_height I) (starts I))) []
    (best_place_within I)
    at_best
    (λ k lt. not_at_most (layout_height I (slice_index_or (starts I) k [])) (layout_height I (best_start I))
    (higher_before I k lt))
  where
    at_best : is_under I (layout_height I (best_start I))
        (slice_index_or (starts I) (lowest_place (map (layout_height I) (starts I))) []) ≡ true
    at_best = is_at_most (layout_height I (best_start I)) (layout_height I (best_start I)) (omega arith)

pub planned_at_best : (I : Instance) → planned I (layout_height I (best_start I)) ≡ Some (best_start I)
unfolding planned plan
planned_at_best I = let e = best_is_first I in rw e refl
