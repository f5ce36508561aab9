-- Least capacities and peaks of small instances.
use Rattle.std.proofs.Common.{◌≡◌, ℕ, ◌-◌, ◌≢◌, inl, inr, Bool, true, ◌&&◌, nat_le, nat_lt, List, [], ◌∷◌, slice_index_or, Some, None, refl, arith, map}
use Rattle.std.specs.List.{list_all}
use Rattle.dsa_terms.specs.Buffers.{Buffer, Instance, IsSound, IsInstance, is_live}
use Rattle.dsa_terms.specs.Claims.{IsIn}
use Rattle.dsa_terms.specs.Layouts.{IsLayout, IsLeast}
use Rattle.dsa_terms.specs.Parts.{numbers}
use Rattle.dsa_terms.specs.Plans.{load, IsPeak}
use Rattle.dsa_terms.specs.Starts.{planned}
use Rattle.dsa_terms.specs.Logs.{greatest}
use Rattle.dsa_terms.specs.Bounds.{bound_modulus, counted, heights, highest_at, highest_stack, least_of, lower_bound, moduli, moments, stack}
use Rattle.dsa_terms.proofs.Lists.{all_at}
use Rattle.dsa_terms.proofs.Moments.{and_true}
use Rattle.dsa_terms.proofs.Examples.{five, two_of_four, evens, filled, overrun, two_parts, small_below, made, low, lifted}
use Rattle.dsa_terms.proofs.ExamplePlanFacts.{five_plan_at_11, five_plan_at_12, two_of_four_plan_at_6, two_of_four_plan_at_7, evens_plan_at_4, evens_plan_at_5, filled_plan_at_3, filled_plan_at_4, overrun_plan_at_7, overrun_plan_at_8, two_parts_plan_at_4, two_parts_plan_at_5, small_below_plan_at_3, small_below_plan_at_4, made_plan_at_65, made_plan_at_66}
use Rattle.dsa_terms.proofs.ExampleLowFacts.{low_plan_at_9, low_plan_at_10, lifted_plan_at_4, lifted_plan_at_5}
use Rattle.dsa_terms.proofs.Places.{in_at}
use Rattle.dsa_terms.proofs.NumberTests.{at_most, less}
use Rattle.dsa_terms.proofs.Ranges.{into_range}
use Rattle.dsa_start_laws.specs.Reaching.{bound_height, bound_moment}
use Rattle.dsa_start_laws.proofs.Planned.{planned_is_layout, planned_none}
use Rattle.dsa_start_laws.proofs.Peaks.{load_under}

-- ---- instances
unfoldable are_sound : Instance → Bool
are_sound I = list_all (λ (b : Buffer). nat_le 1 b.size && (nat_le 1 b.alignment && nat_lt b.lower b.upper)) I

sound_from : (I : Instance) → are_sound I ≡ true → IsInstance I
unfolding are_sound
sound_from I h = λ k d lt. each (slice_index_or I k d) (in_at I k d lt)
  where
    each : (b : Buffer) → IsIn b I → IsSound b
    each b i =
        let a = and_true (nat_le 1 b.size) _
        (all_at (λ (b : Buffer). nat_le 1 b.size && (nat_le 1 b.alignment && nat_lt b.lower b.upper)) I b h i) in
        let c = and_true (nat_le 1 b.alignment) _ a.1 in
        (at_most 1 b.size a.0, at_most 1 b.alignment c.0, less b.lower b.upper c.1)

-- ---- least capacities: the plan has a layout there, and none at one less
least_by_plan : (I : Instance) (C : ℕ) (offsets : List ℕ) → are_sound I ≡ true → planned I (C - 1) ≡ None →
    planned I C ≡ Some offsets → IsLeast I C
least_by_plan I C offsets s none some = (
  (offsets, planned_is_layout I C offsets (sound_from I s) some),
  inr (planned_none I (C - 1) (sound_from I s) none),
)

five_least : IsLeast five 12
unfolding are_sound
five_least = least_by_plan five 12 (0 ∷ 0 ∷ 4 ∷ 0 ∷ 8 ∷ []) refl five_plan_at_11 five_plan_at_12

two_of_four_least : IsLeast two_of_four 7
unfolding are_sound
two_of_four_least = least_by_plan two_of_four 7 (0 ∷ 4 ∷ []) refl two_of_four_plan_at_6 two_of_four_plan_at_7

evens_least : IsLeast evens 5
unfolding are_sound
evens_least = least_by_plan evens 5 (2 ∷ 4 ∷ 0 ∷ []) refl evens_plan_at_4 evens_plan_at_5

filled_least : IsLeast filled 4
unfolding are_sound
filled_least = least_by_plan filled 4 (0 ∷ 0 ∷ []) refl filled_plan_at_3 filled_plan_at_4

overrun_least : IsLeast overrun 8
unfolding are_sound
overrun_least = least_by_plan overrun 8 (0 ∷ 4 ∷ []) refl overrun_plan_at_7 overrun_plan_at_8

two_parts_least : IsLeast two_parts 5
unfolding are_sound
two_parts_least = least_by_plan two_parts 5 (0 ∷ 2 ∷ 4 ∷ 0 ∷ []) refl two_parts_plan_at_4 two_parts_plan_at_5

small_below_least : IsLeast small_below 4
unfolding are_sound
small_below_least = least_by_plan small_below 4 (1 ∷ 0 ∷ []) refl small_below_plan_at_3 small_below_plan_at_4

made_least : IsLeast made 66
unfolding are_sound
made_least = least_by_plan made 66 (52 ∷ 0 ∷ []) refl made_plan_at_65 made_plan_at_66

-- where one may not stand below 6, and where one may not stand at 0
low_least : IsLeast low 10
unfolding are_sound
low_least = least_by_plan low 10 (6 ∷ 0 ∷ []) refl low_plan_at_9 low_plan_at_10

lifted_least : IsLeast lifted 5
unfolding are_sound
lifted_least = least_by_plan lifted 5 (2 ∷ 0 ∷ []) refl lifted_plan_at_4 lifted_plan_at_5

-- one more than the least capacity is not the least
evens_not_least : IsLeast evens 6 → ⊥
unfolding are_sound
evens_not_least h = elim h.1 [
  | inl z ↦ omega arith
  | inr f ↦ f (2 ∷ 4 ∷ 0 ∷ []) (planned_is_layout evens 5 (2 ∷ 4 ∷ 0 ∷ []) (sound_from evens refl) evens_plan_at_5)
]

-- two buffers, one of which is live in the other's gap alone, have one place
filled_layout : IsLayout filled 4 (0 ∷ 0 ∷ [])
unfolding are_sound
filled_layout = planned_is_layout filled 4 (0 ∷ 0 ∷ []) (sound_from filled refl) filled_plan_at_4

-- ---- peaks: no load is above it, and each earlier one is below it
peak_from : (I : Instance) (t : ℕ) → I ≢ [] → greatest (map (load I) (moments I)) ≡ load I t →
    list_all (λ s. nat_lt (load I s) (load I t)) (numbers t) ≡ true → IsPeak I t
peak_from I t some top before = record {
  not_empty = some;
  most = λ s. let a = load_under I s in omega arith;
  earliest = λ s lt. less (load I s) (load I t)
      (all_at (λ s. nat_lt (load I s) (load I t)) (numbers t) s before (into_range t 0 s (omega arith) (omega arith)));
}

five_peak : IsPeak five 0
unfolding moments load is_live
five_peak = peak_from five 0 (λ q. cc) refl refl

evens_peak : IsPeak evens 0
unfolding moments load is_live
evens_peak = peak_from evens 0 (λ q. cc) refl refl

filled_peak : IsPeak filled 0
unfolding moments load is_live
filled_peak = peak_from filled 0 (λ q. cc) refl refl

overrun_peak : IsPeak overrun 6
unfolding moments load is_live
overrun_peak = peak_from overrun 6 (λ q. cc) refl refl

two_parts_peak : IsPeak two_parts 2
unfolding moments load is_live
two_parts_peak = peak_from two_parts 2 (λ q. cc) refl refl

made_peak : IsPeak made 2
unfolding moments load is_live
made_peak = peak_from made 2 (λ q. cc) refl refl

-- ---- no buffers have the height 0 for their bound
none_height : bound_height [] [] ≡ 0
unfolding bound_height bound_moment bound_modulus least_of lower_bound highest_stack highest_at heights moduli moments
    stack counted
none_height = refl
