-- What layouts, starts, plans and bounds come to where offsets may not be below a lowest.
use Rattle.std.proofs.Common.{◌≡◌, ℕ, zero, suc, true, false, ◌+◌, ◌<◌, ◌≤◌, ◌≢◌, inl, inr, [], ◌∷◌, map, slice_index, Some, None, refl, arith}
use Rattle.dsa_terms.specs.Buffers.{IsLive, is_live, buffer, do_share, have_same_moments, some_before, floor}
use Rattle.dsa_terms.specs.Layouts.{IsMultiple, IsApart, IsLayout, IsInfeasible}
use Rattle.dsa_terms.specs.Claims.{IsWhole, up, step, child}
use Rattle.dsa_terms.specs.Logs.{ends_below, is_twin, Over, is_stacked, rounded, rounding}
use Rattle.dsa_terms.specs.Search.{is_tall, comes_before, first, work}
use Rattle.dsa_terms.specs.Parts.{is_cut, part_of, parts, whole, searched, whole_work, is_leader, are_parted, are_uncut}
use Rattle.dsa_terms.specs.Plans.{layout_height, plan, hunt}
use Rattle.dsa_terms.specs.Fits.{top, highest, neighbours, is_free, FitRule, first_place, stretches, free_ranges, least_from, holds, is_tighter, best_place, first_fit, best_fit, is_clear}
use Rattle.dsa_terms.specs.Orders.{falls_by, rises_by, orders}
use Rattle.dsa_terms.specs.Starts.{starts, planned, hunted}
use Rattle.dsa_terms.specs.Bounds.{counted, stack, moduli, heights, moments, highest_at, highest_stack, lower_bound, line_height, stack_line, stack_log}
use Rattle.dsa_terms.proofs.Examples.{plain, raised, low, lifted, high_fours, tied}

-- 5 and 8 are the least multiples of four at or above 5 and 6
floors : map floor (raised 4 1 6 1 ∷ raised 3 4 5 2 ∷ plain 0 1 4 1 ∷ []) ≡ 6 ∷ 8 ∷ 0 ∷ []
unfolding floor
floors = refl

-- ---- layouts
low_layout : IsLayout low 10 (6 ∷ 0 ∷ [])
unfolding buffer
low_layout = record { count = refl; aligned = aligned; above = above; within = within; apart = apart }
  where
    aligned : (b : ℕ) → b < 2 → IsMultiple (slice_index (6 ∷ 0 ∷ []) b) (buffer low b).alignment
    aligned zero lt = refl
    aligned (suc zero) lt = refl
    aligned (suc (suc b)) lt = absurd (omega arith)

    above : (b : ℕ) → b < 2 → (buffer low b).lowest ≤ slice_index (6 ∷ 0 ∷ []) b
    above zero lt = omega arith
    above (suc zero) lt = omega arith
    above (suc (suc b)) lt = absurd (omega arith)

    within : (b : ℕ) → b < 2 → slice_index (6 ∷ 0 ∷ []) b + (buffer low b).size ≤ 10
    within zero lt = omega arith
    within (suc zero) lt = omega arith
    within (suc (suc b)) lt = absurd (omega arith)

    apart : (b c t : ℕ) → b < 2 → c < 2 → b ≢ c → IsLive (buffer low b) t → IsLive (buffer low c) t →
        IsApart (buffer low b) (slice_index (6 ∷ 0 ∷ []) b) (buffer low c) (slice_index (6 ∷ 0 ∷ []) c)
    apart zero zero t l m n p q = absurd (n refl)
    apart zero (suc zero) t l m n p q = inr (omega arith)
    apart (suc zero) zero t l m n p q = inl (omega arith)
    apart (suc zero) (suc zero) t l m n p q = absurd (n refl)
    apart (suc (suc b)) c t l m n p q = absurd (omega arith)
    apart b (suc (suc c)) t l m n p q = absurd (omega arith)

-- the first may not stand at 5, and from 6 on it reaches 10
too_low : IsLayout low 10 (5 ∷ 0 ∷ []) → ⊥
unfolding buffer
too_low l = let h = l.above 0 (omega arith) in omega arith

low_at_9 : IsInfeasible low 9
unfolding buffer
low_at_9 offsets l =
    let a = l.above 0 (omega arith) in
    let w = l.within 0 (omega arith) in
    omega arith

-- ---- the whole claim has each lowest, and a claim is whole up to the floors
low_whole : whole low (0 ∷ 1 ∷ []) ≡ (0, 6) ∷ (1, 0) ∷ []
unfolding buffer
low_whole = refl

-- the lowest, and not the floor
fours_whole : whole high_fours (0 ∷ 2 ∷ []) ≡ (0, 5) ∷ (2, 0) ∷ []
unfolding buffer
fours_whole = refl

-- but the up of each of its entries is the floor
fours_ups : map (up high_fours) (whole high_fours (0 ∷ 1 ∷ 2 ∷ [])) ≡ 8 ∷ 8 ∷ 0 ∷ []
unfolding up buffer
fours_ups = refl

fours_are_whole : IsWhole high_fours ((0, 8) ∷ (2, 0) ∷ [])
unfolding buffer floor
fours_are_whole e (inl q) = rw q (omega arith)
fours_are_whole e (inr (inl q)) = rw q (omega arith)
fours_are_whole e (inr (inr i)) = absurd i

past_the_floor : IsWhole high_fours ((0, 9) ∷ []) → ⊥
unfolding buffer floor
past_the_floor w = let h = w (0, 9) (inl refl) in omega arith

-- ---- where the starts put a buffer: from its lowest on in a range, past the placed, and alone
first_from_lowest : map (λ lowest. first_place (raised 1 1 lowest 1 ∷ plain 0 1 1 1 ∷ []) 0 ((1, 3) ∷ []))
    (0 ∷ 2 ∷ 3 ∷ 7 ∷ []) ≡ 0 ∷ 2 ∷ 4 ∷ 7 ∷ []
unfolding first_place is_clear least_from is_free highest top buffer
first_from_lowest = refl

best_from_lowest : map (λ lowest. best_place (raised 1 1 lowest 1 ∷ plain 0 1 1 1 ∷ []) 0 ((1, 3) ∷ []))
    (0 ∷ 2 ∷ 3 ∷ 7 ∷ []) ≡ 0 ∷ 2 ∷ 4 ∷ 7 ∷ []
unfolding best_place free_ranges stretches holds least_from is_tighter is_free highest top buffer
best_from_lowest = refl

-- a range holds by what is left above the lowest: 1..5 leaves 3..5 to one from 3 on, which has no room for size 3
room_above_lowest :
    map (λ size. holds (raised size 1 3 1 ∷ []) 0 (record { start = 1; stop = 5 })) (2 ∷ 3 ∷ []) ≡ true ∷ false ∷ []
unfolding holds least_from buffer
room_above_lowest = refl

-- and of two that hold the shorter is taken, though it leaves more above
shorter_from_lowest :
    best_place (raised 1 1 3 1 ∷ plain 0 1 1 1 ∷ plain 0 1 1 1 ∷ []) 0 ((1, 5) ∷ (2, 8) ∷ []) ≡ 6
unfolding best_place free_ranges stretches holds least_from is_tighter is_free highest top buffer
shorter_from_lowest = refl

alone_at_floor : map (λ (rule : FitRule). rule high_fours 0 []) (first_place ∷ best_place ∷ []) ≡ 8 ∷ 8 ∷ []
unfolding first_place is_clear best_place free_ranges stretches holds least_from is_tighter is_free highest top
    buffer
alone_at_floor = refl

low_starts :
    starts low
    ≡ (6 ∷ 0 ∷ []) ∷ (6 ∷ 0 ∷ []) ∷ (6 ∷ 0 ∷ []) ∷ (6 ∷ 0 ∷ []) ∷ (6 ∷ 0 ∷ []) ∷ (6 ∷ 0 ∷ []) ∷ []
unfolding starts orders falls_by rises_by first_fit best_fit neighbours first_place is_clear best_place free_ranges
    stretches holds least_from is_tighter is_free highest top do_share some_before is_live buffer
low_starts = refl

-- each start has height 6, and the search finds 5
lifted_starts :
    starts lifted
    ≡ (1 ∷ 4 ∷ []) ∷ (1 ∷ 4 ∷ []) ∷ (1 ∷ 4 ∷ []) ∷ (1 ∷ 4 ∷ []) ∷ (1 ∷ 4 ∷ []) ∷ (1 ∷ 4 ∷ []) ∷ []
unfolding starts orders falls_by rises_by first_fit best_fit neighbours first_place is_clear best_place free_ranges
    stretches holds least_from is_tighter is_free highest top do_share some_before is_live buffer
lifted_starts = refl

lifted_heights : map (layout_height lifted) (starts lifted) ≡ 6 ∷ 6 ∷ 6 ∷ 6 ∷ 6 ∷ 6 ∷ []
unfolding layout_height starts orders falls_by rises_by first_fit best_fit neighbours first_place is_clear
    best_place free_ranges stretches holds least_from is_tighter is_free highest top do_share some_before is_live
    buffer
lifted_heights = refl

-- ---- plans and hunts
pub low_plan_at_9 : planned low 9 ≡ None
unfolding planned plan layout_height starts orders falls_by rises_by first_fit best_fit neighbours first_place
    is_clear best_place free_ranges stretches holds least_from is_tighter is_free highest top do_share some_before
    is_live buffer searched parts part_of is_leader are_uncut are_parted is_cut first is_tall comes_before ends_below
    is_twin child up step have_same_moments
low_plan_at_9 = refl

pub low_plan_at_10 : planned low 10 ≡ Some (6 ∷ 0 ∷ [])
unfolding planned plan layout_height starts orders falls_by rises_by first_fit best_fit neighbours first_place
    is_clear best_place free_ranges stretches holds least_from is_tighter is_free highest top do_share some_before
    is_live buffer searched parts part_of is_leader are_uncut are_parted is_cut first is_tall comes_before ends_below
    is_twin child up step have_same_moments
low_plan_at_10 = refl

pub lifted_plan_at_4 : planned lifted 4 ≡ None
unfolding planned plan layout_height starts orders falls_by rises_by first_fit best_fit neighbours first_place
    is_clear best_place free_ranges stretches holds least_from is_tighter is_free highest top do_share some_before
    is_live buffer searched parts part_of is_leader are_uncut are_parted is_cut first is_tall comes_before ends_below
    is_twin child up step have_same_moments
lifted_plan_at_4 = refl

pub lifted_plan_at_5 : planned lifted 5 ≡ Some (2 ∷ 0 ∷ [])
unfolding planned plan layout_height starts orders falls_by rises_by first_fit best_fit neighbours first_place
    is_clear best_place free_ranges stretches holds least_from is_tighter is_free highest top do_share some_before
    is_live buffer searched parts part_of is_leader are_uncut are_parted is_cut first is_tall comes_before ends_below
    is_twin child up step have_same_moments
lifted_plan_at_5 = refl

pub lifted_plan_at_6 : planned lifted 6 ≡ Some (1 ∷ 4 ∷ [])
unfolding planned plan layout_height starts orders falls_by rises_by first_fit best_fit neighbours first_place
    is_clear best_place free_ranges stretches holds least_from is_tighter is_free highest top do_share some_before
    is_live buffer searched parts part_of is_leader are_uncut are_parted is_cut first is_tall comes_before ends_below
    is_twin child up step have_same_moments
lifted_plan_at_6 = refl

-- at 5 the first choice is 1, at 0, and then 0, at 2
lifted_work : map (whole_work lifted) (4 ∷ 5 ∷ []) ≡ 3 ∷ 3 ∷ []
unfolding whole_work work parts part_of is_leader are_uncut are_parted is_cut first is_tall comes_before ends_below
    is_twin child up step have_same_moments do_share some_before is_live buffer
lifted_work = refl

lifted_hunt : hunted lifted 5 6 ≡ 3
unfolding hunted hunt planned plan layout_height starts orders falls_by rises_by first_fit best_fit neighbours
    first_place is_clear best_place free_ranges stretches holds least_from is_tighter is_free highest top do_share
    some_before is_live buffer searched parts part_of is_leader are_uncut are_parted is_cut first is_tall
    comes_before ends_below is_twin child up step have_same_moments whole_work work
lifted_hunt = refl

-- ---- bounds, with their modulus, moment and height
low_bound : lower_bound low ≡ 10
unfolding lower_bound highest_stack highest_at heights floor stack counted is_stacked rounded rounding up moduli
    moments is_live buffer
low_bound = refl

low_at_0 : map (λ H. stack low 0 H 1) (0 ∷ 6 ∷ 7 ∷ []) ≡ 8 ∷ 10 ∷ 0 ∷ []
unfolding stack counted is_stacked rounded rounding up is_live buffer
low_at_0 = refl

lifted_bound : lower_bound lifted ≡ 5
unfolding lower_bound highest_stack highest_at heights floor stack counted is_stacked rounded rounding up moduli
    moments is_live buffer
lifted_bound = refl

-- 8 + 4 + 4 - 1 by the modulus 4, and 8 + 3 + 3 by 1
fours_heights : map (heights high_fours) (1 ∷ 4 ∷ 3 ∷ []) ≡ (0 ∷ 8 ∷ 8 ∷ 0 ∷ []) ∷ (0 ∷ 8 ∷ 8 ∷ 0 ∷ []) ∷ (0 ∷ 0 ∷ []) ∷
    []
unfolding heights floor
fours_heights = refl

fours_stacks : map (highest_stack high_fours) (1 ∷ 4 ∷ []) ≡ 14 ∷ 15 ∷ []
unfolding highest_stack highest_at heights floor stack counted is_stacked rounded rounding up moments is_live buffer
fours_stacks = refl

-- ---- the logs of bounds: the height is the least with which the line is legal
low_log_at_9 :
    stack_log low 0 6 1 9 ≡ record { count = 2; capacity = 9; lines = Over ((0, 6) ∷ []) 0 6 1 ∷ []; final = 0 }
unfolding stack_log stack_line line_height counted is_stacked rounded rounding up is_live buffer
low_log_at_9 = refl

low_log_at_5 :
    stack_log low 0 6 1 5 ≡ record { count = 2; capacity = 5; lines = Over ((0, 2) ∷ []) 0 2 1 ∷ []; final = 0 }
unfolding stack_log stack_line line_height counted is_stacked rounded rounding up is_live buffer
low_log_at_5 = refl

lifted_log_at_4 :
    stack_log lifted 0 0 1 4
    ≡ record { count = 2; capacity = 4; lines = Over ((0, 0) ∷ (1, 0) ∷ []) 0 0 1 ∷ []; final = 0 }
unfolding stack_log stack_line line_height counted is_stacked rounded rounding up is_live buffer
lifted_log_at_4 = refl

-- at 10 the pile of 7 has to stand at 4 or above, at 14 at 8 and at 6 at 0
fours_line_heights : map (line_height high_fours 0 8 4) (14 ∷ 11 ∷ 10 ∷ 9 ∷ 7 ∷ 6 ∷ []) ≡ 8 ∷ 8 ∷ 4 ∷ 4 ∷ 4 ∷ 0 ∷ []
unfolding line_height counted is_stacked rounded rounding up is_live buffer
fours_line_heights = refl

tied_log_at_7 :
    stack_log tied 0 0 1 7
    ≡ record { count = 2; capacity = 7; lines = Over ((0, 0) ∷ (1, 0) ∷ []) 0 0 1 ∷ []; final = 0 }
unfolding stack_log stack_line line_height counted is_stacked rounded rounding up is_live buffer
tied_log_at_7 = refl
