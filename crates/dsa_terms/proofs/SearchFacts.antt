-- The steps of the search: which entries are taken and in which order, its seats, its work and its hunt.
use Rattle.std.proofs.Common.{◌≡◌, ℕ, ◌+◌, ◌*◌, ◌==◌, true, false, [], ◌∷◌, map, slice_get, Some, None, refl}
use Rattle.dsa_terms.specs.Buffers.{is_live, buffer, do_share, have_same_moments, some_before}
use Rattle.dsa_terms.specs.Claims.{Entry, Claim, up, step, child}
use Rattle.dsa_terms.specs.Logs.{ends_below, is_twin}
use Rattle.dsa_terms.specs.Sorts.{put_by}
use Rattle.dsa_terms.specs.Search.{is_tall, comes_before, first_some, seated, not_excluded, choices, first_of, first, work_through, work_of, work}
use Rattle.dsa_terms.specs.Parts.{is_cut, part_of, parts, searched, whole_work, is_leader, are_parted, are_uncut}
use Rattle.dsa_terms.specs.Plans.{layout_height, plan, after_plan, hunt_within}
use Rattle.dsa_terms.proofs.Examples.{evens}

-- two of size 1 at even offsets and one of size 2, all with the bound 0
abbrev all_three : Claim
all_three = (0, 0) ∷ (1, 0) ∷ (2, 0) ∷ []

-- an up of 2 goes behind one of 0, and before an equal up with a greater number
put_between : put_by (comes_before evens) (0, 1) ((1, 0) ∷ (2, 2) ∷ []) ≡ (1, 0) ∷ (0, 1) ∷ (2, 2) ∷ []
unfolding comes_before up buffer
put_between = refl

-- the first place that the list has
first_answer : first_some {X = ℕ} {Y = ℕ} (slice_get (5 ∷ 6 ∷ [])) (3 ∷ 1 ∷ 0 ∷ []) ≡ Some 6
first_answer = refl

no_answer : first_some {X = ℕ} {Y = ℕ} (slice_get (5 ∷ 6 ∷ [])) (3 ∷ 2 ∷ []) ≡ None
no_answer = refl

-- the chosen buffer stands at the up of its bound 1, the other where it was seated
seat_at_up : seated evens ((1, 1) ∷ (2, 1) ∷ []) (1, 1) (Some ((2, 3) ∷ [])) ≡ Some ((1, 2) ∷ (2, 3) ∷ [])
unfolding up buffer
seat_at_up = refl

no_seat : seated evens ((1, 1) ∷ (2, 1) ∷ []) (1, 1) None ≡ None
no_seat = refl

-- ---- which are taken: 1 has the twin 0
without_twin : map (not_excluded evens all_three) all_three ≡ true ∷ false ∷ true ∷ []
unfolding ends_below is_twin have_same_moments some_before is_live up buffer
without_twin = refl

-- 2 ends at the up of 1, which is 4, and above its bound
without_below : map (not_excluded evens ((1, 3) ∷ (2, 2) ∷ [])) ((1, 3) ∷ (2, 2) ∷ []) ≡ false ∷ true ∷ []
unfolding ends_below is_twin have_same_moments some_before is_live up buffer
without_below = refl

-- by the ups 2, 2 and 1
two_choices : choices evens (not_excluded evens) ((0, 1) ∷ (1, 2) ∷ (2, 1) ∷ []) ≡ (2, 1) ∷ (0, 1) ∷ []
unfolding comes_before ends_below is_twin have_same_moments some_before is_live up buffer
two_choices = refl

-- ---- answers and work: one claim is looked at where there are no buffers
first_of_three : first_of (not_excluded evens) 3 evens 5 all_three ≡ Some ((0, 0) ∷ (1, 4) ∷ (2, 1) ∷ [])
unfolding is_tall comes_before ends_below is_twin child up step have_same_moments do_share some_before is_live buffer
first_of_three = refl

none_of_three : first_of (not_excluded evens) 3 evens 4 all_three ≡ None
unfolding is_tall comes_before ends_below is_twin child up step have_same_moments do_share some_before is_live buffer
none_of_three = refl

-- works of 3 and 4, up to the entry that is found, and 5 too where none is
work_to_found : work_through (λ (e : Entry). e.1) (λ e. e.0 == 2) ((1, 3) ∷ (2, 4) ∷ (3, 5) ∷ []) ≡ 7
work_to_found = refl

work_of_all : work_through (λ (e : Entry). e.1) (λ e. e.0 == 9) ((1, 3) ∷ (2, 4) ∷ (3, 5) ∷ []) ≡ 12
work_of_all = refl

work_of_none : work_of 0 evens 4 [] ≡ 1
work_of_none = refl

-- a buffer of size 2 at 3 is tall at 4, and at 2 it leaves one more claim to look at
work_of_tall : work_of 1 evens 4 ((2, 3) ∷ []) ≡ 1
unfolding is_tall up buffer
work_of_tall = refl

work_of_one : work_of 1 evens 4 ((2, 2) ∷ []) ≡ 2
unfolding is_tall comes_before ends_below is_twin child up step have_same_moments do_share some_before is_live buffer
work_of_one = refl

work_of_three : work_of 3 evens 4 all_three ≡ 6
unfolding is_tall comes_before ends_below is_twin child up step have_same_moments do_share some_before is_live buffer
work_of_three = refl

-- ---- the hunt in 4..9 after its middle 6: on to 7..9 without a layout, and to 4..5 below one of height 5
hunt_above : after_plan (λ a b. 10 * a + b) evens 4 9 6 None ≡ 79
hunt_above = refl

hunt_below : after_plan (λ a b. 10 * a + b) evens 4 9 6 (Some (2 ∷ 4 ∷ 0 ∷ [])) ≡ 45
unfolding layout_height buffer
hunt_below = refl

-- between 4 and 5 there is the work at 4; a bracket that has met has none, nor has a hunt of length 0
hunt_at_4 : hunt_within 1 [] evens 4 5 ≡ 6
unfolding whole_work work plan layout_height searched parts part_of is_leader are_uncut are_parted is_cut first
    is_tall comes_before ends_below is_twin child up step have_same_moments do_share some_before is_live buffer
hunt_at_4 = refl

hunt_that_met : hunt_within 3 [] evens 5 5 ≡ 0
hunt_that_met = refl

hunt_of_length_0 : hunt_within 0 [] evens 4 5 ≡ 0
hunt_of_length_0 = refl

-- a start of height 5 is the plan at 8: 5 claims at 8, and then the 6 at 4
hunt_below_start : hunt_within 9 ((2 ∷ 4 ∷ 0 ∷ []) ∷ []) evens 4 9 ≡ 10
unfolding whole_work work plan layout_height searched parts part_of is_leader are_uncut are_parted is_cut first
    is_tall comes_before ends_below is_twin child up step have_same_moments do_share some_before is_live buffer
hunt_below_start = refl
