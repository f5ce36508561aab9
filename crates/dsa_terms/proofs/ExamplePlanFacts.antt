-- What plans and hunts come to on small instances.
use Rattle.std.proofs.Common.{◌≡◌, [], ◌∷◌, Some, None, refl}
use Rattle.dsa_terms.specs.Buffers.{is_live, buffer, do_share, have_same_moments, some_before}
use Rattle.dsa_terms.specs.Claims.{up, step, child}
use Rattle.dsa_terms.specs.Logs.{ends_below, is_twin}
use Rattle.dsa_terms.specs.Search.{is_tall, comes_before, first, work}
use Rattle.dsa_terms.specs.Parts.{is_cut, part_of, parts, searched, whole_work, is_leader, are_parted, are_uncut}
use Rattle.dsa_terms.specs.Plans.{layout_height, plan, hunt}
use Rattle.dsa_terms.specs.Fits.{top, highest, neighbours, is_free, first_place, stretches, free_ranges, holds, is_tighter, best_place, first_fit, best_fit, least_from, is_clear}
use Rattle.dsa_terms.specs.Orders.{falls_by, rises_by, orders}
use Rattle.dsa_terms.specs.Starts.{starts, planned, hunted}
use Rattle.dsa_terms.proofs.Examples.{five, two_of_four, evens, filled, overrun, two_parts, small_below, made}

-- ---- plans
pub five_plan_at_11 : planned five 11 ≡ None
unfolding planned plan layout_height starts orders falls_by rises_by first_fit best_fit neighbours first_place
    is_clear best_place free_ranges stretches holds least_from is_tighter is_free highest top do_share some_before
    is_live buffer searched parts part_of is_leader are_uncut are_parted is_cut first is_tall comes_before ends_below
    is_twin child up step have_same_moments
five_plan_at_11 = refl

pub five_plan_at_12 : planned five 12 ≡ Some (0 ∷ 0 ∷ 4 ∷ 0 ∷ 8 ∷ [])
unfolding planned plan layout_height starts orders falls_by rises_by first_fit best_fit neighbours first_place
    is_clear best_place free_ranges stretches holds least_from is_tighter is_free highest top do_share some_before
    is_live buffer searched parts part_of is_leader are_uncut are_parted is_cut first is_tall comes_before ends_below
    is_twin child up step have_same_moments
five_plan_at_12 = refl

pub two_of_four_plan_at_6 : planned two_of_four 6 ≡ None
unfolding planned plan layout_height starts orders falls_by rises_by first_fit best_fit neighbours first_place
    is_clear best_place free_ranges stretches holds least_from is_tighter is_free highest top do_share some_before
    is_live buffer searched parts part_of is_leader are_uncut are_parted is_cut first is_tall comes_before ends_below
    is_twin child up step have_same_moments
two_of_four_plan_at_6 = refl

pub two_of_four_plan_at_7 : planned two_of_four 7 ≡ Some (0 ∷ 4 ∷ [])
unfolding planned plan layout_height starts orders falls_by rises_by first_fit best_fit neighbours first_place
    is_clear best_place free_ranges stretches holds least_from is_tighter is_free highest top do_share some_before
    is_live buffer searched parts part_of is_leader are_uncut are_parted is_cut first is_tall comes_before ends_below
    is_twin child up step have_same_moments
two_of_four_plan_at_7 = refl

pub evens_plan_at_4 : planned evens 4 ≡ None
unfolding planned plan layout_height starts orders falls_by rises_by first_fit best_fit neighbours first_place
    is_clear best_place free_ranges stretches holds least_from is_tighter is_free highest top do_share some_before
    is_live buffer searched parts part_of is_leader are_uncut are_parted is_cut first is_tall comes_before ends_below
    is_twin child up step have_same_moments
evens_plan_at_4 = refl

-- the first start, and not the search's answer, which is 0, 4, 1
pub evens_plan_at_5 : planned evens 5 ≡ Some (2 ∷ 4 ∷ 0 ∷ [])
unfolding planned plan layout_height starts orders falls_by rises_by first_fit best_fit neighbours first_place
    is_clear best_place free_ranges stretches holds least_from is_tighter is_free highest top do_share some_before
    is_live buffer searched parts part_of is_leader are_uncut are_parted is_cut first is_tall comes_before ends_below
    is_twin child up step have_same_moments
evens_plan_at_5 = refl

pub filled_plan_at_3 : planned filled 3 ≡ None
unfolding planned plan layout_height starts orders falls_by rises_by first_fit best_fit neighbours first_place
    is_clear best_place free_ranges stretches holds least_from is_tighter is_free highest top do_share some_before
    is_live buffer searched parts part_of is_leader are_uncut are_parted is_cut first is_tall comes_before ends_below
    is_twin child up step have_same_moments
filled_plan_at_3 = refl

pub filled_plan_at_4 : planned filled 4 ≡ Some (0 ∷ 0 ∷ [])
unfolding planned plan layout_height starts orders falls_by rises_by first_fit best_fit neighbours first_place
    is_clear best_place free_ranges stretches holds least_from is_tighter is_free highest top do_share some_before
    is_live buffer searched parts part_of is_leader are_uncut are_parted is_cut first is_tall comes_before ends_below
    is_twin child up step have_same_moments
filled_plan_at_4 = refl

pub overrun_plan_at_7 : planned overrun 7 ≡ None
unfolding planned plan layout_height starts orders falls_by rises_by first_fit best_fit neighbours first_place
    is_clear best_place free_ranges stretches holds least_from is_tighter is_free highest top do_share some_before
    is_live buffer searched parts part_of is_leader are_uncut are_parted is_cut first is_tall comes_before ends_below
    is_twin child up step have_same_moments
overrun_plan_at_7 = refl

pub overrun_plan_at_8 : planned overrun 8 ≡ Some (0 ∷ 4 ∷ [])
unfolding planned plan layout_height starts orders falls_by rises_by first_fit best_fit neighbours first_place
    is_clear best_place free_ranges stretches holds least_from is_tighter is_free highest top do_share some_before
    is_live buffer searched parts part_of is_leader are_uncut are_parted is_cut first is_tall comes_before ends_below
    is_twin child up step have_same_moments
overrun_plan_at_8 = refl

pub two_parts_plan_at_4 : planned two_parts 4 ≡ None
unfolding planned plan layout_height starts orders falls_by rises_by first_fit best_fit neighbours first_place
    is_clear best_place free_ranges stretches holds least_from is_tighter is_free highest top do_share some_before
    is_live buffer searched parts part_of is_leader are_uncut are_parted is_cut first is_tall comes_before ends_below
    is_twin child up step have_same_moments
two_parts_plan_at_4 = refl

pub two_parts_plan_at_5 : planned two_parts 5 ≡ Some (0 ∷ 2 ∷ 4 ∷ 0 ∷ [])
unfolding planned plan layout_height starts orders falls_by rises_by first_fit best_fit neighbours first_place
    is_clear best_place free_ranges stretches holds least_from is_tighter is_free highest top do_share some_before
    is_live buffer searched parts part_of is_leader are_uncut are_parted is_cut first is_tall comes_before ends_below
    is_twin child up step have_same_moments
two_parts_plan_at_5 = refl

pub small_below_plan_at_3 : planned small_below 3 ≡ None
unfolding planned plan layout_height starts orders falls_by rises_by first_fit best_fit neighbours first_place
    is_clear best_place free_ranges stretches holds least_from is_tighter is_free highest top do_share some_before
    is_live buffer searched parts part_of is_leader are_uncut are_parted is_cut first is_tall comes_before ends_below
    is_twin child up step have_same_moments
small_below_plan_at_3 = refl

-- a search that beats every start
pub small_below_plan_at_4 : planned small_below 4 ≡ Some (1 ∷ 0 ∷ [])
unfolding planned plan layout_height starts orders falls_by rises_by first_fit best_fit neighbours first_place
    is_clear best_place free_ranges stretches holds least_from is_tighter is_free highest top do_share some_before
    is_live buffer searched parts part_of is_leader are_uncut are_parted is_cut first is_tall comes_before ends_below
    is_twin child up step have_same_moments
small_below_plan_at_4 = refl

pub small_below_plan_at_5 : planned small_below 5 ≡ Some (0 ∷ 4 ∷ [])
unfolding planned plan layout_height starts orders falls_by rises_by first_fit best_fit neighbours first_place
    is_clear best_place free_ranges stretches holds least_from is_tighter is_free highest top do_share some_before
    is_live buffer searched parts part_of is_leader are_uncut are_parted is_cut first is_tall comes_before ends_below
    is_twin child up step have_same_moments
small_below_plan_at_5 = refl

pub made_plan_at_65 : planned made 65 ≡ None
unfolding planned plan layout_height starts orders falls_by rises_by first_fit best_fit neighbours first_place
    is_clear best_place free_ranges stretches holds least_from is_tighter is_free highest top do_share some_before
    is_live buffer searched parts part_of is_leader are_uncut are_parted is_cut first is_tall comes_before ends_below
    is_twin child up step have_same_moments
made_plan_at_65 = refl

pub made_plan_at_66 : planned made 66 ≡ Some (52 ∷ 0 ∷ [])
unfolding planned plan layout_height starts orders falls_by rises_by first_fit best_fit neighbours first_place
    is_clear best_place free_ranges stretches holds least_from is_tighter is_free highest top do_share some_before
    is_live buffer searched parts part_of is_leader are_uncut are_parted is_cut first is_tall comes_before ends_below
    is_twin child up step have_same_moments
made_plan_at_66 = refl

-- ---- hunts from the lower bound to the best start
evens_hunt : hunted evens 4 5 ≡ 6
unfolding hunted hunt whole_work work planned plan layout_height starts orders falls_by rises_by first_fit best_fit
    neighbours first_place is_clear best_place free_ranges stretches holds least_from is_tighter is_free highest top
    do_share some_before is_live buffer searched parts part_of is_leader are_uncut are_parted is_cut first is_tall
    comes_before ends_below is_twin child up step have_same_moments
evens_hunt = refl

small_below_hunt : hunted small_below 4 5 ≡ 4
unfolding hunted hunt whole_work work planned plan layout_height starts orders falls_by rises_by first_fit best_fit
    neighbours first_place is_clear best_place free_ranges stretches holds least_from is_tighter is_free highest top
    do_share some_before is_live buffer searched parts part_of is_leader are_uncut are_parted is_cut first is_tall
    comes_before ends_below is_twin child up step have_same_moments
small_below_hunt = refl

made_hunt : hunted made 65 66 ≡ 3
unfolding hunted hunt whole_work work planned plan layout_height starts orders falls_by rises_by first_fit best_fit
    neighbours first_place is_clear best_place free_ranges stretches holds least_from is_tighter is_free highest top
    do_share some_before is_live buffer searched parts part_of is_leader are_uncut are_parted is_cut first is_tall
    comes_before ends_below is_twin child up step have_same_moments
made_hunt = refl

five_hunt : hunted five 12 12 ≡ 0
unfolding hunted hunt whole_work work planned plan layout_height starts orders falls_by rises_by first_fit best_fit
    neighbours first_place is_clear best_place free_ranges stretches holds least_from is_tighter is_free highest top
    do_share some_before is_live buffer searched parts part_of is_leader are_uncut are_parted is_cut first is_tall
    comes_before ends_below is_twin child up step have_same_moments
five_hunt = refl

-- below a layout the bracket ends at its height, and above none it begins one higher
wide_hunt : hunted evens 0 9 ≡ 10
unfolding hunted hunt whole_work work planned plan layout_height starts orders falls_by rises_by first_fit best_fit
    neighbours first_place is_clear best_place free_ranges stretches holds least_from is_tighter is_free highest top
    do_share some_before is_live buffer searched parts part_of is_leader are_uncut are_parted is_cut first is_tall
    comes_before ends_below is_twin child up step have_same_moments
wide_hunt = refl

-- a bracket that has met, and one that is crossed
met : hunted evens 5 5 ≡ 0
unfolding hunted hunt
met = refl

crossed : hunted evens 5 4 ≡ 0
unfolding hunted hunt
crossed = refl
