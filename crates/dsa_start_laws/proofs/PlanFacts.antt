-- A plan is the first start that fits, and need not be the lowest.
use Rattle.std.proofs.Common.{◌≡◌, [], ◌∷◌, Some, refl}
use Rattle.dsa_terms.specs.Buffers.{is_live, buffer, do_share, have_same_moments, some_before, floor}
use Rattle.dsa_terms.specs.Claims.{up, step, child}
use Rattle.dsa_terms.specs.Logs.{ends_below, is_twin}
use Rattle.dsa_terms.specs.Search.{is_tall, comes_before, first}
use Rattle.dsa_terms.specs.Parts.{is_cut, part_of, parts, searched, is_leader, are_parted, are_uncut}
use Rattle.dsa_terms.specs.Plans.{layout_height, plan}
use Rattle.dsa_terms.specs.Fits.{top, highest, neighbours, is_free, first_place, stretches, free_ranges, holds, is_tighter, best_place, first_fit, best_fit, least_from, is_clear}
use Rattle.dsa_terms.specs.Orders.{falls_by, rises_by, orders}
use Rattle.dsa_terms.specs.Starts.{starts, planned}
use Rattle.dsa_terms.proofs.Examples.{unlike}

-- the first within 16, though a later one is within 14
unlike_plan_at_16 : planned unlike 16 ≡ Some (12 ∷ 6 ∷ 0 ∷ 14 ∷ 0 ∷ 10 ∷ [])
unfolding planned plan layout_height starts orders falls_by rises_by first_fit best_fit neighbours first_place floor
    is_clear best_place free_ranges stretches holds least_from is_tighter is_free highest top do_share some_before
    is_live buffer searched parts part_of is_leader are_uncut are_parted is_cut first is_tall comes_before ends_below
    is_twin child up step have_same_moments
unlike_plan_at_16 = refl

-- that one
unlike_plan_at_14 : planned unlike 14 ≡ Some (0 ∷ 9 ∷ 1 ∷ 8 ∷ 1 ∷ 6 ∷ [])
unfolding planned plan layout_height starts orders falls_by rises_by first_fit best_fit neighbours first_place floor
    is_clear best_place free_ranges stretches holds least_from is_tighter is_free highest top do_share some_before
    is_live buffer searched parts part_of is_leader are_uncut are_parted is_cut first is_tall comes_before ends_below
    is_twin child up step have_same_moments
unlike_plan_at_14 = refl
