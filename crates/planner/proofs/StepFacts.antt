-- A small buffer that belongs below: its best start ends at 5, and its lower bound and least capacity are 4.
use Rattle.std.proofs.Common.{◌≡◌, inr, [], ◌∷◌, Some, None, refl, ap, ◌∙◌, lit≤, arith}
use Rattle.dsa_terms.specs.Bounds.{stack_log}
use Rattle.dsa_terms.specs.Buffers.{buffer, do_share, is_live, some_before, floor}
use Rattle.dsa_terms.specs.Fits.{best_fit, best_place, first_fit, first_place, free_ranges, highest, holds, is_free, is_tighter, neighbours, stretches, top, least_from, is_clear}
use Rattle.dsa_terms.specs.Layouts.{IsLayout, IsLeast}
use Rattle.dsa_terms.specs.Orders.{falls_by, orders, rises_by}
use Rattle.dsa_terms.specs.Plans.{layout_height}
use Rattle.dsa_terms.specs.Starts.{best_start, starts}
use Rattle.dsa_terms.proofs.ExamplePlanFacts.{small_below_plan_at_3, small_below_plan_at_4}
use Rattle.dsa_terms.proofs.Examples.{small_below}
use Rattle.dsa_start_laws.proofs.Planned.{planned_exactly, planned_is_layout}
use Rattle.planner.specs.Decides.{LeavesNoLayout}
use Rattle.planner.specs.FirstStart.{start_within}
use Rattle.planner.proofs.ExampleLeastFacts.{below_best, below_sound, four_is_open, four_stacked, line_refutes}

pub none_within_4 : start_within small_below 4 ≡ None
unfolding starts orders falls_by rises_by first_fit best_fit neighbours first_place floor is_clear best_place
    free_ranges stretches holds least_from is_tighter is_free highest top do_share some_before is_live buffer
    layout_height
none_within_4 = refl

pub best_at_5 : layout_height small_below (best_start small_below) ≡ 5
best_at_5 = ap (layout_height small_below) below_best ∙ four_is_open.its_height

pub laid_at_4 : IsLayout small_below 4 (1 ∷ 0 ∷ [])
laid_at_4 = planned_is_layout small_below 4 (1 ∷ 0 ∷ []) below_sound small_below_plan_at_4

pub four_high : layout_height small_below (1 ∷ 0 ∷ []) ≡ 4
unfolding layout_height buffer
four_high = refl

pub four_is_least : IsLeast small_below 4
four_is_least =
    ((1 ∷ 0 ∷ [], laid_at_4), inr ((planned_exactly small_below 3 below_sound).0 small_below_plan_at_3))

pub refuted_at_3 : LeavesNoLayout small_below 3 (stack_log small_below 0 0 1 3)
refuted_at_3 = line_refutes small_below 0 0 1 3 below_sound (lit≤ tt) refl (let e = four_stacked in omega arith)

-- the best start itself is within 5
start_within_5 : start_within small_below 5 ≡ Some (0 ∷ 4 ∷ [])
unfolding starts orders falls_by rises_by first_fit best_fit neighbours first_place floor is_clear best_place
    free_ranges stretches holds least_from is_tighter is_free highest top do_share some_before is_live buffer
    layout_height
start_within_5 = refl
