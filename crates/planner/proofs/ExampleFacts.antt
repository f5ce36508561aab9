-- Small instances, and what the definitions say of them.
use Rattle.std.proofs.Common.{◌≡◌, [], ◌∷◌, Some, None, inl, refl, arith}
use Rattle.dsa_terms.specs.Bounds.{bound_modulus, counted, highest_stack, lower_bound, moduli, moments, stack, stack_log, heights, highest_at, least_of, stack_line, line_height}
use Rattle.dsa_terms.specs.Buffers.{buffer, do_share, is_live, some_before, floor}
use Rattle.dsa_terms.specs.Fits.{best_fit, best_place, first_fit, first_place, free_ranges, highest, holds, is_free, is_tighter, neighbours, stretches, top, least_from, is_clear}
use Rattle.dsa_terms.specs.Logs.{Over, Log, is_stacked, rounded, rounding}
use Rattle.dsa_terms.specs.Orders.{falls_by, orders, rises_by}
use Rattle.dsa_terms.specs.Parts.{is_cut, part_of, parts, is_leader, are_parted, are_uncut}
use Rattle.dsa_terms.specs.Plans.{layout_height}
use Rattle.dsa_terms.specs.Starts.{best_start, lowest_place, starts}
use Rattle.dsa_terms.proofs.Examples.{evens, small_below, two_of_four}
use Rattle.dsa_terms.specs.Claims.{up}
use Rattle.layout_report.specs.declared.facts.Facts.{Facts}
pub use Rattle.lower_bounds.proofs.MomentFacts.{five_moment}
use Rattle.lower_bounds.proofs.MomentFacts.{two_moment}
use Rattle.planner.specs.Decides.{IsBoundLog}
use Rattle.planner.specs.InstanceFacts.{AreFactsOf}
use Rattle.planner.specs.FirstStart.{start_within}
use Rattle.planner.specs.Openings.{AreGiven}

-- all starts of three buffers have height 5, and the first of them is taken
start_at_5 : start_within evens 5 ≡ Some (2 ∷ 4 ∷ 0 ∷ [])
unfolding layout_height starts orders falls_by rises_by first_fit best_fit neighbours first_place floor is_clear
    best_place free_ranges stretches holds least_from is_tighter is_free highest top do_share some_before is_live
    buffer
start_at_5 = refl

no_start_at_4 : start_within evens 4 ≡ None
unfolding layout_height starts orders falls_by rises_by first_fit best_fit neighbours first_place floor is_clear
    best_place free_ranges stretches holds least_from is_tighter is_free highest top do_share some_before is_live
    buffer
no_start_at_4 = refl

-- the search has a layout of height 4, and no start has
no_start_where_the_search_has_one : start_within small_below 4 ≡ None
unfolding layout_height starts orders falls_by rises_by first_fit best_fit neighbours first_place floor is_clear
    best_place free_ranges stretches holds least_from is_tighter is_free highest top do_share some_before is_live
    buffer
no_start_where_the_search_has_one = refl

-- two buffers of size 3, aligned to four, come to 7; one line refutes 6
abbrev pub one_line : Log
one_line = record { count = 2; capacity = 6; lines = Over ((0, 0) ∷ (1, 0) ∷ []) 0 0 4 ∷ []; final = 0 }

pub bound_log : IsBoundLog two_of_four 6 one_line
unfolding stack stack_log stack_line line_height counted is_stacked rounded rounding up floor bound_modulus least_of
    lower_bound highest_stack highest_at heights moduli moments is_live buffer
bound_log = record {
  moment = 0;
  height = 0;
  its_moment = two_moment;
  from = inl refl;
  reached = refl;
  least = λ H i e. omega arith;
  one_line = refl;
}

-- no buffers have no peak, no parts, and nothing to bound
abbrev pub no_facts : Facts
no_facts = record { buffers = 0; peak = None; parts = 0; bound = 0; modulus = 1; best = 0 }

pub facts_of_none : AreFactsOf [] no_facts
unfolding parts part_of is_leader are_uncut are_parted is_cut bound_modulus least_of lower_bound highest_stack
    highest_at heights moduli moments stack counted is_stacked rounded rounding up floor layout_height best_start
    lowest_place starts orders first_fit best_fit
facts_of_none = record { buffers = refl; peak = refl; parts = refl; bound = refl; modulus = refl; best = refl }

-- ---- steps
three_of_five : AreGiven (Some 5) 3
three_of_five = omega arith

six_are_more_than_five : AreGiven (Some 5) 6 → ⊥
six_are_more_than_five h = omega (arith, h)

any_number_without_one : AreGiven None 6
any_number_without_one = tt

no_layout_without_a_step : AreGiven (Some 0) 1 → ⊥
no_layout_without_a_step h = omega (arith, h)
