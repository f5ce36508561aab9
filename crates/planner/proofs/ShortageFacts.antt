-- Steps that are too few, and steps that are enough, for two buffers of which the starts come to 5 and the bound to 4.
use Rattle.std.proofs.Common.{◌≡◌, ◌+◌, ◌/◌, ◌≤◌, ℕ, refl, sym, lit<, lit≤, arith}
use Rattle.dsa_terms.specs.Bounds.{lower_bound}
use Rattle.dsa_terms.specs.Buffers.{buffer, do_share, have_same_moments, is_live, some_before, floor}
use Rattle.dsa_terms.specs.Claims.{child, step, up}
use Rattle.dsa_terms.specs.Fits.{best_fit, best_place, first_fit, first_place, free_ranges, highest, holds, is_free, is_tighter, neighbours, stretches, top, least_from, is_clear}
use Rattle.dsa_terms.specs.Logs.{ends_below, is_twin}
use Rattle.dsa_terms.specs.Orders.{falls_by, orders, rises_by}
use Rattle.dsa_terms.specs.Parts.{is_cut, part_of, parts, searched, whole_work, is_leader, are_parted, are_uncut}
use Rattle.dsa_terms.specs.Plans.{hunt, layout_height, plan}
use Rattle.dsa_terms.specs.Search.{comes_before, first, is_tall, work}
use Rattle.dsa_terms.specs.Starts.{best_start, hunted, starts}
use Rattle.dsa_terms.proofs.Examples.{small_below}
use Rattle.planner.specs.Shortage.{IsShortOfHunt, IsShortOfWork}
use Rattle.planner.proofs.ExampleLeastFacts.{below_bound, four_steps}
use Rattle.planner.proofs.StepFacts.{best_at_5}

-- ---- the work at 4 is four steps
pub short_of_four_steps : (k : ℕ) → k ≤ 3 → IsShortOfWork small_below 4 k 4 5
short_of_four_steps k le = record {
  few = let e = four_steps in omega (arith, le, e);
  low = sym below_bound;
  high = sym best_at_5;
  not_below = lit≤ tt;
  below = lit< tt;
}

pub four_of_four : (L H : ℕ) → IsShortOfWork small_below 4 4 L H → ⊥
four_of_four L H h = let e = four_steps in let k = h.few in omega arith

-- a capacity below the bound is decided without steps
below_the_bound : (k L H : ℕ) → IsShortOfWork small_below 3 k L H → ⊥
below_the_bound k L H h =
    let e = below_bound in let low = h.low in let at = h.not_below in omega arith

-- ---- halving from 4 to 5 takes these four alone
halving : hunted small_below 4 5 ≡ 4
unfolding hunted hunt whole_work work plan layout_height starts orders falls_by rises_by first_fit best_fit
    neighbours first_place floor is_clear best_place free_ranges stretches holds least_from is_tighter is_free
    highest top do_share some_before is_live buffer searched parts part_of is_leader are_uncut are_parted is_cut
    first is_tall comes_before ends_below is_twin child up step have_same_moments
halving = refl

its_hunt : hunted small_below (lower_bound small_below) (layout_height small_below (best_start small_below)) ≡ 4
its_hunt = rw (below_bound, best_at_5) halving

its_middle : whole_work small_below ((4 + 5) / 2) ≡ 4
its_middle = four_steps

pub short_of_the_hunt : (k : ℕ) → k ≤ 3 → IsShortOfHunt small_below k 4 5
short_of_the_hunt k le = record {
  few = let e = its_hunt in omega (arith, le, e);
  from_bound = let e = below_bound in omega (arith, e);
  to_best = let e = best_at_5 in omega (arith, e);
  one_more = let e = halving in let f = its_hunt in let w = its_middle in omega (arith, le, e, f, w);
}

pub four_of_the_hunt : (L H : ℕ) → IsShortOfHunt small_below 4 L H → ⊥
four_of_the_hunt L H h = let e = its_hunt in let k = h.few in omega arith

-- the best start ends at 5
pub not_above_the_best : (k L : ℕ) → IsShortOfHunt small_below k L 6 → ⊥
not_above_the_best k L h = let b = best_at_5 in let le = h.to_best in omega (arith, b, le)
