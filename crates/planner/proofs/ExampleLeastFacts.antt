-- Least capacities of small instances, and what stays open on them.
use Rattle.std.proofs.Common.{◌≡◌, ◌%◌, ℕ, zero, suc, ◌<◌, ◌≤◌, inl, inr, [], ◌∷◌, ◌-◌, length, Option, Some, None, refl, sym, ap, ◌∙◌, subst, lit<, lit≤, arith}
use Rattle.std.specs.Prelude.{option_map}
use Rattle.dsa_terms.specs.Bounds.{bound_modulus, counted, highest_stack, lower_bound, moduli, moments, stack, stack_log, heights, highest_at, least_of, stack_line, line_height}
use Rattle.dsa_terms.specs.Buffers.{Instance, IsInstance, buffer, do_share, have_same_moments, is_live, some_before, floor}
use Rattle.dsa_terms.specs.Claims.{child, step, up}
use Rattle.dsa_terms.specs.Fits.{best_fit, best_place, first_fit, first_place, free_ranges, highest, holds, is_free, is_tighter, neighbours, stretches, top, least_from, is_clear}
use Rattle.dsa_terms.specs.Layouts.{IsLayout, IsLeast}
use Rattle.dsa_terms.specs.Logs.{Log, ends_below, is_twin, is_stacked, rounded, rounding}
use Rattle.dsa_terms.specs.Orders.{falls_by, orders, rises_by}
use Rattle.dsa_terms.specs.Parts.{is_cut, part_of, parts, searched, whole_work, is_leader, are_parted, are_uncut}
use Rattle.dsa_terms.specs.Plans.{hunt, layout_height, plan}
use Rattle.dsa_terms.specs.Search.{comes_before, first, is_tall, work}
use Rattle.dsa_terms.specs.Starts.{best_start, hunted, lowest_place, planned, starts}
use Rattle.dsa_terms.proofs.Examples.{evens, small_below, two_of_four}
use Rattle.dsa_terms.proofs.ExamplePlanFacts.{small_below_plan_at_5, two_of_four_plan_at_6, two_of_four_plan_at_7}
use Rattle.dsa_search_laws.proofs.Logs.{accepted_is_infeasible}
use Rattle.dsa_start_laws.proofs.Peaks.{stack_is_lean}
use Rattle.dsa_start_laws.proofs.Planned.{planned_exactly, planned_is_layout}
use Rattle.dsa_start_laws.proofs.Stacks.{zero_height, stack_is_accepted}
use Rattle.min_capacity.specs.declared.brackets.Bracket.{Bracket}
use Rattle.lower_bounds.proofs.MomentFacts.{below_moment}
use Rattle.planner.specs.Decides.{IsBoundLog, LeavesNoLayout}
use Rattle.min_capacity.specs.declared.brackets.Least.TheVariants.{Open}
use Rattle.planner.specs.LeastCapacity.{AreWithinSteps, HasHalved, IsByBoundAtLow, IsExactly, IsLayoutWithin, IsLogWithin, IsWithinSteps, RefutesBelow, work_of_least}
use Rattle.planner.specs.Openings.{AreTooFew, StaysOpen, IsSpentAt}

-- ---- steps
-- five steps are too few for three buffers, six are enough, and without a number there are never too few
evens_work : work_of_least evens ≡ 6
unfolding hunted hunt whole_work work planned plan layout_height starts orders falls_by rises_by first_fit best_fit
    neighbours first_place floor is_clear best_place free_ranges stretches holds least_from is_tighter is_free
    highest top do_share some_before is_live buffer searched parts part_of is_leader are_uncut are_parted is_cut
    first is_tall comes_before ends_below is_twin child up step have_same_moments lower_bound highest_stack
    highest_at heights moduli moments stack counted is_stacked rounded rounding best_start lowest_place
evens_work = refl

five_steps : AreTooFew (Some 5) (work_of_least evens)
five_steps = record { number = 5; given = refl; below_work = let e = evens_work in omega arith }

six_steps : AreTooFew (Some 6) (work_of_least evens) → ⊥
six_steps h = let e = evens_work in let g = h.given in let b = h.below_work in let n : h.number ≡ 6 = cc in omega arith

no_number : (work : ℕ) → AreTooFew None work → ⊥
no_number work h = let g = h.given in cc

-- the start's ends are left only where its halving is not done
halving_evens : hunted evens 4 5 ≡ 6
unfolding hunted hunt whole_work work planned plan layout_height starts orders falls_by rises_by first_fit best_fit
    neighbours first_place floor is_clear best_place free_ranges stretches holds least_from is_tighter is_free
    highest top do_share some_before is_live buffer searched parts part_of is_leader are_uncut are_parted is_cut
    first is_tall comes_before ends_below is_twin child up step have_same_moments
halving_evens = refl

evens_at_4 : whole_work evens 4 ≡ 6
unfolding whole_work work parts part_of is_leader are_uncut are_parted is_cut first is_tall comes_before ends_below
    is_twin child up step do_share some_before have_same_moments is_live buffer
evens_at_4 = refl

ends_after_five : (b : Bracket) → b.low ≡ 4 → b.high ≡ 5 → HasHalved evens (Some 5) (Open b)
ends_after_five b low high =
    rw (low, high) (let e = evens_work in let f = halving_evens in let w = evens_at_4 in omega arith)

ends_after_six : (b : Bracket) → b.low ≡ 4 → b.high ≡ 5 → HasHalved evens (Some 6) (Open b) → ⊥
ends_after_six b low high h =
    let k = rw (low, high) at h in
    let e = evens_work in let f = halving_evens in let w = evens_at_4 in omega (arith, k)

-- ---- logs of one line
pub line_refutes : (I : Instance) (t H G C : ℕ) → IsInstance I → 1 ≤ G → H % G ≡ 0 → C < stack I t H G →
    LeavesNoLayout I C (stack_log I t H G C)
unfolding stack_log stack_line line_height
line_refutes I t H G C s pos m lt = record {
  accepted = stack_is_accepted I t H G C pos m lt;
  its_capacity = refl;
  infeasible = accepted_is_infeasible I (stack_log I t H G C) s (stack_is_accepted I t H G C pos m lt);
  lean = stack_is_lean I t H G C;
}

pub two_sound : IsInstance two_of_four
two_sound zero d lt = (lit≤ tt, lit≤ tt, lit< tt)
two_sound (suc zero) d lt = (lit≤ tt, lit≤ tt, lit< tt)
two_sound (suc (suc k)) d lt = absurd (omega arith)

pub below_sound : IsInstance small_below
below_sound zero d lt = (lit≤ tt, lit≤ tt, lit< tt)
below_sound (suc zero) d lt = (lit≤ tt, lit≤ tt, lit< tt)
below_sound (suc (suc k)) d lt = absurd (omega arith)

pub seven_stacked : stack two_of_four 0 0 4 ≡ 7
unfolding stack counted is_stacked rounded rounding up floor is_live buffer
seven_stacked = refl

pub four_stacked : stack small_below 0 0 1 ≡ 4
unfolding stack counted is_stacked rounded rounding up floor is_live buffer
four_stacked = refl

seven_high : layout_height two_of_four (0 ∷ 4 ∷ []) ≡ 7
unfolding layout_height buffer
seven_high = refl

-- ---- the least capacity of two buffers aligned to four is 7
pub seven_is_exact : (b : Bracket) → b.low ≡ 7 → b.high ≡ 7 → b.layout.items ≡ 0 ∷ 4 ∷ [] →
    b.log ≡ Some (stack_log two_of_four 0 0 4 6) → IsExactly two_of_four b
seven_is_exact b low high layout log = record {
  ends_met = low ∙ sym high;
  least = at_seven (λ C. IsLeast two_of_four C)
      ((0 ∷ 4 ∷ [], laid), inr ((planned_exactly two_of_four 6 two_sound).0 two_of_four_plan_at_6));
  chosen = at_seven (λ C. planned two_of_four C ≡ Some b.layout.items) (two_of_four_plan_at_7 ∙ ap Some (sym layout));
  layout = at_seven (λ C. IsLayout two_of_four C b.layout.items) (rw layout laid);
  its_height = ap (layout_height two_of_four) layout ∙ seven_high ∙ sym high;
  refuted_below = at_seven (λ C. RefutesBelow two_of_four C b.log) (rw log
      (lit≤ tt, line_refutes two_of_four 0 0 4 6 two_sound (lit≤ tt) refl (let e = seven_stacked in omega arith)));
  zero_for_none = (λ e. absurd cc, λ e. absurd (omega arith));
}
  where
    at_seven : (P : ℕ → Type 0) → P 7 → P b.high
    at_seven P p = subst P (sym high) p

    laid : IsLayout two_of_four 7 (0 ∷ 4 ∷ [])
    laid = planned_is_layout two_of_four 7 (0 ∷ 4 ∷ []) two_sound two_of_four_plan_at_7

-- no buffers need no bytes and have no log, and some buffers need some
nothing_planned : planned [] 0 ≡ Some []
unfolding planned plan layout_height starts orders falls_by rises_by first_fit best_fit neighbours first_place floor
    is_clear best_place free_ranges stretches holds least_from is_tighter is_free highest top do_share some_before
    is_live buffer searched parts part_of is_leader are_uncut are_parted is_cut first is_tall comes_before ends_below
    is_twin child up step have_same_moments
nothing_planned = refl

zero_is_exact : (b : Bracket) → b.low ≡ 0 → b.high ≡ 0 → b.layout.items ≡ [] → b.log ≡ None → IsExactly [] b
unfolding layout_height
zero_is_exact b low high layout log = record {
  ends_met = low ∙ sym high;
  least = at_zero (λ C. IsLeast [] C) (([], laid), inl refl);
  chosen = at_zero (λ C. planned [] C ≡ Some b.layout.items) (nothing_planned ∙ ap Some (sym layout));
  layout = at_zero (λ C. IsLayout [] C b.layout.items) (rw layout laid);
  its_height = sym high;
  refuted_below = rw log high;
  zero_for_none = (λ e. high, λ e. refl);
}
  where
    at_zero : (P : ℕ → Type 0) → P 0 → P b.high
    at_zero P p = subst P (sym high) p

    laid : IsLayout [] 0 []
    laid = planned_is_layout [] 0 [] (λ k d lt. absurd (omega arith)) nothing_planned

zero_for_two : (b : Bracket) → b.high ≡ 0 → IsExactly two_of_four b → ⊥
zero_for_two b high h = let e = h.zero_for_none.1 high in cc

-- a log is needed above 0
no_log_at_5 : RefutesBelow evens 5 None → ⊥
no_log_at_5 e = omega arith

-- ---- the capacity 4 of a small buffer that belongs below is open without steps
pub four_is_open : StaysOpen small_below 4 5 (0 ∷ 4 ∷ []) (stack_log small_below 0 0 1 3)
unfolding layout_height buffer
four_is_open = record {
  ends_apart = lit< tt;
  positive = lit≤ tt;
  chosen = small_below_plan_at_5;
  layout = planned_is_layout small_below 5 (0 ∷ 4 ∷ []) below_sound small_below_plan_at_5;
  its_height = refl;
  refuted_below = line_refutes small_below 0 0 1 3 below_sound (lit≤ tt) refl (let e = four_stacked in omega arith);
}

pub four_steps : whole_work small_below 4 ≡ 4
unfolding whole_work work parts part_of is_leader are_uncut are_parted is_cut first is_tall comes_before ends_below
    is_twin child up step do_share some_before have_same_moments is_live buffer
four_steps = refl

pub below_bound : lower_bound small_below ≡ 4
unfolding lower_bound highest_stack highest_at heights moduli moments stack counted is_stacked rounded rounding up
    floor is_live buffer
below_bound = refl

pub below_modulus : bound_modulus small_below ≡ 1
unfolding bound_modulus least_of lower_bound highest_stack highest_at heights moduli moments stack counted
    is_stacked rounded rounding up floor is_live buffer
below_modulus = refl

pub below_best : best_start small_below ≡ 0 ∷ 4 ∷ []
unfolding best_start lowest_place layout_height starts orders falls_by rises_by first_fit best_fit neighbours
    first_place floor is_clear best_place free_ranges stretches holds least_from is_tighter is_free highest top
    do_share some_before is_live buffer
below_best = refl

pub below_log : IsBoundLog small_below 3 (stack_log small_below 0 0 1 3)
below_log = record {
  moment = 0;
  height = 0;
  its_moment = below_moment;
  from = zero_height small_below (bound_modulus small_below);
  least = λ H i e. omega arith;
  reached = rw below_modulus (four_stacked ∙ sym below_bound);
  one_line = rw below_modulus refl;
}

pub four_is_spent : (b : Bracket) → b.low ≡ 4 → b.high ≡ 5 → b.layout.items ≡ 0 ∷ 4 ∷ [] →
    b.log ≡ Some (stack_log small_below 0 0 1 3) → IsSpentAt small_below 4 (Some 0) b
four_is_spent b low high layout log = record {
  bound_log = stack_log small_below 0 0 1 3;
  its_log = log;
  stays_open = rw (low, high, layout) four_is_open;
  low_is_bound = low ∙ sym below_bound;
  high_is_best = high ∙ sym (ap (layout_height small_below) below_best ∙ four_is_open.its_height);
  layout_is_best = layout ∙ sym below_best;
  by_bound = rw low below_log;
  from_low = omega arith;
  below_high = omega arith;
  too_few = record { number = 0; given = refl; below_work = let e = four_steps in omega arith };
}

-- ---- without steps the best start and the bound's log come, and nothing else
start_without_steps : (b : Bracket) → b.layout.items ≡ 0 ∷ 4 ∷ [] → b.log ≡ Some (stack_log small_below 0 0 1 3) →
    IsWithinSteps small_below (Some 0) b
start_without_steps b layout log = record {
  layout_steps = 0;
  log_steps = 0;
  layout = inl (layout ∙ sym below_best);
  log = inl (rw (log, below_bound) (
    lit≤ tt,
    record {
      refutation = line_refutes small_below 0 0 1 3 below_sound (lit≤ tt) refl (let e = four_stacked in omega arith);
      by_bound = below_log;
    },
  ));
  given = omega arith;
}

-- another layout took a step, and another log one for its line; one step is not enough for both
other_layout : {k : ℕ} → IsLayoutWithin small_below k (1 ∷ 0 ∷ []) → 1 ≤ k
other_layout (inl e) = let k = e ∙ below_best in absurd cc
other_layout (inr le) = le

other_log : {k low : ℕ} → IsLogWithin small_below k low (Some (stack_log small_below 0 0 1 4)) → 1 ≤ k
unfolding stack_log stack_line line_height
other_log (inl h) =
    let e = below_bound in let c : 4 ≡ lower_bound small_below - 1 = h.1.refutation.its_capacity in
    absurd (omega (arith, e, c))
other_log (inr g) = let l = ap (λ o. option_map (λ (w : Log). length w.lines) o) g.1 in let k = g.3 in
    let n : 1 ≡ length g.0.lines = cc in omega (arith, n, k)

pub other_without_steps : (low : ℕ) (log : Option Log) → AreWithinSteps small_below (Some 0) low (1 ∷ 0 ∷ []) log → ⊥
other_without_steps low log h =
    let k = other_layout h.layout in let g = h.given in omega (arith, k, g)

one_step_for_both : (low : ℕ) →
    AreWithinSteps small_below (Some 1) low (1 ∷ 0 ∷ []) (Some (stack_log small_below 0 0 1 4)) → ⊥
one_step_for_both low h =
    let k = other_layout h.layout in
    let l = other_log h.log in
    let g = h.given in
    omega (arith, k, l, g)

two_steps_for_both : AreWithinSteps small_below (Some 2) 5 (1 ∷ 0 ∷ []) (Some (stack_log small_below 0 0 1 4))
unfolding stack_log stack_line line_height
two_steps_for_both = record {
  layout_steps = 1;
  log_steps = 1;
  layout = inr (lit≤ tt);
  log = inr (stack_log small_below 0 0 1 4, refl, (let e = below_bound in omega (arith, e)), lit≤ tt);
  given = lit≤ tt;
}

-- the lower end does not rise by a log of the search at the bound
two_steps_at_the_bound :
    AreWithinSteps small_below (Some 2) 4 (1 ∷ 0 ∷ []) (Some (stack_log small_below 0 0 1 4)) → ⊥
unfolding stack_log stack_line line_height
two_steps_at_the_bound h = go h.log
  where
    go : {k : ℕ} → IsLogWithin small_below k 4 (Some (stack_log small_below 0 0 1 4)) → ⊥
    go (inl b) =
        let e = below_bound in let c : 4 ≡ lower_bound small_below - 1 = b.1.refutation.its_capacity in
        omega (arith, e, c)
    go (inr g) = let e = below_bound in let k = g.2 in omega (arith, e, k)

-- at the lower bound there is a log unless the bound is 0
no_log_at_the_bound : (b : Bracket) → b.low ≡ 4 → b.log ≡ None → IsByBoundAtLow small_below b → ⊥
no_log_at_the_bound b low none h =
    let z = rw none at h (low ∙ sym below_bound) in let e = below_bound in omega (arith, z, e)
