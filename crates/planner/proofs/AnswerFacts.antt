-- What is decided of capacities, and found of least ones, on two buffers of size 3 aligned to four, whose least
-- capacity is 7, and on a small buffer that belongs below, whose least capacity stays open without steps.
use Rattle.std.proofs.Common.{◌≡◌, ◌<◌, ℕ, ◌+◌, ◌≤◌, inl, inr, [], ◌∷◌, length, Some, None, refl, sym, ap, subst, ◌∙◌, ◌-◌, lit<, lit≤, arith}
use Rattle.std.specs.Global.{Vec}
use Rattle.dsa_terms.specs.Bounds.{counted, highest_stack, lower_bound, moduli, moments, stack, stack_log, heights, highest_at, stack_line, line_height}
use Rattle.dsa_terms.specs.Buffers.{Instance, buffer, do_share, have_same_moments, is_live, some_before, floor}
use Rattle.dsa_terms.specs.Claims.{child, step, up}
use Rattle.dsa_terms.specs.Fits.{best_fit, best_place, first_fit, first_place, free_ranges, highest, holds, is_free, is_tighter, neighbours, stretches, top, least_from, is_clear}
use Rattle.dsa_terms.specs.Layouts.{IsInfeasible, IsLayout}
use Rattle.dsa_terms.specs.Logs.{Log, ends_below, is_twin, is_stacked, rounded, rounding}
use Rattle.dsa_terms.specs.Orders.{falls_by, orders, rises_by}
use Rattle.dsa_terms.specs.Parts.{is_cut, part_of, parts, searched, whole_work, is_leader, are_parted, are_uncut}
use Rattle.dsa_terms.specs.Plans.{hunt, layout_height, plan}
use Rattle.dsa_terms.specs.Search.{comes_before, first, is_tall, work}
use Rattle.dsa_terms.specs.Starts.{best_start, hunted, lowest_place, planned, starts}
use Rattle.dsa_terms.proofs.Examples.{small_below, two_of_four}
use Rattle.dsa_terms.proofs.ExamplePlanFacts.{two_of_four_plan_at_6, two_of_four_plan_at_7}
use Rattle.dsa_start_laws.proofs.Planned.{planned_is_layout}
use Rattle.min_capacity.specs.declared.brackets.Bracket.{Bracket}
use Rattle.min_capacity.specs.declared.brackets.Least.TheVariants as least
use Rattle.planner.specs.Decides.{IsAnswered}
use Rattle.planner.specs.Decisions.{Decides, IsByBound, IsByLog, IsExact, IsLaidOut}
use Rattle.planner.specs.LeastCapacity.{FindsLeast, IsOpenAfter, work_of_least}
use Rattle.planner.specs.Openings.{AreEnough}
use Rattle.dsa_search_laws.specs.Searches.{most_work}
use Rattle.planner.specs.declared.decision.Decision.TheVariants.{Layout, Open, Refuted}
use Rattle.planner.proofs.ExampleFacts.{bound_log, one_line}
use Rattle.planner.proofs.ExampleLeastFacts.{below_best, below_bound, four_is_open, four_is_spent, line_refutes, seven_is_exact, seven_stacked, two_sound}

-- ---- an answer that is a layout
seven_is_laid : IsLayout two_of_four 7 (0 ∷ 4 ∷ [])
seven_is_laid = planned_is_layout two_of_four 7 (0 ∷ 4 ∷ []) two_sound two_of_four_plan_at_7

answered : IsAnswered (Some (0 ∷ 4 ∷ [])) two_of_four 7 (0 ∷ 4 ∷ [])
answered = record { chosen = refl; layout = seven_is_laid }

-- with the other buffer below they are a layout too, and not the answer
other_offsets : IsAnswered (Some (0 ∷ 4 ∷ [])) two_of_four 7 (4 ∷ 0 ∷ []) → ⊥
other_offsets a = let e = a.chosen in absurd cc

no_answer : IsAnswered None two_of_four 7 (0 ∷ 4 ∷ []) → ⊥
no_answer a = let e = a.chosen in absurd cc

-- the second buffer ends at 7
past_the_capacity : IsAnswered (Some (0 ∷ 4 ∷ [])) two_of_four 6 (0 ∷ 4 ∷ []) → ⊥
unfolding buffer
past_the_capacity a = let k : 4 + 3 ≤ 6 = a.layout.within 1 (lit< tt) in omega arith

-- ---- capacities that are decided
abbrev six_log : Log
six_log = stack_log two_of_four 0 0 4 6

module _ (offsets : Vec ℕ) where
  laid_out_at_7 : offsets.items ≡ 0 ∷ 4 ∷ [] → Decides two_of_four 7 None (Layout offsets)
  laid_out_at_7 e = record { chosen = two_of_four_plan_at_7 ∙ ap Some (sym e); layout = rw e seven_is_laid }

  not_laid_out_at_6 : Decides two_of_four 6 None (Layout offsets) → ⊥
  not_laid_out_at_6 a = let e = sym two_of_four_plan_at_6 ∙ a.chosen in absurd cc

  a_layout : IsLaidOut (Layout offsets)
  a_layout = tt

  a_layout_is_no_log : IsByLog (Layout offsets) → ⊥
  a_layout_is_no_log h = h

  a_layout_is_not_by_the_bound : IsByBound two_of_four 6 (Layout offsets) → ⊥
  a_layout_is_not_by_the_bound h = h

refuted_at_6 : Decides two_of_four 6 None (Refuted six_log)
refuted_at_6 = line_refutes two_of_four 0 0 4 6 two_sound (lit≤ tt) refl (let e = seven_stacked in omega arith)

-- the log is one at 6
not_refuted_at_5 : Decides two_of_four 5 None (Refuted six_log) → ⊥
unfolding stack_log stack_line line_height
not_refuted_at_5 r = let k : 6 ≡ 5 = r.its_capacity in omega arith

-- no log refutes 7, at which there is a layout
not_refuted_at_7 : (log : Log) → Decides two_of_four 7 None (Refuted log) → ⊥
not_refuted_at_7 log r = r.infeasible (0 ∷ 4 ∷ []) seven_is_laid

a_log : (log : Log) → IsByLog (Refuted log)
a_log log = tt

a_log_is_no_layout : (log : Log) → IsLaidOut (Refuted log) → ⊥
a_log_is_no_layout log h = h

by_the_bound_at_6 : IsByBound two_of_four 6 (Refuted one_line)
by_the_bound_at_6 = bound_log

-- the same line at another capacity
not_by_the_bound_at_5 : IsByBound two_of_four 5 (Refuted one_line) → ⊥
unfolding stack_log stack_line line_height
not_by_the_bound_at_5 h = apart 6 5 (lit< tt) (ap (λ (log : Log). log.capacity) h.one_line)
  where
    apart : (m n : ℕ) → n < m → m ≡ n → ⊥
    apart m n lt e = omega arith

module _ (b : Bracket) where
  open_at_4 : b.low ≡ 4 → b.high ≡ 5 → b.layout.items ≡ 0 ∷ 4 ∷ [] →
      b.log ≡ Some (stack_log small_below 0 0 1 3) → Decides small_below 4 (Some 0) (Open b)
  open_at_4 low high layout log = four_is_spent b low high layout log

  -- nothing stays open where no number of steps is given
  not_open_without_steps : Decides small_below 4 None (Open b) → ⊥
  not_open_without_steps s = let e = s.too_few.given in absurd cc

  open_is_no_layout : IsLaidOut (Open b) → ⊥
  open_is_no_layout h = h

  open_is_no_log : IsByLog (Open b) → ⊥
  open_is_no_log h = h

  open_is_not_by_the_bound : IsByBound small_below 4 (Open b) → ⊥
  open_is_not_by_the_bound h = h

-- ---- enough steps: a search of two buffers opens at most five claims
five_are_enough : (I : Instance) → length I ≡ 2 → AreEnough I (Some 5)
five_are_enough I two = rw two (omega arith)

four_are_not_enough : (I : Instance) → length I ≡ 2 → AreEnough I (Some 4) → ⊥
four_are_not_enough I two h = let most = subst (λ n. most_work n ≤ 4) two h in absurd (omega (arith, most))

no_number_is_enough : AreEnough small_below None
no_number_is_enough = tt

-- what stays open says nothing of the capacity
open_is_not_exact : (I : Instance) (C : ℕ) (b : Bracket) → IsExact I C (Open b) → ⊥
open_is_not_exact I C b h = h.1.1 (λ offsets layout. h.0.1 (offsets, layout))

-- ---- least capacities
below_work : work_of_least small_below ≡ 4
unfolding hunted hunt whole_work work planned plan layout_height starts orders falls_by rises_by first_fit best_fit
    neighbours first_place floor is_clear best_place free_ranges stretches holds least_from is_tighter is_free
    highest top do_share some_before is_live buffer searched parts part_of is_leader are_uncut are_parted is_cut
    first is_tall comes_before ends_below is_twin child up step have_same_moments lower_bound highest_stack
    highest_at heights moduli moments stack counted is_stacked rounded rounding best_start lowest_place
below_work = refl

-- three steps are too few
left_open : (b : Bracket) → b.low ≡ 4 → b.high ≡ 5 → b.layout.items ≡ 0 ∷ 4 ∷ [] →
    b.log ≡ Some (stack_log small_below 0 0 1 3) → IsOpenAfter small_below (Some 3) b
left_open b low high layout log = record {
  below_log = stack_log small_below 0 0 1 3;
  its_log = log;
  stays_open = rw (low, high, layout) four_is_open;
  from_bound = let e = below_bound in omega arith;
  to_best = let e = ap (layout_height small_below) below_best in let h = four_is_open.its_height in omega arith;
  too_few = record { number = 3; given = refl; below_work = let e = below_work in omega arith };
}

-- four are enough
not_left_open : (b : Bracket) → IsOpenAfter small_below (Some 4) b → ⊥
not_left_open b h =
    let e = below_work in
    let g = h.too_few.given in
    let k = h.too_few.below_work in
    let n : h.too_few.number ≡ 4 = cc in
    omega arith

-- the ends are apart
not_met : (b : Bracket) → b.low ≡ 5 → b.high ≡ 5 → IsOpenAfter small_below (Some 3) b → ⊥
not_met b low high h = let k = h.stays_open.ends_apart in omega arith

-- the upper end is no higher than the best start
not_above_the_best : (b : Bracket) → b.high ≡ 6 → IsOpenAfter small_below (Some 3) b → ⊥
not_above_the_best b high h =
    let e = ap (layout_height small_below) below_best in
    let f = four_is_open.its_height in
    let k = h.to_best in
    omega arith

module _ (b : Bracket) where
  seven_is_found : b.low ≡ 7 → b.high ≡ 7 → b.layout.items ≡ 0 ∷ 4 ∷ [] →
      b.log ≡ Some six_log → FindsLeast two_of_four None (least.Exact b)
  seven_is_found low high layout log = seven_is_exact b low high layout log

  eight_is_not : b.high ≡ 8 → FindsLeast two_of_four None (least.Exact b) → ⊥
  eight_is_not high x = elim x.least.1 [
    | inl e ↦ omega arith
    | inr none ↦ fits (subst (λ C. IsInfeasible two_of_four (C - 1)) high none)
  ]
    where
      fits : IsInfeasible two_of_four 7 → ⊥
      fits none = none (0 ∷ 4 ∷ []) seven_is_laid

  four_stays_open : b.low ≡ 4 → b.high ≡ 5 → b.layout.items ≡ 0 ∷ 4 ∷ [] →
      b.log ≡ Some (stack_log small_below 0 0 1 3) → FindsLeast small_below (Some 3) (least.Open b)
  four_stays_open low high layout log = left_open b low high layout log

  nothing_stays_open : FindsLeast small_below None (least.Open b) → ⊥
  nothing_stays_open h = let e = h.too_few.given in absurd cc
