-- What a search of a small buffer that belongs below ends with, and how many steps an answer took at least.
use Rattle.std.proofs.Common.{◌≡◌, ℕ, [], ◌∷◌, Some, None, refl, sym, ap, ◌∙◌, lit≤, arith}
use Rattle.std.specs.Global.{Vec}
use Rattle.dsa_terms.specs.Bounds.{stack_log}
use Rattle.dsa_terms.specs.Buffers.{buffer, do_share, have_same_moments, is_live, some_before}
use Rattle.dsa_terms.specs.Claims.{child, step, up}
use Rattle.dsa_terms.specs.Layouts.{IsLayout}
use Rattle.dsa_terms.specs.Logs.{Log, ends_below, is_twin}
use Rattle.dsa_terms.specs.Parts.{is_cut, part_of, parts, searched, is_leader, are_parted, are_uncut}
use Rattle.dsa_terms.specs.Search.{comes_before, first, is_tall}
use Rattle.dsa_terms.proofs.Examples.{sample, small_below}
use Rattle.dsa_terms.proofs.ExamplePlanFacts.{small_below_plan_at_4}
use Rattle.dsa_start_laws.proofs.Planned.{planned_is_layout}
use Rattle.min_capacity.specs.declared.brackets.Bracket.{Bracket}
use Rattle.refute_log.specs.declared.decided.Decided.TheVariants as decided
use Rattle.planner.specs.Decisions.{decision_steps}
use Rattle.planner.specs.Searches.{EndsSearch, search_steps}
use Rattle.planner.specs.declared.decision.Decision.TheVariants as decision
use Rattle.planner.proofs.ExampleLeastFacts.{below_sound, four_stacked, four_steps, line_refutes}

found_at_4 : searched small_below 4 ≡ Some (1 ∷ 0 ∷ [])
unfolding searched parts part_of is_leader are_uncut are_parted is_cut first is_tall comes_before ends_below is_twin
    child up step have_same_moments do_share some_before is_live buffer
found_at_4 = refl

none_found_at_3 : searched small_below 3 ≡ None
unfolding searched parts part_of is_leader are_uncut are_parted is_cut first is_tall comes_before ends_below is_twin
    child up step have_same_moments do_share some_before is_live buffer
none_found_at_3 = refl

laid_at_4 : IsLayout small_below 4 (1 ∷ 0 ∷ [])
laid_at_4 = planned_is_layout small_below 4 (1 ∷ 0 ∷ []) below_sound small_below_plan_at_4

-- ---- what a search ends with
module _ (offsets : Vec ℕ) where
  layout_at_4 : offsets.items ≡ 1 ∷ 0 ∷ [] → EndsSearch small_below 4 None (decided.Layout offsets)
  layout_at_4 e = record { chosen = found_at_4 ∙ ap Some (sym e); layout = rw e laid_at_4 }

  -- the starts are none of its layouts
  no_start_at_5 : offsets.items ≡ 0 ∷ 4 ∷ [] → EndsSearch small_below 4 None (decided.Layout offsets) → ⊥
  no_start_at_5 e h = let q = sym found_at_4 ∙ h.chosen ∙ ap Some e in absurd cc

  no_layout_at_3 : EndsSearch small_below 3 None (decided.Layout offsets) → ⊥
  no_layout_at_3 h = let q = sym none_found_at_3 ∙ h.chosen in absurd cc

log_at_3 : EndsSearch small_below 3 None (decided.Refuted (stack_log small_below 0 0 1 3))
log_at_3 = line_refutes small_below 0 0 1 3 below_sound (lit≤ tt) refl (let e = four_stacked in omega arith)

no_log_at_4 : (log : Log) → EndsSearch small_below 4 None (decided.Refuted log) → ⊥
no_log_at_4 log h = h.infeasible (1 ∷ 0 ∷ []) laid_at_4

-- three steps are too few, and four are enough
spent_after_three : EndsSearch small_below 4 (Some 3) decided.Spent
spent_after_three = record { number = 3; given = refl; below_work = let e = four_steps in omega arith }

not_spent_after_four : EndsSearch small_below 4 (Some 4) decided.Spent → ⊥
not_spent_after_four h =
    let e = four_steps in let g = h.given in let k = h.below_work in let n : h.number ≡ 4 = cc in omega arith

never_spent_without_number : EndsSearch small_below 4 None decided.Spent → ⊥
never_spent_without_number h = let g = h.given in absurd cc

-- ---- steps
one_for_a_layout : (offsets : Vec ℕ) → search_steps (decided.Layout offsets) ≡ 1
one_for_a_layout offsets = refl

five_for_five_lines : search_steps (decided.Refuted sample) ≡ 5
five_for_five_lines = refl

none_when_spent : search_steps decided.Spent ≡ 0
none_when_spent = refl

one_step_for_a_layout : (offsets : Vec ℕ) → decision_steps (decision.Layout offsets) ≡ 1
one_step_for_a_layout offsets = refl

five_steps_for_five_lines : decision_steps (decision.Refuted sample) ≡ 5
five_steps_for_five_lines = refl

no_steps_where_it_stays_open : (b : Bracket) → decision_steps (decision.Open b) ≡ 0
no_steps_where_it_stays_open b = refl
