-- The lower bound of two buffers of size 3 aligned to four, which is 7, with the log below it, and the first bracket of
-- a small buffer that belongs below, from 4 to 5.
use Rattle.std.proofs.Common.{◌≡◌, ℕ, ◌≤◌, inl, inr, List, [], ◌∷◌, Some, None, refl, sym, ap, ◌∙◌, lit≤, arith}
use Rattle.dsa_terms.specs.Bounds.{bound_modulus, counted, highest_stack, lower_bound, moduli, moments, stack, stack_log, heights, highest_at, least_of, stack_line, line_height}
use Rattle.dsa_terms.specs.Buffers.{buffer, is_live, floor}
use Rattle.dsa_terms.specs.Logs.{Cases, Line, Log, Over, is_stacked, rounded, rounding}
use Rattle.dsa_terms.specs.Plans.{layout_height}
use Rattle.dsa_terms.proofs.Examples.{small_below, two_of_four}
use Rattle.dsa_terms.proofs.ExamplePlanFacts.{small_below_plan_at_5, two_of_four_plan_at_7}
use Rattle.dsa_terms.specs.Claims.{up}
use Rattle.dsa_start_laws.proofs.Stacks.{zero_height}
use Rattle.dsa_start_laws.proofs.Planned.{planned_is_layout}
use Rattle.lower_bounds.specs.declared.value.Bound.{Bound}
use Rattle.lower_bounds.proofs.MomentFacts.{two_moment}
use Rattle.min_capacity.specs.declared.brackets.Bracket.{Bracket}
use Rattle.planner.specs.Decides.{IsStackRefutation}
use Rattle.planner.specs.FirstBracket.{IsFirstBracket, IsLogBelow, IsLowerBound}
use Rattle.planner.proofs.ExampleLeastFacts.{below_best, below_bound, below_log, below_sound, four_is_open, four_stacked, line_refutes, seven_stacked, two_sound}

-- ---- the lower bound with its modulus
two_bound : lower_bound two_of_four ≡ 7
unfolding lower_bound highest_stack highest_at heights moduli moments stack counted is_stacked rounded rounding up
    floor is_live buffer
two_bound = refl

two_modulus : bound_modulus two_of_four ≡ 4
unfolding bound_modulus least_of lower_bound highest_stack highest_at heights moduli moments stack counted
    is_stacked rounded rounding up floor is_live buffer
two_modulus = refl

abbrev bound_at : ℕ → ℕ → ℕ → Bound
bound_at capacity moment modulus = record { capacity = capacity; moment = moment; modulus = modulus; height = 0 }

seven_by_four : IsLowerBound two_of_four (bound_at 7 0 4)
seven_by_four = record {
  capacity = sym two_bound;
  modulus = sym two_modulus;
  moment = λ some. two_moment;
  reached = inr (lit≤ tt, refl, sym seven_stacked);
  from = λ some. zero_height two_of_four 4;
  least = λ H i e. omega arith;
}

-- the sizes alone come to 6
six_by_one : IsLowerBound two_of_four (bound_at 6 0 1) → ⊥
six_by_one h = let c = h.capacity in let e = two_bound in omega arith

-- the modulus 1 does not reach 7
seven_by_one : IsLowerBound two_of_four (bound_at 7 0 1) → ⊥
seven_by_one h = let m = h.modulus in let e = two_modulus in omega arith

-- nothing is live at moment 1
none_stacked : stack two_of_four 1 0 4 ≡ 0
unfolding stack counted is_stacked rounded rounding up floor is_live buffer
none_stacked = refl

seven_at_another_moment : IsLowerBound two_of_four (bound_at 7 1 4) → ⊥
seven_at_another_moment h = elim h.reached [
  | inl e ↦ omega (arith, e)
  | inr r ↦ let e = r.2 in let z = none_stacked in omega arith
]

-- ---- the log of the bound
six_by_stack : IsStackRefutation two_of_four 6 (stack_log two_of_four 0 0 4 6)
six_by_stack = record {
  refutation = line_refutes two_of_four 0 0 4 6 two_sound (lit≤ tt) refl (let e = seven_stacked in omega arith);
  by_bound = record {
    moment = 0;
    height = 0;
    its_moment = two_moment;
    from = zero_height two_of_four (bound_modulus two_of_four);
    least = λ H i e. omega arith;
    reached = rw two_modulus (seven_stacked ∙ sym two_bound);
    one_line = rw two_modulus refl;
  };
}

-- by the modulus 1 the sizes refute 5, and that is not the bound's log
abbrev modulus_of : List Line → ℕ
modulus_of [] = 0
modulus_of (Over l T H G ∷ lines) = G
modulus_of (Cases l cites ∷ lines) = 0

not_by_another_modulus : IsStackRefutation two_of_four 5 (stack_log two_of_four 0 0 1 5) → ⊥
unfolding stack_log stack_line line_height
not_by_another_modulus h =
    let q : 1 ≡ bound_modulus two_of_four = ap (λ (log : Log). modulus_of log.lines) h.by_bound.one_line in
    let e = two_modulus in
    omega arith

-- a layout fits at 7
not_at_seven : (log : Log) → IsStackRefutation two_of_four 7 log → ⊥
not_at_seven log h = h.refutation.infeasible (0 ∷ 4 ∷ [])
    (planned_is_layout two_of_four 7 (0 ∷ 4 ∷ []) two_sound two_of_four_plan_at_7)

log_below_seven : IsLogBelow two_of_four 7 (Some (stack_log two_of_four 0 0 4 6))
log_below_seven = (lit≤ tt, six_by_stack)

no_log_below_seven : IsLogBelow two_of_four 7 None → ⊥
no_log_below_seven e = omega (arith, e)

no_log_below_zero : IsLogBelow [] 0 None
no_log_below_zero = refl

some_log_below_zero : (log : Log) → IsLogBelow [] 0 (Some log) → ⊥
some_log_below_zero log h = let k : 1 ≤ 0 = h.0 in omega arith

-- ---- the first bracket
from_four_to_five : (b : Bracket) → b.low ≡ 4 → b.high ≡ 5 → b.layout.items ≡ 0 ∷ 4 ∷ [] →
    b.log ≡ Some (stack_log small_below 0 0 1 3) → IsFirstBracket small_below b
from_four_to_five b low high layout log = record {
  low = low ∙ sym below_bound;
  log = rw (log, below_bound) (
    lit≤ tt,
    record {
      refutation = line_refutes small_below 0 0 1 3 below_sound (lit≤ tt) refl (let e = four_stacked in omega arith);
      by_bound = below_log;
    },
  );
  high = high ∙ sym (ap (layout_height small_below) below_best ∙ four_is_open.its_height);
  limit = omega arith;
  best = layout ∙ sym below_best;
  layout = rw (high, layout) (planned_is_layout small_below 5 (0 ∷ 4 ∷ []) below_sound small_below_plan_at_5);
}

-- the search's layout at 4 is none of the starts
not_to_four : (b : Bracket) → b.layout.items ≡ 1 ∷ 0 ∷ [] → IsFirstBracket small_below b → ⊥
not_to_four b layout h = let e = sym layout ∙ h.best ∙ below_best in absurd cc

not_from_three : (b : Bracket) → b.low ≡ 3 → IsFirstBracket small_below b → ⊥
not_from_three b low h = let l = h.low in let e = below_bound in omega arith

not_without_log : (b : Bracket) → b.log ≡ None → IsFirstBracket small_below b → ⊥
not_without_log b none h = let z = rw none at h.log in let e = below_bound in omega (arith, z, e)
