-- What is answered of two buffers whose best start ends at 5, and whose lower bound and least capacity are 4.
use Rattle.std.proofs.Common.{◌≡◌, ℕ, List, [], ◌∷◌, Some, None, inl, inr, refl, sym, lit<, lit≤, arith}
use Rattle.dsa_terms.specs.Bounds.{stack_log}
use Rattle.dsa_terms.proofs.ExamplePlanFacts.{small_below_plan_at_3, small_below_plan_at_4, small_below_plan_at_5}
use Rattle.dsa_terms.proofs.Examples.{small_below}
use Rattle.dsa_start_laws.proofs.Planned.{planned_exactly}
use Rattle.planner.specs.Openings.{AreGiven}
use Rattle.planner.proofs.ExampleLeastFacts.{below_best, below_bound, below_log, below_sound, four_is_open, four_steps}
use Rattle.planner.proofs.ShortageFacts.{short_of_the_hunt}
use Rattle.planner.proofs.StepFacts.{best_at_5, four_high, four_is_least, laid_at_4, none_within_4}
use Rattle.packer.specs.Packs.{RefutesOneLess}
use Rattle.dsa_plan.specs.Packed.{IsPackAnswer}
use Rattle.dsa_plan.specs.Plans.{IsAnswer, IsFoundLeast, IsLeastAnswer}
use Rattle.dsa_plan.specs.declared.answers.Answer.TheVariants.{Fits, DoesNotFit, Open}
use Rattle.dsa_plan.specs.declared.answers.LeastAnswer.TheVariants.{Least, Open as LeftOpen}

-- ---- at 4, with a step, the search's layout
fits_at_4 : IsAnswer small_below 4 (Some 1) (1 ∷ 0 ∷ []) Fits
fits_at_4 = record {
  plan = record { chosen = small_below_plan_at_4; layout = laid_at_4 };
  searched = λ none. lit≤ tt;
}

not_without_a_step : IsAnswer small_below 4 (Some 0) (1 ∷ 0 ∷ []) Fits → ⊥
not_without_a_step h = let given : AreGiven (Some 0) 1 = h.searched none_within_4 in omega (arith, given)

not_other_offsets : IsAnswer small_below 4 None (0 ∷ 4 ∷ []) Fits → ⊥
not_other_offsets h = let e = sym small_below_plan_at_4 in let f = h.plan.chosen in absurd cc

not_refused_at_4 : (offsets : List ℕ) → IsAnswer small_below 4 None offsets DoesNotFit → ⊥
not_refused_at_4 offsets h = h.infeasible (1 ∷ 0 ∷ []) laid_at_4

-- ---- at 3 there is none
refused_at_3 : (offsets : List ℕ) → IsAnswer small_below 3 None offsets DoesNotFit
refused_at_3 offsets = record {
  no_plan = small_below_plan_at_3;
  infeasible = (planned_exactly small_below 3 below_sound).0 small_below_plan_at_3;
  refutation = stack_log small_below 0 0 1 3;
  refuted = four_is_open.refuted_below;
  searched = λ le. tt;
}

-- ---- at 4 the work is four steps
open_with_three : (offsets : List ℕ) → IsAnswer small_below 4 (Some 3) offsets Open
open_with_three offsets = record {
  from_bound = let e = below_bound in omega arith;
  below_best = let e = best_at_5 in omega arith;
  too_few = record { number = 3; given = refl; below_work = let e = four_steps in omega arith };
}

not_open_with_four : (offsets : List ℕ) → IsAnswer small_below 4 (Some 4) offsets Open → ⊥
not_open_with_four offsets h =
    let k : 4 ≡ h.too_few.number = (let e = h.too_few.given in cc) in
    let lt = h.too_few.below_work in let e = four_steps in absurd (omega arith)

never_open_without_steps : (offsets : List ℕ) → IsAnswer small_below 4 None offsets Open → ⊥
never_open_without_steps offsets h = let e = h.too_few.given in absurd cc

-- ---- the least capacity
least_is_4 : IsLeastAnswer small_below None (1 ∷ 0 ∷ []) (Least 4)
least_is_4 = record {
  log = record {
    refutation = Some (stack_log small_below 0 0 1 3);
    refuted = (lit≤ tt, four_is_open.refuted_below);
    within_steps = record {
      layout_steps = 1;
      log_steps = 0;
      layout = inr (lit≤ tt);
      log = inl (rw below_bound (lit≤ tt, record { refutation = four_is_open.refuted_below; by_bound = below_log }));
      given = tt;
    };
  };
  least = four_is_least;
  plan = record { chosen = small_below_plan_at_4; layout = laid_at_4 };
  its_height = four_high;
}

found_at_4 : IsFoundLeast small_below (Least 4)
found_at_4 = four_is_least

not_found_where_open : IsFoundLeast small_below (LeftOpen 4 5) → ⊥
not_found_where_open h = h

not_at_5 : (offsets : List ℕ) → IsLeastAnswer small_below None offsets (Least 5) → ⊥
not_at_5 offsets h = elim h.least.1 [ inl e ↦ absurd (omega arith) | inr f ↦ f (1 ∷ 0 ∷ []) laid_at_4 ]

between_4_and_5 : IsLeastAnswer small_below (Some 3) (0 ∷ 4 ∷ []) (LeftOpen 4 5)
between_4_and_5 =
    let short = short_of_the_hunt 3 (lit≤ tt) in record {
      ends_apart = lit< tt;
      from_bound = short.from_bound;
      none_below = four_is_open.refuted_below.infeasible;
      to_best = short.to_best;
      plan = record { chosen = small_below_plan_at_5; layout = four_is_open.layout };
      its_height = four_is_open.its_height;
      too_few = record { number = 3; given = refl; below_work = short.few };
      halved = short.one_more;
      log = record {
        refutation = Some (stack_log small_below 0 0 1 3);
        refuted = (lit≤ tt, four_is_open.refuted_below);
        within_steps = record {
          layout_steps = 0;
          log_steps = 0;
          layout = inl (sym below_best);
          log = inl (rw below_bound (
            lit≤ tt,
            record
                { refutation = four_is_open.refuted_below; by_bound = below_log },
          ));
          given = lit≤ tt;
        };
      };
    }

-- ---- packing
refuted_at_3_without_steps : RefutesOneLess small_below 4 0 (Some (stack_log small_below 0 0 1 3))
unfolding stack_log
refuted_at_3_without_steps =
    let below = four_is_open.refuted_below in (
      lit≤ tt,
      record {
        accepted = below.accepted;
        its_capacity = refl;
        infeasible = below.infeasible;
        trimmed = record { last = refl; cited = λ k lt. absurd (omega arith) };
        few = inl below_log;
      },
    )

packed_at_4 : IsPackAnswer small_below 0 (1 ∷ 0 ∷ []) (Least 4)
packed_at_4 = record {
  refutation = Some (stack_log small_below 0 0 1 3);
  refuted = refuted_at_3_without_steps;
  least = four_is_least;
  layout = laid_at_4;
  its_height = four_high;
}

packed_between_4_and_5 : IsPackAnswer small_below 0 (0 ∷ 4 ∷ []) (LeftOpen 4 5)
packed_between_4_and_5 =
    let short = short_of_the_hunt 3 (lit≤ tt) in record {
      ends_apart = lit< tt;
      from_bound = short.from_bound;
      refutation = Some (stack_log small_below 0 0 1 3);
      refuted = refuted_at_3_without_steps;
      none_below = four_is_open.refuted_below.infeasible;
      to_best = short.to_best;
      layout = four_is_open.layout;
      its_height = four_is_open.its_height;
    }

not_packed_at_5 : (offsets : List ℕ) → IsPackAnswer small_below 9 offsets (Least 5) → ⊥
not_packed_at_5 offsets h = elim h.least.1 [
  | inl e ↦ absurd (omega arith)
  | inr f ↦ f (1 ∷ 0 ∷ []) laid_at_4
]
