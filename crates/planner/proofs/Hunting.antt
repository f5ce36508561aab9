-- Halving by the search below the height of the best start takes the work that halving by the plan takes.
use Rattle.std.proofs.Common.{◌≡◌, ℕ, zero, suc, ◌+◌, ◌-◌, ◌/◌, ◌<◌, ◌≤◌, inl, inr, List, Option, Some, None, refl, sym, ap, ◌∙◌, arith}
use Rattle.std.specs.Prelude.{min, option_map}
use Rattle.dsa_terms.specs.Buffers.{Instance, IsInstance}
use Rattle.dsa_terms.specs.Parts.{searched, whole_work}
use Rattle.dsa_terms.specs.Plans.{after_plan, hunt, layout_height, plan}
use Rattle.dsa_terms.specs.Starts.{best_start, hunted, planned, starts}
use Rattle.dsa_terms.proofs.NumberTests.{below_or_from}
use Rattle.dsa_search_laws.proofs.Parts.{searched_is_layout}
use Rattle.dsa_search_laws.proofs.Plans.{hunt_equation, hunt_met, layout_under}
use Rattle.refute_log.specs.Halvings.{after_turn, halving}
use Rattle.search_core.specs.Decisions.{turn_of}
use Rattle.min_capacity.proofs.Halvings.{halving_equation, halving_met, middle}
use Rattle.planner.proofs.BestStart.{planned_below}

-- the work by the search, and the work by the plan
abbrev by_search : Instance → ℕ → ℕ → ℕ
by_search I a b = halving (whole_work I) (turn_of I) a b

abbrev by_plan : Instance → ℕ → ℕ → ℕ
by_plan I a b = hunt (starts I) I a b

plan_is_search : (I : Instance) (C : ℕ) → C < layout_height I (best_start I) → plan (starts I) I C ≡ searched I C
unfolding planned
plan_is_search I C lt = planned_below I C lt

-- the same is left after the middle, by what the search answers there
same_after : (I : Instance) (a b m : ℕ) (found : Option (List ℕ)) → IsInstance I → searched I m ≡ found →
    a ≤ m → m < b → ((x y : ℕ) → y ≤ b → y - x < b - a → by_search I x y ≡ by_plan I x y) →
    after_turn (by_search I) a b m (option_map (layout_height I) found) ≡ after_plan (by_plan I) I a b m found
same_after I a b m None s e le lt ih = ih (m + 1) b (omega arith) (omega arith)
same_after I a b m (Some offsets) s e le lt ih =
    let h = layout_under I m offsets (searched_is_layout I m offsets s e) in
    let k : min (layout_height I offsets) m ≡ layout_height I offsets = omega arith in
    ap (by_search I a) k ∙ ih a (layout_height I offsets) (omega arith) (omega arith)

same_within : (n : ℕ) (I : Instance) (a b : ℕ) → IsInstance I → b ≤ layout_height I (best_start I) → b - a ≤ n →
    by_search I a b ≡ by_plan I a b
same_within zero I a b s le few =
    halving_met (whole_work I) (turn_of I) a b (omega arith) ∙ sym (hunt_met (starts I) I a b (omega arith))
same_within (suc n) I a b s le few = elim (below_or_from a b) [
  | inr met ↦ halving_met (whole_work I) (turn_of I) a b met ∙ sym (hunt_met (starts I) I a b met)
  | inl lt ↦
      let m = middle a b lt in
      let below : (a + b) / 2 < layout_height I (best_start I) = let k = m.1 in omega arith in
      halving_equation (whole_work I) (turn_of I) a b lt
      ∙ ap (λ w. whole_work I ((a + b) / 2) + w)
      (same_after I a b ((a + b) / 2) (searched I ((a + b) / 2)) s refl m.0 m.1
      (λ x y below shorter. same_within n I x y s (omega arith) (omega arith)))
      ∙ ap (λ p. whole_work I ((a + b) / 2) + after_plan (by_plan I) I a b ((a + b) / 2) p)
      (sym (plan_is_search I ((a + b) / 2) below))
      ∙ sym (hunt_equation (starts I) I a b s lt)
]

pub same_hunt : (I : Instance) (a b : ℕ) → IsInstance I → b ≤ layout_height I (best_start I) →
    halving (whole_work I) (turn_of I) a b ≡ hunted I a b
unfolding hunted
same_hunt I a b s le = same_within (b - a) I a b s le (omega arith)
