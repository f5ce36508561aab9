-- What the starts and the search come to together.
use Rattle.std.proofs.Common.{◌≡◌, ℕ, ◌<◌, ◌≤◌, ◌↔◌, ◌⊎◌, inl, inr, List, Option, Some, None, IsSome, length, refl, subst, arith}
use Rattle.dsa_terms.specs.Bounds.{lower_bound}
use Rattle.dsa_terms.specs.Buffers.{Instance, IsInstance}
use Rattle.dsa_terms.specs.Layouts.{IsFeasible, IsInfeasible}
use Rattle.dsa_terms.specs.Logs.{Log}
use Rattle.dsa_terms.specs.Parts.{searched}
use Rattle.dsa_terms.specs.Plans.{plan}
use Rattle.dsa_terms.specs.Starts.{planned}
use Rattle.dsa_search_laws.specs.Searches.{most_work}
use Rattle.dsa_search_laws.proofs.Totals.{whole_work_bound}
use Rattle.dsa_start_laws.proofs.Planned.{planned_is_layout}
use Rattle.dsa_start_laws.proofs.Stacks.{bound_is_low}
use Rattle.planner.specs.Decides.{IsAnswered}
use Rattle.planner.specs.Decisions.{Decides, IsByLog, IsExact, IsLaidOut}
use Rattle.planner.specs.Openings.{AreEnough}
use Rattle.planner.specs.FirstStart.{start_within}
use Rattle.planner.specs.declared.decision.Decision.{Decision}
use Rattle.planner.specs.declared.decision.Decision.TheVariants.{Layout, Refuted, Open}

-- ---- the starts before the search
pub planned_start : (I : Instance) (C : ℕ) (offsets : List ℕ) → start_within I C ≡ Some offsets →
    planned I C ≡ Some offsets
unfolding planned plan
planned_start I C offsets h = rw h refl

planned_search : (I : Instance) (C : ℕ) → start_within I C ≡ None → planned I C ≡ searched I C
unfolding planned plan
planned_search I C h = rw h refl

pub start_decides : (I : Instance) (C : ℕ) (offsets : List ℕ) → IsInstance I → start_within I C ≡ Some offsets →
    IsAnswered (planned I C) I C offsets
start_decides I C offsets s h =
    let p = planned_start I C offsets h in record { chosen = p; layout = planned_is_layout I C offsets s p }

pub search_decides : (I : Instance) (C : ℕ) (offsets : List ℕ) → start_within I C ≡ None →
    IsAnswered (searched I C) I C offsets → IsAnswered (planned I C) I C offsets
search_decides I C offsets h q = rw (planned_search I C h) q

-- ---- which decision comes
pub laid_out_fits : (I : Instance) (C : ℕ) (steps : Option ℕ) (d : Decision) → Decides I C steps d → IsLaidOut d →
    IsFeasible I C
laid_out_fits I C steps (Layout offsets) h laid = (offsets.items, h.layout)
laid_out_fits I C steps (Refuted log) h laid = absurd laid
laid_out_fits I C steps (Open b) h laid = absurd laid

pub refuted_refutes : (I : Instance) (C : ℕ) (steps : Option ℕ) (d : Decision) → Decides I C steps d → IsByLog d →
    IsInfeasible I C
refuted_refutes I C steps (Layout offsets) h refuted = absurd refuted
refuted_refutes I C steps (Refuted log) h refuted = h.infeasible
refuted_refutes I C steps (Open b) h refuted = absurd refuted

pub laid_out_exactly : (I : Instance) (C : ℕ) (steps : Option ℕ) (d : Decision) → steps ≡ None → Decides I C steps d →
    IsLaidOut d ↔ IsFeasible I C
laid_out_exactly I C steps (Layout offsets) none h = (λ laid. (offsets.items, h.layout), λ feasible. tt)
laid_out_exactly I C steps (Refuted log) none h =
    (λ laid. absurd laid, λ feasible. absurd (h.infeasible feasible.0 feasible.1))
laid_out_exactly I C steps (Open b) none h = let given = h.too_few.given in absurd cc

pub refuted_exactly : (I : Instance) (C : ℕ) (steps : Option ℕ) (d : Decision) → steps ≡ None → Decides I C steps d →
    IsByLog d ↔ IsInfeasible I C
refuted_exactly I C steps (Layout offsets) none h =
    (λ refuted. absurd refuted, λ infeasible. absurd (infeasible offsets.items h.layout))
refuted_exactly I C steps (Refuted log) none h = (λ refuted. h.infeasible, λ infeasible. tt)
refuted_exactly I C steps (Open b) none h = let given = h.too_few.given in absurd cc

-- with as many steps as a search can take it never stays open
pub enough_is_exact : (I : Instance) (C : ℕ) (steps : Option ℕ) (d : Decision) → AreEnough I steps →
    Decides I C steps d → IsExact I C d
enough_is_exact I C steps (Layout offsets) enough h = (
  (λ laid. (offsets.items, h.layout), λ feasible. tt),
  (λ refuted. absurd refuted, λ infeasible. absurd (infeasible offsets.items h.layout)),
)
enough_is_exact I C steps (Refuted log) enough h = (
  (λ laid. absurd laid, λ feasible. absurd (h.infeasible feasible.0 feasible.1)),
  (λ refuted. h.infeasible, λ infeasible. tt),
)
enough_is_exact I C steps (Open b) enough h =
    let few = h.too_few in
    let k : most_work (length I) ≤ few.number = subst (AreEnough I) few.given enough in
    let most = whole_work_bound I C in
    let less = few.below_work in
    absurd (omega arith)

-- ---- the bound
pub le_or_lt : (m n : ℕ) → (m ≤ n) ⊎ (n < m)
le_or_lt m n = grind arith

-- where the bound has no log, the capacity is not below it
pub not_below : (found : Option Log) (C bound : ℕ) → (IsSome found ↔ (C < bound)) → found ≡ None → bound ≤ C
not_below found C bound h e = elim (le_or_lt bound C) [
  | inl le ↦ le
  | inr lt ↦ absurd (let some = rw e at h.1 lt in cc)
]

-- where the bound has a log, the capacity is below it
pub is_below : (found : Option Log) (log : Log) (C bound : ℕ) → (IsSome found ↔ (C < bound)) → found ≡ Some log →
    C < bound
is_below found log C bound h e = h.0 (rw e refl)

-- no start is below it
pub start_is_high : (I : Instance) (C : ℕ) (offsets : List ℕ) → IsInstance I → IsAnswered (planned I C) I C offsets →
    lower_bound I ≤ C
start_is_high I C offsets s h = bound_is_low I C s (offsets, h.layout)
