-- What the number of steps says of a layout and of a log.
use Rattle.std.proofs.Common.{◌≡◌, ◌+◌, ◌-◌, ◌<◌, ◌≤◌, inl, inr, ℕ, List, length, Option, Some, None, ap, subst, arith}
use Rattle.dsa_terms.specs.Bounds.{lower_bound}
use Rattle.dsa_terms.specs.Buffers.{Instance, IsInstance}
use Rattle.dsa_terms.specs.Layouts.{IsInfeasible, IsLayout}
use Rattle.dsa_terms.specs.Logs.{Log}
use Rattle.dsa_terms.specs.Plans.{layout_height}
use Rattle.dsa_terms.proofs.Lists.{none_or_some}
use Rattle.dsa_search_laws.proofs.Plans.{layout_under}
use Rattle.dsa_start_laws.proofs.Planned.{planned_is_layout}
use Rattle.min_capacity.specs.declared.brackets.Bracket.{Bracket}
use Rattle.planner.specs.Decides.{IsBoundLog, LeavesNoLayout}
use Rattle.planner.specs.FirstStart.{start_within}
use Rattle.planner.specs.LeastCapacity.{AreWithinSteps, IsLayoutWithin, IsLogWithin}
use Rattle.planner.specs.Openings.{AreGiven, StaysOpen, IsSpentAt}
use Rattle.planner.proofs.BestStart.{past_starts}
use Rattle.planner.proofs.Choosing.{le_or_lt, planned_start}
use Rattle.planner.proofs.Keeping.{none_given}

fewer_given : (steps : Option ℕ) (m n : ℕ) → m ≤ n → AreGiven steps n → AreGiven steps m
fewer_given None m n le given = tt
fewer_given (Some k) m n le given = omega (arith, le, given)

-- ---- a capacity that is decided
-- a layout does not come below the lower bound
pub layout_given : (I : Instance) (C : ℕ) (steps : Option ℕ) → (C < lower_bound I → ⊥) →
    (start_within I C ≡ None → lower_bound I ≤ C → AreGiven steps 1) → start_within I C ≡ None → AreGiven steps 1
layout_given I C steps low given none = elim (le_or_lt (lower_bound I) C) [
  | inl le ↦ given none le
  | inr lt ↦ absurd (low lt)
]

-- a start within the capacity would be a layout
pub no_start : (I : Instance) (C : ℕ) → IsInstance I → IsInfeasible I C → start_within I C ≡ None
no_start I C sound none = elim (none_or_some (start_within I C)) [
  | inl is ↦ is
  | inr found ↦ absurd (none found.0 (planned_is_layout I C found.0 sound (planned_start I C found.0 found.1)))
]

-- ---- what halving comes to
-- where no start is within the capacity of its layout, the layout is none
pub layout_took : (I : Instance) (steps : Option ℕ) (low C : ℕ) (offsets : List ℕ) (log : Option Log) →
    AreWithinSteps I steps low offsets log → IsLayout I C offsets → start_within I C ≡ None → AreGiven steps 1
layout_took I steps low C offsets log h layout none = go h.layout h.given
  where
    go : {k : ℕ} → IsLayoutWithin I k offsets → AreGiven steps (k + h.log_steps) → AreGiven steps 1
    go (inl e) given =
        let under = layout_under I C offsets layout in
        let same = ap (layout_height I) e in
        let above = past_starts I C none in
        absurd (omega (arith, under, same, above))
    go {k} (inr le) given = fewer_given steps 1 (k + h.log_steps) (omega (arith, le)) given

-- where the bound leaves the capacity of its log open, the log is not the bound's
pub log_took : (I : Instance) (steps : Option ℕ) (low : ℕ) (offsets : List ℕ) (log : Log) →
    AreWithinSteps I steps low offsets (Some log) → 1 ≤ low → log.capacity ≡ low - 1 → lower_bound I ≤ low - 1 →
    AreGiven steps (length log.lines)
log_took I steps low offsets log h positive its_capacity le = go h.log h.given
  where
    go : {k : ℕ} → IsLogWithin I k low (Some log) → AreGiven steps (h.layout_steps + k) →
        AreGiven steps (length log.lines)
    go (inl below) given =
        let at_bound = below.1.refutation.its_capacity in
        let some = below.0 in
        absurd (omega (arith, at_bound, some, its_capacity, positive, le))
    go {k} (inr g) given =
        let same : log ≡ g.0 = cc in
        let lines = ap (λ (l : Log). length l.lines) same in
        let few = g.3 in
        fewer_given steps (length log.lines) (h.layout_steps + k) (omega (arith, lines, few)) given

-- the best start and the bound's log take no steps
pub spent_took : (I : Instance) (C : ℕ) (steps : Option ℕ) (b : Bracket) (log : Log) → IsSpentAt I C steps b →
    StaysOpen I b.low b.high b.layout.items log → IsBoundLog I (b.low - 1) log →
    AreWithinSteps I steps b.low b.layout.items (Some log)
spent_took I C steps b log spent opened by_bound =
    let low = spent.low_is_bound in
    let at_bound : b.low - 1 ≡ lower_bound I - 1 = ap (λ n. n - 1) low in
    record {
      layout_steps = 0;
      log_steps = 0;
      layout = inl spent.layout_is_best;
      log = inl (
        (let k = opened.positive in omega (arith, k, low)),
        record {
          refutation = subst (λ n. LeavesNoLayout I n log) at_bound opened.refuted_below;
          by_bound = subst (λ n. IsBoundLog I n log) at_bound by_bound;
        },
      );
      given = none_given steps;
    }
