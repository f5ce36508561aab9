-- What the planner finds without steps: the least capacity by the bound's log, or a bracket that is open from there.
use Rattle.std.proofs.Common.{◌≡◌, ℕ, ◌-◌, ◌<◌, ◌≤◌, inl, inr, List, length, Option, None, Some, refl, sym, subst, arith}
use Rattle.std.specs.List.{All}
use Rattle.dsa_terms.specs.Bounds.{lower_bound}
use Rattle.dsa_terms.specs.Buffers.{Instance, IsInstance}
use Rattle.dsa_terms.specs.Logs.{IsAccepted, Log}
use Rattle.dsa_terms.specs.Plans.{layout_height}
use Rattle.dsa_terms.specs.Starts.{best_start}
use Rattle.dsa_terms.proofs.Lists.{same_some}
use Rattle.dsa_start_laws.proofs.Stacks.{bound_is_low}
use Rattle.dsa_model.specs.Buffer.{IsBuffer, buffer_limit}
use Rattle.first_fit.specs.Starts.{IsStart}
use Rattle.first_fit.specs.declared.start_list.Start.{Start}
use Rattle.min_capacity.specs.Brackets.{Refutes}
use Rattle.min_capacity.specs.declared.brackets.Bracket.{Bracket}
use Rattle.planner.specs.Decides.{IsBoundLog, LeavesNoLayout}
use Rattle.planner.specs.Decisions.{Decides, IsByBound, decision_steps}
use Rattle.planner.specs.FirstBracket.{IsLogBelow}
use Rattle.planner.specs.FirstStart.{start_within}
use Rattle.planner.specs.LeastCapacity.{AreWithinSteps, IsExactly, IsLogWithin, IsOpenAfter, IsWithinSteps, RefutesBelow}
use Rattle.planner.specs.Openings.{AreGiven, IsSpentAt, StaysOpen}
use Rattle.planner.specs.declared.decision.Decision.{Decision}
use Rattle.planner.specs.declared.decision.Decision.TheVariants as decision
use Rattle.planner.proofs.Choosing.{le_or_lt}
use Rattle.planner.proofs.Stepping.{no_start}
use Rattle.packer.specs.Packs.{IsPackedTight, PacksWithin, RefutesOneLess, RefutesWithin}
use Rattle.packer.specs.Starts.{IsOpenFrom}
use Rattle.packer.proofs.BestStart.{best_low}
use Rattle.packer.proofs.Brief.{bound_line, one_line, some_lines}

-- ---- without steps a log is the bound's, and its end the lower bound
without_steps : (I : Instance) (low : ℕ) (offsets : List ℕ) (log : Log) → IsAccepted I log →
    AreWithinSteps I (Some 0) low offsets (Some log) → IsLogBelow I (lower_bound I) (Some log)
without_steps I low offsets log a h = go h.log
  where
    go : IsLogWithin I h.log_steps low (Some log) → IsLogBelow I (lower_bound I) (Some log)
    go (inl b) = b
    go (inr g) =
        let same : log ≡ g.0 = same_some g.1 in
        let le = subst (λ (l : Log). length l.lines ≤ h.log_steps) (sym same) g.3 in
        let some = some_lines I log a in
        let given = h.given in
        absurd (omega arith)

at_bound : (I : Instance) (low : ℕ) (log : Log) → 1 ≤ low → log.capacity ≡ low - 1 →
    IsLogBelow I (lower_bound I) (Some log) → (low ≡ lower_bound I) × IsBoundLog I (low - 1) log
at_bound I low log some e h =
    let c = h.1.refutation.its_capacity in
    let one = h.0 in
    let same : low ≡ lower_bound I = omega arith in
    (same, subst (λ (n : ℕ). IsBoundLog I (n - 1) log) (sym same) h.1.by_bound)

-- ---- the least capacity is found at once
refuted_at_once : (I : Instance) (low steps : ℕ) (offsets : List ℕ) (o : Option Log) → RefutesBelow I low o →
    AreWithinSteps I (Some 0) low offsets o → RefutesOneLess I low steps o
refuted_at_once I low steps offsets None z h = z
refuted_at_once I low steps offsets (Some log) r h =
    let at = at_bound I low log r.0 r.1.its_capacity (without_steps I low offsets log r.1.accepted h) in
    let one = bound_line I (low - 1) log at.1 in (
      r.0,
      record {
        accepted = r.1.accepted;
        its_capacity = r.1.its_capacity;
        infeasible = r.1.infeasible;
        trimmed = one_line I log r.1.accepted (omega arith);
        few = inl at.1;
      },
    )

pub tight_at_once : (I : Instance) (steps : ℕ) (b : Bracket) → IsExactly I b → IsWithinSteps I (Some 0) b →
    IsPackedTight I steps b
tight_at_once I steps b h w = record {
  between = record {
    layout = h.layout;
    its_height = h.its_height;
    refuted_below = refuted_at_once I b.low steps b.layout.items b.log
        (subst (λ (C : ℕ). RefutesBelow I C b.log) (sym h.ends_met) h.refuted_below) w;
  };
  ends_met = h.ends_met;
  least = h.least;
  zero_for_none = h.zero_for_none;
}

-- ---- a capacity is decided at once
refuted_at : (I : Instance) (C steps : ℕ) (log : Log) → IsInstance I → LeavesNoLayout I C log →
    (C < lower_bound I → IsBoundLog I C log) →
    (start_within I C ≡ None → lower_bound I ≤ C → length log.lines ≤ 0) → RefutesWithin I C steps log
refuted_at I C steps log sound h bound few =
    let some = some_lines I log h.accepted in
    let by_bound : IsBoundLog I C log = elim (le_or_lt (lower_bound I) C) [
      | inl le ↦ absurd (let none = few (no_start I C sound h.infeasible) le in omega arith)
      | inr lt ↦ bound lt
    ] in
    let one = bound_line I C log by_bound in
    record {
      accepted = h.accepted;
      its_capacity = h.its_capacity;
      infeasible = h.infeasible;
      trimmed = one_line I log h.accepted (omega arith);
      few = inl by_bound;
    }

pub decided_at_once : (I : Instance) (C steps : ℕ) (d : Decision) → IsInstance I → Decides I C (Some 0) d →
    (C < lower_bound I → IsByBound I C d) →
    (start_within I C ≡ None → lower_bound I ≤ C → AreGiven (Some 0) (decision_steps d)) →
    ((b : Bracket) → d ≡ decision.Open b → ⊥) → PacksWithin I C steps d
decided_at_once I C steps (decision.Layout offsets) sound h bound few closed = h.layout
decided_at_once I C steps (decision.Refuted log) sound h bound few closed = refuted_at I C steps log sound h bound few
decided_at_once I C steps (decision.Open b) sound h bound few closed = absurd (closed b refl)

-- ---- it stays open
opens : (I : Instance) (b : Bracket) (log : Log) → All IsBuffer I → length I ≤ buffer_limit → b.log ≡ Some log →
    StaysOpen I b.low b.high b.layout.items log → b.low ≡ lower_bound I → IsBoundLog I (b.low - 1) log →
    b.high ≤ layout_height I (best_start I) → IsOpenFrom I b
opens I b log all few e s low bound high =
    let best = best_low I all few in
    let apart = s.ends_apart in
    let some = s.positive in
    let c = s.refuted_below.its_capacity in
    record {
      bracket = record {
        ordered = omega arith;
        limit = omega arith;
        layout = s.layout;
        height = s.its_height;
        log = subst (Refutes I b.low) (sym e) (s.refuted_below.accepted, omega arith);
      };
      positive = some;
      at_bound = low;
      bound_log = log;
      its_log = e;
      by_bound = bound;
      to_best = high;
      limit = omega arith;
    }

pub open_from : (I : Instance) (b : Bracket) → All IsBuffer I → length I ≤ buffer_limit → IsOpenAfter I (Some 0) b →
    IsWithinSteps I (Some 0) b → IsOpenFrom I b
open_from I b all few h w =
    let refuted = h.stays_open.refuted_below in
    let below = without_steps I b.low b.layout.items h.below_log refuted.accepted
    (subst (AreWithinSteps I (Some 0) b.low b.layout.items) h.its_log w) in
    let at = at_bound I b.low h.below_log h.stays_open.positive refuted.its_capacity below in
    opens I b h.below_log all few h.its_log h.stays_open at.0 at.1 h.to_best

pub open_at : (I : Instance) (C : ℕ) (b : Bracket) → All IsBuffer I → length I ≤ buffer_limit →
    IsSpentAt I C (Some 0) b →
    IsOpenFrom I b
open_at I C b all few h = opens I b h.bound_log all few h.its_log h.stays_open h.low_is_bound h.by_bound
    (let e = h.high_is_best in omega arith)

-- ---- with a layout that is no higher than the best start
pub with_start : (I : Instance) (b : Bracket) (s : Start) → IsInstance I → IsOpenFrom I b → IsStart I s →
    s.height ≤ layout_height I (best_start I) → IsOpenFrom I (record b { high = s.height; layout = s.offsets })
with_start I b s sound h start le =
    let bound = bound_is_low I s.height sound (s.offsets.items, start.layout) in
    let at = h.at_bound in
    record {
      bracket = record {
        ordered = omega arith;
        limit = omega arith;
        layout = start.layout;
        height = sym start.height;
        log = h.bracket.log;
      };
      positive = h.positive;
      at_bound = at;
      bound_log = h.bound_log;
      its_log = h.its_log;
      by_bound = h.by_bound;
      to_best = le;
      limit = start.limit;
    }
