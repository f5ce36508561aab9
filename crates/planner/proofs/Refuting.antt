-- Accepted logs as refutations of their capacity.
use Rattle.std.proofs.Common.{◌≡◌, ℕ, List, ◌<◌, ◌≤◌, inl, inr, refl, sym, ap, subst, ◌∙◌, arith}
use Rattle.std.specs.List.{All}
use Rattle.dsa_terms.specs.Bounds.{bound_modulus, heights, lower_bound, stack, stack_log, stack_line, line_height}
use Rattle.dsa_terms.specs.Buffers.{Instance, IsInstance}
use Rattle.dsa_terms.specs.Claims.{IsIn}
use Rattle.dsa_terms.specs.Layouts.{IsInfeasible}
use Rattle.dsa_terms.specs.Lean.{IsLean}
use Rattle.dsa_terms.specs.Logs.{Log, IsAccepted}
use Rattle.dsa_start_laws.specs.Reaching.{bound_height, bound_moment}
use Rattle.dsa_search_laws.proofs.Logs.{accepted_is_infeasible}
use Rattle.dsa_start_laws.proofs.Peaks.{stack_is_lean}
use Rattle.dsa_model.specs.Buffer.{IsBuffer}
use Rattle.dsa_model.proofs.Instances.{sound_instance}
use Rattle.lower_bounds.specs.Best.{IsBoundOf}
use Rattle.lower_bounds.specs.BoundMoment.{IsBoundMoment}
use Rattle.lower_bounds.specs.declared.value.Bound.{Bound}
use Rattle.search_core.specs.Decisions.{IsRefutation}
use Rattle.planner.specs.Decides.{LeavesNoLayout, IsStackRefutation}
use Rattle.planner.specs.FirstBracket.{IsLowerBound}

infeasible_at : (I : Instance) (C : ℕ) (log : Log) → IsInstance I → IsAccepted I log → log.capacity ≡ C →
    IsInfeasible I C
infeasible_at I C log s a e = let P : ℕ → Type 0 = IsInfeasible I in subst P e (accepted_is_infeasible I log s a)

-- ---- the log of the search
pub search_refutes : (I : Instance) (C : ℕ) (log : Log) → All IsBuffer I → IsRefutation I C log →
    LeavesNoLayout I C log
search_refutes I C log s h = record {
  accepted = h.accepted;
  its_capacity = h.capacity;
  infeasible = infeasible_at I C log (sound_instance I s) h.accepted h.capacity;
  lean = h.lean;
}

-- ---- the bound
pub is_lower_bound : (I : Instance) (starts : List ℕ) (b : Bound) → b.capacity ≡ lower_bound I →
    b.modulus ≡ bound_modulus I → b.moment ≡ bound_moment I starts → b.height ≡ bound_height I starts → IsBoundOf I b →
    (1 ≤ lower_bound I → IsIn (bound_height I starts) (heights I (bound_modulus I))) →
    (1 ≤ lower_bound I → IsBoundMoment I (bound_moment I starts)) →
    ((H : ℕ) → IsIn H (heights I (bound_modulus I)) →
    stack I (bound_moment I starts) H (bound_modulus I) ≡ lower_bound I → bound_height I starts ≤ H) →
    IsLowerBound I b
is_lower_bound I starts b c m t h is from moment least = record {
  capacity = c;
  modulus = m;
  moment = rw (c, t) moment;
  reached = is;
  from = rw (c, m, h) from;
  least = rw (c, m, t, h) least;
}

-- ---- the log of the bound
stack_capacity : (I : Instance) (t H G C : ℕ) → (stack_log I t H G C).capacity ≡ C
unfolding stack_log stack_line line_height
stack_capacity I t H G C = refl

stack_refutes : (I : Instance) (t H G C : ℕ) (log : Log) → All IsBuffer I → log ≡ stack_log I t H G C →
    IsAccepted I log → LeavesNoLayout I C log
stack_refutes I t H G C log s q a =
    let e : log.capacity ≡ C = ap (λ (l : Log). l.capacity) q ∙ stack_capacity I t H G C in
    let P : Log → Type 0 = IsLean I in
    record {
      accepted = a;
      its_capacity = e;
      infeasible = infeasible_at I C log (sound_instance I s) a e;
      lean = subst P (sym q) (stack_is_lean I t H G C);
    }

reaches : (I : Instance) (C : ℕ) (b : Bound) → IsBoundOf I b → C < b.capacity →
    b.capacity ≡ stack I b.moment b.height b.modulus
reaches I C b (inl z) lt = absurd (omega arith)
reaches I C b (inr h) lt = h.2

pub bound_refutes : (I : Instance) (C : ℕ) (b : Bound) (log : Log) → All IsBuffer I → IsLowerBound I b →
    C < b.capacity → log ≡ stack_log I b.moment b.height b.modulus C → IsAccepted I log → IsStackRefutation I C log
bound_refutes I C b log s h lt q a = record {
  refutation = stack_refutes I b.moment b.height b.modulus C log s q a;
  by_bound = record {
    moment = b.moment;
    height = b.height;
    its_moment = h.moment (omega arith);
    from = rw (← h.modulus) (h.from (omega arith));
    reached = rw (← h.modulus) (sym (reaches I C b h.reached lt) ∙ h.capacity);
    least = rw (← h.modulus, ← h.capacity) h.least;
    one_line = rw (← h.modulus) q;
  };
}
