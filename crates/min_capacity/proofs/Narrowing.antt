-- Brackets that narrow.
use Rattle.std.proofs.Common.{◌≡◌, ℕ, ◌+◌, ◌-◌, ◌/◌, ◌<◌, ◌≤◌, ◌⊎◌, inl, inr, List, Option, Some, None, sym, ap, ◌∙◌, subst, arith}
use Rattle.std.specs.List.{All}
use Rattle.std.proofs.lemmas.Grind.{get_or_default_zero}
use Rattle.dsa_terms.specs.Buffers.{Instance, IsInstance}
use Rattle.dsa_terms.specs.Layouts.{IsLayout, IsInfeasible, IsLeast}
use Rattle.dsa_terms.specs.Logs.{IsAccepted, Log}
use Rattle.dsa_terms.specs.Plans.{layout_height}
use Rattle.dsa_search_laws.proofs.Logs.{accepted_is_infeasible, layout_higher}
use Rattle.dsa_search_laws.proofs.Plans.{layout_under, under_layout_height}
use Rattle.refute_log.specs.Answers.{Answer, Offsets, Refutation}
use Rattle.min_capacity.specs.Brackets.{IsBracket, LayoutComes, LogComes, Narrows, Refutes}
use Rattle.min_capacity.specs.declared.brackets.Bracket.{Bracket}
use Rattle.min_capacity.proofs.Halvings.{middle}

-- a layout is one at its height
layout_at_height : (I : Instance) (C : ℕ) (offsets : List ℕ) → IsLayout I C offsets →
    IsLayout I (layout_height I offsets) offsets
layout_at_height I C offsets h = record {
  count = h.count;
  aligned = h.aligned;
  above = h.above;
  within = λ b lt. under_layout_height I offsets b lt;
  apart = h.apart;
}

pub offsets_limited : (I : Instance) (C D : ℕ) (offsets : List ℕ) → IsLayout I C offsets → C ≤ D →
    All (λ x. x ≤ D) offsets
offsets_limited I C D offsets h le k d lt =
    let e = get_or_default_zero offsets k d lt in
    let w = h.within k (let q = h.count in omega arith) in
    omega (arith, e, w)

-- no layout ends below a bracket
above_low : (I : Instance) (low C : ℕ) (log : Option Log) (offsets : List ℕ) → IsInstance I → Refutes I low log →
    IsLayout I C offsets → low ≤ C
above_low I low C None offsets sound r l = omega (arith, r)
above_low I low C (Some log) offsets sound r l = elim (cases low C) [
  | inl le ↦ le
  | inr lt ↦ absurd (
      let e = r.1 in
      accepted_is_infeasible I log sound r.0 offsets (layout_higher I C log.capacity offsets (omega arith) l))
]
  where
    cases : (x y : ℕ) → (x ≤ y) ⊎ (y < x)
    cases x y = grind arith

module _ {I : Instance} {gives : ℕ → Answer → Type 0} {start b : Bracket} {C : ℕ} (h : Narrows I gives start b)
    (lt : b.low < b.high) (mid : C ≡ (b.low + b.high) / 2) where
  -- the layout at the middle is lower
  pub layout_lower : (offsets : List ℕ) → IsLayout I C offsets → layout_height I offsets < b.high
  layout_lower offsets l = let m = (middle b.low b.high lt).1 in let k = layout_under I C offsets l in omega arith

  -- it lowers the upper end to its height
  pub narrowed_by_layout : (n : Bracket) → IsInstance I → IsLayout I C n.layout.items →
      gives C (Offsets n.layout.items) → n.low ≡ b.low → n.log ≡ b.log → n.high ≡ layout_height I n.layout.items →
      Narrows I gives start n
  narrowed_by_layout n sound laid given low log high = record {
    bracket = record {
      ordered = omega (arith, above);
      limit = let k = h.bracket.limit in omega (arith, below);
      layout = subst (λ x. IsLayout I x n.layout.items) (sym high) at_height;
      height = sym high;
      log = subst (λ x. Refutes I x n.log) (sym low) (subst (Refutes I b.low) (sym log) h.bracket.log);
    };
    low = let k = h.low in omega arith;
    high = let k = h.high in omega (arith, below);
    layout =
        inr (C, omega (arith, under), (let m = (middle b.low b.high lt).1 in let k = h.high in omega arith), given);
    log = logs h.log;
  }
    where
      at_height : IsLayout I (layout_height I n.layout.items) n.layout.items
      at_height = layout_at_height I C n.layout.items laid

      under : layout_height I n.layout.items ≤ C
      under = layout_under I C n.layout.items laid

      above : b.low ≤ layout_height I n.layout.items
      above = above_low I b.low (layout_height I n.layout.items) b.log n.layout.items sound h.bracket.log at_height

      below : layout_height I n.layout.items < b.high
      below = layout_lower n.layout.items laid

      logs : LogComes gives start b → LogComes gives start n
      logs (inl e) = inl (log ∙ e)
      logs (inr g) = inr (g.0, log ∙ g.1, subst (λ x. gives (x - 1) (Refutation g.0)) (sym low) g.2)

  -- a log at the middle raises the lower end past it
  pub narrowed_by_log : (n : Bracket) (log : Log) → IsAccepted I log → log.capacity ≡ C → gives C (Refutation log) →
      n.low ≡ C + 1 → n.log ≡ Some log → n.high ≡ b.high → n.layout.items ≡ b.layout.items → Narrows I gives start n
  narrowed_by_log n log accepted its given low logged high layout = record {
    bracket = record {
      ordered = omega (arith, below);
      limit = let k = h.bracket.limit in omega arith;
      layout = subst (λ x. IsLayout I x n.layout.items) (sym high)
          (subst (IsLayout I b.high) (sym layout) h.bracket.layout);
      height = ap (layout_height I) layout ∙ h.bracket.height ∙ sym high;
      log = subst (Refutes I n.low) (sym logged) (accepted, omega arith);
    };
    low = let k = h.low in let m = (middle b.low b.high lt).0 in omega arith;
    high = let k = h.high in omega arith;
    layout = layouts h.layout;
    log = inr (log, logged, subst (λ x. gives x (Refutation log)) one_less given);
  }
    where
      below : C < b.high
      below = let m = (middle b.low b.high lt).1 in omega arith

      one_less : C ≡ n.low - 1
      one_less = omega arith

      layouts : LayoutComes gives start b → LayoutComes gives start n
      layouts (inl e) = inl (layout ∙ e)
      layouts (inr g) =
          inr (g.0, (let k = g.1 in omega arith), g.2, subst (λ o. gives g.0 (Offsets o)) (sym layout) g.3)

-- ends that meet are the least capacity
pub met_is_least : (I : Instance) (b : Bracket) → IsInstance I → IsBracket I b → b.high ≤ b.low → IsLeast I b.high
met_is_least I b sound h le = ((b.layout.items, h.layout), none_below b.log h.log)
  where
    none_below : (o : Option Log) → Refutes I b.low o → (b.high ≡ 0) ⊎ IsInfeasible I (b.high - 1)
    none_below None r = inl (let k = h.ordered in omega arith)
    none_below (Some log) r =
        let k = h.ordered in
        let q = r.1 in
        let e : log.capacity ≡ b.high - 1 = omega arith in
        inr (subst (IsInfeasible I) e (accepted_is_infeasible I log sound r.0))
