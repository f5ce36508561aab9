-- The bracket that is reached, and the decider's counts since the start.
use Rattle.std.proofs.Common.{◌≡◌, ℕ, ◌+◌, ◌/◌, ◌<◌, ◌≤◌, inl, inr, Option, Some, None, sym, ap, ◌∙◌, subst, arith}
use Rattle.dsa_terms.specs.Buffers.{Instance, IsInstance}
use Rattle.dsa_terms.specs.Layouts.{IsLayout}
use Rattle.dsa_terms.specs.Logs.{IsAccepted, Log}
use Rattle.dsa_terms.specs.Plans.{layout_height}
use Rattle.dsa_search_laws.proofs.Plans.{layout_under}
use Rattle.refute_log.specs.Answers.{Answer, Offsets, Refutation}
use Rattle.refute_log.specs.Halvings.{halving}
use Rattle.min_capacity.specs.Brackets.{ArePaid, IsShort, LayoutIsPaid, LogIsPaid, Narrows}
use Rattle.min_capacity.specs.declared.brackets.Bracket.{Bracket}
use Rattle.min_capacity.proofs.Halvings.{halving_at_call, halving_at_layout, halving_at_log, middle}
use Rattle.min_capacity.proofs.Narrowing.{narrowed_by_layout, narrowed_by_log}

-- the bracket has narrowed, the counts s and u have risen to s' and u', by the charges at least, and the halving that
-- is left is within the first
pub record Halves (I : Instance) (gives : ℕ → Answer → Type 0) (most : ℕ → ℕ) (turn : ℕ → Option ℕ)
    (charge : Answer → ℕ) (start b : Bracket) (s s' u u' : ℕ) : Type 0 where
  pub narrowed : Narrows I gives start b
  pub spends : s ≤ s'
  pub units : u ≤ u'
  pub used : u' + halving most turn b.low b.high ≤ u + halving most turn start.low start.high
  pub paid : ArePaid charge u u' start b

module _ {I : Instance} {gives : ℕ → Answer → Type 0} {most : ℕ → ℕ} {turn : ℕ → Option ℕ} {charge : Answer → ℕ}
    {start b : Bracket} {s s' u u' C : ℕ} (h : Halves I gives most turn charge start b s s' u u') (lt : b.low < b.high)
    (mid : C ≡ (b.low + b.high) / 2) where
  -- the units of one call are within the halving
  pub call_within : u' + most C ≤ u + halving most turn start.low start.high
  call_within =
      let k = halving_at_call most turn b.low b.high lt in let e = ap most mid in let l = h.used in omega arith

  -- fewer than the most units of one call that ends the halving
  pub call_short : {u'' : ℕ} → u'' < u' + most C → IsShort most turn u u'' start b
  call_short fewer = let e = ap most mid in let l = h.used in omega (arith, fewer)

  -- one call, which raises the counts to s'' and u''
  module _ {s'' u'' : ℕ} (spends : s' ≤ s'') (units : u' ≤ u'') (used : u'' ≤ u' + most C) where
    pub after_layout : (n : Bracket) → IsInstance I → IsLayout I C n.layout.items → gives C (Offsets n.layout.items) →
        turn C ≡ Some (layout_height I n.layout.items) → u' + charge (Offsets n.layout.items) ≤ u'' → n.low ≡ b.low →
        n.log ≡ b.log → n.high ≡ layout_height I n.layout.items → Halves I gives most turn charge start n s s'' u u''
    after_layout n sound laid given turned paid low log high = record {
      narrowed = narrowed_by_layout h.narrowed lt mid n sound laid given low log high;
      spends = let k = h.spends in omega arith;
      units = let k = h.units in omega arith;
      used = let k = h.used in omega (arith, left);
      paid = record {
        layout_cost = charge (Offsets n.layout.items);
        log_cost = h.paid.log_cost;
        layout = inr (omega arith);
        log = logs h.paid.log;
        paid = let k = h.paid.paid in omega (arith, paid);
      };
    }
      where
        logs : LogIsPaid charge h.paid.log_cost start b → LogIsPaid charge h.paid.log_cost start n
        logs (inl e) = inl (log ∙ e)
        logs (inr g) = inr (g.0, log ∙ g.1, (let k = g.2 in omega (arith, low)), g.3)

        at_middle : turn ((b.low + b.high) / 2) ≡ Some n.high
        at_middle = ap turn (sym mid) ∙ turned ∙ ap Some (sym high)

        under : n.high ≤ (b.low + b.high) / 2
        under = let k = layout_under I C n.layout.items laid in omega arith

        left : halving most turn b.low b.high ≡ most C + halving most turn n.low n.high
        left =
            halving_at_layout most turn b.low b.high lt n.high under at_middle
            ∙ (let e = ap most mid in let f = ap (λ x. halving most turn x n.high) low in omega arith)

    pub after_log : (n : Bracket) (log : Log) → IsAccepted I log → log.capacity ≡ C → gives C (Refutation log) →
        turn C ≡ None → u' + charge (Refutation log) ≤ u'' → n.low ≡ C + 1 → n.log ≡ Some log → n.high ≡ b.high →
        n.layout.items ≡ b.layout.items → Halves I gives most turn charge start n s s'' u u''
    after_log n log accepted its given turned paid low logged high layout = record {
      narrowed = narrowed_by_log h.narrowed lt mid n log accepted its given low logged high layout;
      spends = let k = h.spends in omega arith;
      units = let k = h.units in omega arith;
      used = let k = h.used in omega (arith, left);
      paid = record {
        layout_cost = h.paid.layout_cost;
        log_cost = charge (Refutation log);
        layout = layouts h.paid.layout;
        log = inr (log, logged, above, omega arith);
        paid = let k = h.paid.paid in omega (arith, paid);
      };
    }
      where
        layouts : LayoutIsPaid charge h.paid.layout_cost start b → LayoutIsPaid charge h.paid.layout_cost start n
        layouts (inl e) = inl (layout ∙ e)
        layouts (inr g) = inr (subst (λ o. charge (Offsets o) ≤ h.paid.layout_cost) (sym layout) g)

        above : start.low < n.low
        above = let k = h.narrowed.low in let m = (middle b.low b.high lt).0 in omega (arith, low)

        left : halving most turn b.low b.high ≡ most C + halving most turn n.low n.high
        left =
            halving_at_log most turn b.low b.high lt (ap turn (sym mid) ∙ turned)
            ∙ (
            let e = ap most mid in
            let f = ap (λ x. halving most turn x n.high) (low ∙ ap (λ x. x + 1) mid) in
            let g = ap (λ x. halving most turn ((b.low + b.high) / 2 + 1) x) high in
            omega arith)
