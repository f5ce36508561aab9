use Rattle.std.proofs.Common.{◌-◌, ◌≡◌}
use Rattle.min_capacity.proofs.Counting.{Halves}
use Rattle.min_capacity.proofs.halving.least.Given as goal

abbrev pub invariant-loop-bracket : goal.invariant-loop-bracket
invariant-loop-bracket g l = record {
  subject : g.D.Decider.subject l.decider ≡ l.instance;
  allowance : g.D.Decider.allowance l.decider ≡ g.D.Decider.allowance l.fn.decider;
  halves : Halves l.instance (g.D.Decider.gives l.instance) (g.D.Decider.most l.instance)
      (g.D.Decider.turn l.instance)
      (g.D.Decider.charge l.instance (g.D.Decider.allowance l.fn.decider)) l.fn.start l.bracket
      (g.D.Decider.spends l.fn.decider) (g.D.Decider.spends l.decider) (g.D.Decider.units l.fn.decider)
      (g.D.Decider.units l.decider);
}

abbrev pub decreases-loop-bracket : goal.decreases-loop-bracket
decreases-loop-bracket g l = l.bracket.high - l.bracket.low
