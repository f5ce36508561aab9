use Rattle.std.proofs.Common.{◌≡◌, ◌+◌, ◌-◌, ◌≤◌}
use Rattle.narrowing.specs.Narrowed.{IsLogPaid, IsNarrowed, MayBeAsked}
use Rattle.narrowing.proofs.slices.narrow.Given as goal

abbrev pub invariant-loop-bracket : goal.invariant-loop-bracket
invariant-loop-bracket g l = record {
  subject : g.T.Tries.subject l.tries ≡ l.instance;
  within : MayBeAsked (g.T.Tries.within l.tries) l.fn.start;
  units : g.T.Tries.units l.fn.tries ≤ g.T.Tries.units l.tries;
  used : g.T.Tries.units l.tries ≤ l.last;
  narrowed : IsNarrowed l.instance l.fn.start l.bracket;
  paid : IsLogPaid (g.T.Tries.units l.fn.tries) (g.T.Tries.units l.tries) l.fn.start l.bracket;
}

abbrev pub decreases-loop-bracket : goal.decreases-loop-bracket
decreases-loop-bracket g l = (l.bracket.high - l.bracket.low) + (l.last - g.T.Tries.units l.tries)
