use Rattle.std.proofs.Common.{◌≡◌}
use Rattle.lower_bounds.proofs.Candidates.{moduli_below}
use Rattle.lower_bounds.proofs.moduli.moduli.Given as goal

abbrev pub invariant-loop-b : goal.invariant-loop-b
invariant-loop-b l = l.moduli.items ≡ moduli_below l.instance l.b
