use Rattle.lower_bounds.proofs.CrudeBounds.{IsCrude}
use Rattle.lower_bounds.proofs.crude.crude.Given as goal

abbrev pub invariant-loop-b : goal.invariant-loop-b
invariant-loop-b l = IsCrude l.instance l.modulus l.b l.top l.total
