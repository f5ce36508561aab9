use Rattle.layout_picture.proofs.Summing.{IsSummed}
use Rattle.layout_picture.proofs.loads.loads.Given as goal

abbrev pub invariant-loop-b : goal.invariant-loop-b
invariant-loop-b l = IsSummed l.instance l.columns l.b l.loads.items
