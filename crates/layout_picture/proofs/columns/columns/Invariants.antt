use Rattle.layout_picture.proofs.Turns.{IsGathered}
use Rattle.layout_picture.proofs.columns.columns.Given as goal

abbrev pub invariant-loop-b : goal.invariant-loop-b
invariant-loop-b l = IsGathered l.instance l.b l.moments.items
