use Rattle.lifetime.proofs.Among.{IsMerging}
use Rattle.lifetime.proofs.thin.is_within.Given as goal

abbrev pub invariant-loop-b : goal.invariant-loop-b
invariant-loop-b l = IsMerging l.part l.whole l.found l.b-index
