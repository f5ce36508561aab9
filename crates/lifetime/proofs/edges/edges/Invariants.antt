use Rattle.lifetime.proofs.EdgeLists.{AreEdgesBelow}
use Rattle.lifetime.proofs.edges.edges.Given as goal

abbrev pub invariant-loop-b : goal.invariant-loop-b
invariant-loop-b l = AreEdgesBelow l.instance l.b l.edges.items
