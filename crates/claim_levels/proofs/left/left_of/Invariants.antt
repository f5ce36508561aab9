use Rattle.claim_levels.proofs.LeftBuffers.{AreLeftBelow}
use Rattle.claim_levels.proofs.left.left_of.Given as goal

abbrev pub invariant-loop-b : goal.invariant-loop-b
invariant-loop-b l = AreLeftBelow l.levels l.b l.left.items
