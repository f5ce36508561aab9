use Rattle.log_trim.proofs.Marked.{AreNeeded}
use Rattle.log_trim.proofs.marking.needed.Given as goal

abbrev pub invariant-loop-k : goal.invariant-loop-k
invariant-loop-k l = AreNeeded l.log l.k l.marks.items
