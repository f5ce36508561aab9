use Rattle.std.proofs.Common.{length}
use Rattle.dsa_outside.proofs.Written.{HasWritten}
use Rattle.dsa_outside.proofs.transfer.write_whole.Given as goal

abbrev pub invariant-loop-rest : goal.invariant-loop-rest
invariant-loop-rest g l = HasWritten l.bytes l.rest (g.W.Write.contents l.initial.writer) (g.W.Write.contents l.writer)

abbrev pub decreases-loop-rest : goal.decreases-loop-rest
decreases-loop-rest g l = length l.rest
