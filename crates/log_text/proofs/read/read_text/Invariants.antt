use Rattle.std.proofs.Common.{length}
use Rattle.log_text.proofs.LogLemmas.{IsReadUpTo}
use Rattle.log_text.proofs.read.read_text.Given as goal

abbrev pub invariant-loop-cursor : goal.invariant-loop-cursor
invariant-loop-cursor l = IsReadUpTo l.sizes.version l.fn.bytes l.sizes.count l.sizes.capacity l.lines.items l.cursor

abbrev pub decreases-loop-cursor : goal.decreases-loop-cursor
decreases-loop-cursor l = length l.cursor
