use Rattle.std.proofs.Common.{length}
use Rattle.trace_import.proofs.ReadLemmas.{IsReadUpTo}
use Rattle.trace_import.proofs.read.read_trace.Given as goal

abbrev pub invariant-loop-line : goal.invariant-loop-line
invariant-loop-line l = IsReadUpTo l.fn.bytes l.rest l.trace l.live.entries

abbrev pub decreases-loop-line : goal.decreases-loop-line
decreases-loop-line l = length l.rest
