use Rattle.std.proofs.Common.{map}
use Rattle.trace_import.specs.Kept.{line_value}
use Rattle.trace_import.proofs.EndLemmas.{AreEnds}
use Rattle.trace_import.proofs.ends.ends.Given as goal

abbrev pub invariant-loop-place : goal.invariant-loop-place
invariant-loop-place l = AreEnds (map line_value l.lines) l.place l.frees.entries l.ends.items
