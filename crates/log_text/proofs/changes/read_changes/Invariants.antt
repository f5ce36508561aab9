use Rattle.std.proofs.Common.{length, map}
use Rattle.log_text.specs.Edits.{change_value}
use Rattle.log_text.proofs.ReadChanges.{IsChangesSoFar}
use Rattle.log_text.proofs.changes.read_changes.Given as goal

abbrev pub invariant-loop-cursor : goal.invariant-loop-cursor
invariant-loop-cursor l = IsChangesSoFar l.fn.cursor (map change_value l.changes.items) l.cursor

abbrev pub decreases-loop-cursor : goal.decreases-loop-cursor
decreases-loop-cursor l = length l.cursor
