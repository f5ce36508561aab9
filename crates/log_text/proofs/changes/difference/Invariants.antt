use Rattle.std.proofs.Common.{◌-◌, ◌+◌, ◌≤◌, [], length, drop, map}
use Rattle.log_text.specs.Edits.{change_value}
use Rattle.log_text.proofs.Differing.{IsDiffering}
use Rattle.log_text.proofs.changes.difference.Given as goal

abbrev pub invariant-loop-next : goal.invariant-loop-next
invariant-loop-next l = (l.place ≤ length l.base)
    × IsDiffering l.base l.claim (map change_value l.changes.items) (drop l.place l.base) (drop l.next l.claim)

abbrev pub decreases-loop-next : goal.decreases-loop-next
decreases-loop-next l = (length l.base - l.place) + (length l.claim - l.next)

abbrev pub invariant-loop-k : goal.invariant-loop-k
invariant-loop-k l = IsDiffering l.base l.claim (map change_value l.changes.items) (drop l.k l.base) []
