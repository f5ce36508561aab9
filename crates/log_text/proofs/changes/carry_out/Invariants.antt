use Rattle.std.proofs.Common.{length, ◌-◌, ◌+◌, ◌≤◌, drop, map}
use Rattle.log_text.specs.Edits.{change_value}
use Rattle.log_text.proofs.Carrying.{IsCarried}
use Rattle.log_text.proofs.changes.carry_out.Given as goal

abbrev pub invariant-loop-next : goal.invariant-loop-next
invariant-loop-next l = (l.place ≤ length l.base) × (l.next ≤ length l.changes)
    × IsCarried l.base (map change_value l.changes)
    (drop l.place l.base) (drop l.next (map change_value l.changes)) l.room.items

abbrev pub decreases-loop-next : goal.decreases-loop-next
decreases-loop-next l = (length l.base - l.place) + (length l.changes - l.next)
