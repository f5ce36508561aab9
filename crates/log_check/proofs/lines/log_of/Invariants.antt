use Rattle.std.specs.Vec.Iter.{into_iter_items}
use Rattle.log_check.proofs.TakenUpTo.{IsTakenUpTo}
use Rattle.log_check.proofs.lines.log_of.Given as goal

abbrev pub invariant-loop-next : goal.invariant-loop-next
invariant-loop-next l = IsTakenUpTo l.instance l.capacity l.fn.lines.items (into_iter_items l.next-iterator) l.log
