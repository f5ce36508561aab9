use Rattle.search_core.proofs.Joining.{IsJoining}
use Rattle.search_core.proofs.whole.search_parts.Given as goal

abbrev pub invariant-loop-p : goal.invariant-loop-p
invariant-loop-p l = IsJoining l.task.instance.now l.task.capacity l.parts l.p l.seats.items l.fn.meter l.meter
