use Rattle.size_classes.proofs.SlotLoop.{IsColouring}
use Rattle.size_classes.proofs.colouring.numbered_slots.Given as goal

abbrev pub invariant-loop-b : goal.invariant-loop-b
invariant-loop-b l = IsColouring l.instance l.turns l.b-index l.slots.items l.pool
