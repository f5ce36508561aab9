use Rattle.std.proofs.Common.{◌≡◌, map, take}
use Rattle.size_classes.specs.Slots.{slot_of}
use Rattle.size_classes.proofs.colouring.slots.Given as goal

abbrev pub invariant-loop-b : goal.invariant-loop-b
invariant-loop-b l = l.slots.items ≡ map (slot_of l.instance l.members) (take l.b-index l.members)
