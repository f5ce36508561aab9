use Rattle.std.proofs.Common.{◌≡◌, map, take}
use Rattle.size_classes.proofs.Turning.{keyed}
use Rattle.size_classes.proofs.turns.in_turn.Given as goal

abbrev pub invariant-loop-b : goal.invariant-loop-b
invariant-loop-b l = l.keys.items ≡ map (keyed l.instance) (take l.b-index l.members)
