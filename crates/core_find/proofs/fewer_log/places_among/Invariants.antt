use Rattle.std.proofs.Common.{◌≡◌, take}
use Rattle.core_find.specs.Carried.{places_among}
use Rattle.core_find.proofs.fewer_log.places_among.Given as goal

abbrev pub invariant-loop-b : goal.invariant-loop-b
invariant-loop-b l = l.places.items ≡ places_among (take l.b-index l.before) l.members
