use Rattle.std.proofs.Common.{◌≡◌, ◌++◌, drop, map}
use Rattle.search_core.specs.Seats.{seat_at}
use Rattle.search_core.proofs.gather.gathered.Given as goal

abbrev pub invariant-loop-b : goal.invariant-loop-b
invariant-loop-b l =
    map (seat_at l.offsets) l.members ≡ l.seats.items ++ map (seat_at l.offsets) (drop l.b-index l.members)
