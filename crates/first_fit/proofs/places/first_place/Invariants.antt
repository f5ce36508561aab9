use Rattle.first_fit.proofs.Climbing.{IsClimbing}
use Rattle.first_fit.proofs.places.first_place.Given as goal

abbrev pub invariant-loop-seat : goal.invariant-loop-seat
invariant-loop-seat l = IsClimbing l.instance l.b l.seats l.seat-index l.reach
