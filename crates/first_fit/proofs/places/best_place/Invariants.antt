use Rattle.std.proofs.Common.{drop}
use Rattle.first_fit.proofs.Spanning.{spans_of}
use Rattle.first_fit.proofs.Sweeping.{IsSweeping}
use Rattle.first_fit.proofs.places.best_place.Given as goal

abbrev pub invariant-loop-seat : goal.invariant-loop-seat
invariant-loop-seat l = IsSweeping l.instance l.b (spans_of l.instance l.b l.seats)
    (spans_of l.instance l.b (drop l.seat-index l.seats)) l.reach l.best
