use Rattle.std.proofs.Common.{take}
use Rattle.lower_bounds.proofs.AllTallies.{AreBeing}
use Rattle.lower_bounds.proofs.tallies.put.Given as goal

abbrev pub invariant-loop-s : goal.invariant-loop-s
invariant-loop-s l =
    AreBeing l.instance l.sections l.modulus (take l.place l.order) l.b l.s-items l.s-index l.tallies
