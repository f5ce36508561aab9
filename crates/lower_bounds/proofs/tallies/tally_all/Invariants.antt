use Rattle.std.proofs.Common.{take}
use Rattle.lower_bounds.specs.Tallies.{AreTallies}
use Rattle.lower_bounds.proofs.tallies.tally_all.Given as goal

abbrev pub invariant-loop-place : goal.invariant-loop-place
invariant-loop-place l = AreTallies l.instance l.sections l.modulus (take l.place l.order) l.tallies
