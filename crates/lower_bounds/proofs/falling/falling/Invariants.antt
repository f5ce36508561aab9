use Rattle.std.proofs.Common.{◌≡◌, map}
use Rattle.dsa_terms.specs.Parts.{numbers}
use Rattle.lower_bounds.proofs.Orders.{keyed}
use Rattle.lower_bounds.proofs.falling.falling.Given as goal

abbrev pub invariant-loop-b : goal.invariant-loop-b
invariant-loop-b l = l.keys.items ≡ map (keyed l.instance) (numbers l.b)
