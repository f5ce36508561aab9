use Rattle.std.proofs.Common.{◌≡◌, map}
use Rattle.dsa_terms.specs.Parts.{numbers}
use Rattle.first_fit.specs.Orders.{keyed}
use Rattle.first_fit.proofs.orders.in_order.Given as goal

abbrev pub invariant-loop-b : goal.invariant-loop-b
invariant-loop-b l = l.keys.items ≡ map (keyed l.order l.instance) (numbers l.b)
