use Rattle.std.proofs.Common.{◌≡◌, map}
use Rattle.dsa_terms.specs.Parts.{numbers}
use Rattle.row_orders.specs.Orders.{measure}
use Rattle.row_orders.proofs.Sorting.{keyed}
use Rattle.row_orders.proofs.orders.in_order.Given as goal

abbrev pub invariant-loop-b : goal.invariant-loop-b
invariant-loop-b l = l.keys.items ≡ map (keyed (measure l.order l.instance) l.instance) (numbers l.b)
