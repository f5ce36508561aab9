use Rattle.row_orders.proofs.Sorting.{order_moved}
use Rattle.placing_search.proofs.beginnings.by_offset.Goals as goal

pub returns : goal.returns
returns c = order_moved _ _ _ c.sort_unstable_by_key.ensures.permutation c.in_ok-order.ensures.order
