use Rattle.std.proofs.Common.{rules}
use Rattle.std.proofs.lemmas.List.Sorted.{answers_always}
use Rattle.layout_picture.proofs.SideOrder.{point_of, sorted_sides}
use Rattle.layout_picture.proofs.side.put_in_order.Goals as goal

pub returns-clause-order : goal.returns-clause-order
returns-clause-order c = sorted_sides c.sort_unstable_by_key.new.self.items
    (c.sort_unstable_by_key.ensures.sorted point_of (answers_always _ _ _ (λ f a r g h. search rules)))
