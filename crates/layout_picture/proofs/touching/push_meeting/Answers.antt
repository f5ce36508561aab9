use Rattle.std.proofs.Common.{List, ap₂, ◌++◌, ◌∙◌}
use Rattle.std.specs.List.{flat_map}
use Rattle.layout_picture.specs.Sides.{pairs_begun}
use Rattle.layout_picture.specs.declared.side.Side.{Side}
use Rattle.layout_picture.proofs.Meeting.{are_met}
use Rattle.layout_picture.proofs.SideLists.{still_sides}
use Rattle.layout_picture.proofs.touching.push_meeting.Goals as goal

pub push_begun-requires-clause-some : goal.push_begun-requires-clause-some
push_begun-requires-clause-some c = still_sides c.args.sides.ends.items c.put_in_order.new.sides.items
    c.deref.result.now
    c.requires.ends c.put_in_order.ensures.same c.deref.ensures.value

pub push_begun-requires-2-clause-some : goal.push_begun-requires-2-clause-some
push_begun-requires-2-clause-some c = still_sides c.args.sides.begins.items c.put_in_order-2.new.sides.items
    c.deref-3.result.now c.requires.begins c.put_in_order-2.ensures.same c.deref-3.ensures.value

pub returns : goal.returns
returns c = are_met c.args.sides.ends.items c.args.sides.begins.items c.put_in_order.new.sides.items
    c.put_in_order-2.new.sides.items c.args.pairs.now.items c.push_begun.new.pairs.items c.push_begun-2.new.pairs.items
    c.requires.ends c.requires.begins c.put_in_order.ensures.same c.put_in_order-2.ensures.same
    (c.in_ok-push_begun.ensures ∙ ap₂ (λ (ss ts : List Side). c.args.pairs.now.items ++ flat_map (pairs_begun ts) ss)
    c.deref.ensures.value c.deref-2.ensures.value)
    (c.in_ok-push_begun-2.ensures ∙ ap₂ (λ (ss ts : List Side). c.push_begun.new.pairs.items
    ++ flat_map (pairs_begun ts) ss) c.deref-3.ensures.value c.deref-4.ensures.value)
