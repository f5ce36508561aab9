use Rattle.std.proofs.Common.{arith, refl, ◌∙◌}
use Rattle.dsa_terms.proofs.Places.{in_at}
use Rattle.lower_bounds.proofs.AllTallies.{being_all, being_more, being_next, tallies_same}
use Rattle.lower_bounds.proofs.Orders.{floor_limit, order_below}
use Rattle.lower_bounds.proofs.Piles.{counted_false, counted_true}
use Rattle.lower_bounds.proofs.Tallying.{added_by, tally_limit}
use Rattle.lower_bounds.proofs.tallies.put.Goals as goal

pub buffer-buffer-requires : goal.buffer-buffer-requires
buffer-buffer-requires c = order_below _ c.args.order.now _ c.requires.order
    (in_at c.args.order.now c.args.place 0 c.requires.in_order)

pub returns-then-alignment-modulus-ne0 : goal.returns-then-alignment-modulus-ne0
returns-then-alignment-modulus-ne0 c = tallies_same _ _ _ _ _ _ c.requires.in_order
    (counted_false _ _ _ c.alignment.result _ c.buffer-buffer.ensures.value c.alignment.ensures.value
    c.if-alignment-modulus-ne0.true)
    c.requires.before

pub sections_of-s-items-requires : goal.sections_of-s-items-requires
sections_of-s-items-requires c =
    let b = order_below _ c.args.order.now _ c.requires.order
    (in_at c.args.order.now c.args.place 0 c.requires.in_order) in
    let e = c.requires.sections.buffers in
    omega arith

pub with-requires-clause-total : goal.with-requires-clause-total
with-requires-clause-total c =
    let b = order_below _ c.args.order.now _ c.requires.order
    (in_at c.args.order.now c.args.place 0 c.requires.in_order) in
    (tally_limit _ _ _ _ _ _ _ c.requires.buffers c.requires.few c.requires.order c.requires.modulus
    (being_next _ _ _ _ _ _ _ _ c.requires.in_order
    (c.sections_of-s-items.ensures.value ∙ c.requires.sections.listed _ b) c.loop-s.invariant c.loop-s-test.true)).0

pub with-requires-clause-spare : goal.with-requires-clause-spare
with-requires-clause-spare c =
    let b = order_below _ c.args.order.now _ c.requires.order
    (in_at c.args.order.now c.args.place 0 c.requires.in_order) in
    (tally_limit _ _ _ _ _ _ _ c.requires.buffers c.requires.few c.requires.order c.requires.modulus
    (being_next _ _ _ _ _ _ _ _ c.requires.in_order
    (c.sections_of-s-items.ensures.value ∙ c.requires.sections.listed _ b) c.loop-s.invariant c.loop-s-test.true)).1

pub with-requires-clause-floor : goal.with-requires-clause-floor
with-requires-clause-floor c =
    let l = floor_limit _ c.buffer-buffer.ensures.buffer in let e = c.floor-floor.ensures.value in omega arith

pub loop-s-preserved : goal.loop-s-preserved
loop-s-preserved c =
    let b = order_below _ c.args.order.now _ c.requires.order
    (in_at c.args.order.now c.args.place 0 c.requires.in_order) in
    being_more _ _ _ _ _ _ _ _ c.requires.in_order
    (c.sections_of-s-items.ensures.value ∙ c.requires.sections.listed _ b) c.loop-s.invariant c.loop-s-test.true
    _ _ c.requires.order
    (counted_true _ _ _ c.alignment.result _ c.buffer-buffer.ensures.value c.alignment.ensures.value
    c.if-alignment-modulus-ne0.false)
    refl
    (added_by _ _ _ _ _ _ _ _ _ _ c.buffer-buffer.ensures.value c.floor-floor.ensures.value c.size.ensures.value
    c.size-2.ensures.value c.next_multiple_of-rounded.ensures.value
    (record {
      total = c.with.ensures.total;
      spare = c.with.ensures.spare;
      value = c.with.ensures.value;
      height = c.with.ensures.height;
    }))

pub returns : goal.returns
returns c =
    let b = order_below _ c.args.order.now _ c.requires.order
    (in_at c.args.order.now c.args.place 0 c.requires.in_order) in
    being_all _ _ _ _ _ _ _ _ c.requires.in_order
    (c.sections_of-s-items.ensures.value ∙ c.requires.sections.listed _ b) c.loop-s.invariant c.loop-s-test.false
