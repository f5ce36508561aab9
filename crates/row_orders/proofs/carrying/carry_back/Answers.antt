use Rattle.std.proofs.Common.{refl, arith}
use Rattle.row_orders.proofs.CarriedBack.{carried_all, carried_more, layout_back}
use Rattle.row_orders.proofs.carrying.carry_back.Goals as goal

pub loop-place-preserved : goal.loop-place-preserved
loop-place-preserved c =
    carried_more _ _ _ _ _ _ _ c.requires.once c.loop-place-test.true refl refl refl c.loop-place.invariant

pub returns-clause-value : goal.returns-clause-value
returns-clause-value c =
    carried_all _ _ _ c.loop-place.place c.requires.once (omega arith) c.loop-place.invariant

pub returns-clause-layout : goal.returns-clause-layout
returns-clause-layout c = λ I C o l. rw
    (carried_all _ _ _ c.loop-place.place c.requires.once (omega arith) c.loop-place.invariant)
    (layout_back I c.args.order.now c.args.offsets.now C o l)
