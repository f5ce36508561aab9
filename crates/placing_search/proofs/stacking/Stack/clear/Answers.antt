use Rattle.std.proofs.Common.{refl}
use Rattle.placing_search.proofs.Stacked.{floor_is_low, stack_set}
use Rattle.placing_search.proofs.stacking.Stack.clear.Goals as goal

pub loop-b-preserved : goal.loop-b-preserved
loop-b-preserved c =
    stack_set c.args.instance.now c.loop-b.self _ c.loop-b.b c.floor.result
    (rw c.floor.ensures.value (floor_is_low _ c.floor.ensures.buffer)) refl refl refl refl refl refl c.loop-b.invariant
