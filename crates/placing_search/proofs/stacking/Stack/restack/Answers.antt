use Rattle.std.proofs.Common.{refl, ◌∙◌, ◌^◌, arith}
use Rattle.std.proofs.Math.ListN.{length-set}
use Rattle.placing_search.proofs.Stacked.{stack_swapped}
use Rattle.placing_search.proofs.stacking.Stack.restack.Goals as goal

pub top_up-requires-clause-stack : goal.top_up-requires-clause-stack
top_up-requires-clause-stack c =
    stack_swapped c.args.instance.now c.loop-k.self _ c.loop-k.k c.lowest_from-lowest.result c.index-b.result.now
    (2 ^ 61) (omega arith) c.lowest_from-lowest.ensures (omega arith) c.swap.ensures.items
    (length-set _ _ _ ∙ c.loop-k.invariant.0.end_count) refl refl refl refl c.loop-k.invariant.0
