use Rattle.std.proofs.Common.{rules}
use Rattle.lifetime.proofs.Noting.{empty_more}
use Rattle.lifetime.proofs.places.empty_lists.Goals as goal

pub loop-places-preserved : goal.loop-places-preserved
loop-places-preserved c = empty_more c.loop-places.places-index _ _ _ c.loop-places.invariant (search rules)
    c.in_ok-push.ensures.items
