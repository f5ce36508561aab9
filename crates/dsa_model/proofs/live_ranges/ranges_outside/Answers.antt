use Rattle.std.proofs.Common.{◌≡◌, []}
use Rattle.dsa_model.proofs.Outside.{walked_more, walked_none, walked_through}
use Rattle.dsa_model.proofs.live_ranges.ranges_outside.Goals as goal

pub loop-gap-init : goal.loop-gap-init
loop-gap-init c =
    let e : c.in_ok-ranges.ranges.items ≡ [] = c.in_ok-ranges.ensures.items in
    rw (e, c.deref-gap-items.ensures.value) (walked_none _ _ c.in_ok-sorted.ensures.same)

pub loop-gap-preserved : goal.loop-gap-preserved
loop-gap-preserved c =
    walked_more _ _ _ _ _ _ _ c.requires (rw c.deref-gap-items.ensures.value c.in_ok-sorted.ensures.same)
    (rw c.deref-gap-items.ensures.value c.in_ok-sorted.ensures.rising) c.loop-gap-test.true c.max-from.ensures
    c.in_ok-push_range.ensures c.loop-gap.invariant

pub returns : goal.returns
returns c =
    walked_through _ _ _ _ _ _ c.loop-gap-test.false c.in_ok-push_range-2.ensures c.loop-gap.invariant
