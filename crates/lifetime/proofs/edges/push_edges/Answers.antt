use Rattle.std.proofs.Common.{rules}
use Rattle.lifetime.proofs.EdgeLists.{gap_first, gap_last, gap_step}
use Rattle.lifetime.proofs.edges.push_edges.Goals as goal

pub loop-gap-init : goal.loop-gap-init
loop-gap-init c = gap_first c.args.edges.now.items _ _ c.args.buffer.now c.args.b _ _ c.lower.ensures.value
    c.upper.ensures.value c.in_ok-push.ensures.items c.in_ok-push-2.ensures.items

pub loop-gap-preserved : goal.loop-gap-preserved
loop-gap-preserved c = gap_step c.loop-gap.edges.items c.gaps-gap-items.result.now c.args.buffer.now.gaps
    c.loop-gap.gap-index c.args.b _ _ _ c.gaps-gap-items.ensures.value c.loop-gap-test.true c.loop-gap.invariant
    c.in_ok-push-3.ensures.items c.in_ok-push-4.ensures.items

pub returns : goal.returns
returns c = gap_last c.loop-gap.edges.items _ c.args.buffer.now.gaps c.loop-gap.gap-index c.args.b (search rules)
    c.loop-gap.invariant
