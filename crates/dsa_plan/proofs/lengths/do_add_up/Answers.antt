use Rattle.std.proofs.Common.{refl}
use Rattle.dsa_plan.proofs.Sums.{all_counted, counted_more, too_many}
use Rattle.dsa_plan.proofs.lengths.do_add_up.Goals as goal

pub returns-then-left-count : goal.returns-then-left-count
returns-then-left-count c = too_many c.args.counts.now c.loop-count.count-index c.loop-count.left c.args.gaps _
    c.loop-count.invariant refl c.if-left-count.true

pub loop-count-preserved : goal.loop-count-preserved
loop-count-preserved c = counted_more c.args.counts.now c.loop-count.count-index c.loop-count.left c.args.gaps _
    c.loop-count.invariant refl c.if-left-count.false

pub returns : goal.returns
returns c = all_counted c.args.counts.now c.loop-count.count-index c.loop-count.left c.args.gaps
    c.loop-count-test.false c.loop-count.invariant
