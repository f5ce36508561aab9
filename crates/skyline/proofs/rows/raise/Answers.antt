use Rattle.std.proofs.Common.{arith}
use Rattle.skyline.proofs.Places.{raised-more}
use Rattle.skyline.proofs.rows.raise.Goals as goal

pub loop-i-preserved : goal.loop-i-preserved
loop-i-preserved c = raised-more c.args.top c.args.sections.now c.loop-i.heights c.args.heights.now c.loop-i.i
    (omega arith) c.loop-i.invariant
