use Rattle.std.proofs.Common.{arith}
use Rattle.skyline.proofs.Places.{restored-more}
use Rattle.skyline.proofs.rows.restore.Goals as goal

pub loop-i-preserved : goal.loop-i-preserved
loop-i-preserved c = λ kept e. restored-more kept c.args.saved.now c.args.sections.now c.loop-i.heights
    c.args.heights.now c.loop-i.i (omega arith) e (c.loop-i.invariant kept e)
