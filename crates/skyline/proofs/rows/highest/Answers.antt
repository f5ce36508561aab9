use Rattle.std.proofs.Common.{arith}
use Rattle.skyline.proofs.Places.{greatest-more}
use Rattle.skyline.proofs.rows.highest.Goals.{then-height-top, else-height-top}
use Rattle.skyline.proofs.rows.highest.Goals as goal

pub loop-i-preserved : goal.loop-i-preserved
loop-i-preserved c =
    let e = greatest-more c.args.heights.now c.args.sections.now c.loop-i.i (omega arith) in
    elim c.if-height-top.branch [ then-height-top w ↦ omega (arith, e) | else-height-top w ↦ omega (arith, e) ]
