use Rattle.std.proofs.Common.{◌-◌, ap, arith, slice_index}
use Rattle.skyline.proofs.Places.{still, changed-more}
use Rattle.skyline.proofs.rows.lighten.Goals as goal

pub overflow_sub-loads : goal.overflow_sub-loads
overflow_sub-loads c =
    let k = c.requires.enough c.loop-i.i 0 (omega arith) in
    let e = still (λ s. slice_index c.args.loads.now s - c.args.size) c.args.sections.now c.args.loads.now
    c.loop-i.loads c.loop-i.i c.requires.rise (omega arith) c.loop-i.invariant in
    omega (arith, k, e)

pub loop-i-preserved : goal.loop-i-preserved
loop-i-preserved c =
    let e = still (λ s. slice_index c.args.loads.now s - c.args.size) c.args.sections.now c.args.loads.now
    c.loop-i.loads c.loop-i.i c.requires.rise (omega arith) c.loop-i.invariant in
    changed-more (λ s. slice_index c.args.loads.now s - c.args.size) c.args.sections.now c.args.loads.now
    c.loop-i.loads c.loop-i.i _ (omega arith) c.loop-i.invariant (ap (λ x. x - c.args.size) e)
