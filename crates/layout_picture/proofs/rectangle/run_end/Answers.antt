use Rattle.std.proofs.Common.{arith}
use Rattle.std.proofs.lemmas.List.{get_or_past}
use Rattle.std.proofs.Common.{false}
use Rattle.layout_picture.specs.Rectangles.{run_end}
use Rattle.layout_picture.proofs.Runs.{front_none}
use Rattle.layout_picture.proofs.rectangle.run_end.Goals as goal

pub returns-else-flags-end-clause-value : goal.returns-else-flags-end-clause-value
unfolding run_end
returns-else-flags-end-clause-value c =
    let k = front_none c.args.flags.now c.loop-end.end c.if-flags-end.false in
    let i = c.loop-end.invariant.0 in omega arith

pub returns-after-loop-end-clause-value : goal.returns-after-loop-end-clause-value
unfolding run_end
returns-after-loop-end-clause-value c =
    let k = front_none c.args.flags.now c.loop-end.end
    (get_or_past c.args.flags.now c.loop-end.end false c.loop-end-test.false) in
    let i = c.loop-end.invariant.0 in omega arith
