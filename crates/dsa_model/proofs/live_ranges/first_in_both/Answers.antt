use Rattle.std.proofs.Common.{arith}
use Rattle.std.proofs.lemmas.List.{drop_all}
use Rattle.dsa_model.proofs.InBoth.{all_left, least_here, more_mine, more_theirs, none_mine, none_theirs, starts_before}
use Rattle.dsa_model.proofs.live_ranges.first_in_both.Goals as goal

pub loop-m-init : goal.loop-m-init
loop-m-init c = all_left c.args.mine.now c.args.theirs.now c.requires.mine c.requires.theirs

pub returns-then-first-min : goal.returns-then-first-min
returns-then-first-min c =
    least_here c.args.mine.now c.args.theirs.now c.loop-m.m c.loop-m.n c.max-first.result c.loop-m-test.true
    c.if-n-theirs.true c.max-first.ensures (omega arith) (omega arith) c.loop-m.invariant

pub loop-m-preserved-then-end-other_end : goal.loop-m-preserved-then-end-other_end
loop-m-preserved-then-end-other_end c =
    let s = starts_before c.args.mine.now c.loop-m.m c.loop-m-test.true c.loop-m.invariant.apart in
    more_mine c.args.mine.now c.args.theirs.now c.loop-m.m c.loop-m.n c.loop-m-test.true c.if-n-theirs.true
    (omega arith)
    c.loop-m.invariant

pub loop-m-smaller : goal.loop-m-smaller
loop-m-smaller c = omega arith

pub loop-m-preserved : goal.loop-m-preserved
loop-m-preserved c =
    let s = starts_before c.args.theirs.now c.loop-m.n c.if-n-theirs.true c.loop-m.invariant.other_apart in
    more_theirs c.args.mine.now c.args.theirs.now c.loop-m.m c.loop-m.n c.loop-m-test.true c.if-n-theirs.true
    (omega arith) c.loop-m.invariant

pub returns-else-n-theirs : goal.returns-else-n-theirs
returns-else-n-theirs c = none_theirs c.args.mine.now c.args.theirs.now _
    (rw (drop_all c.loop-m.n c.args.theirs.now c.if-n-theirs.false) at c.loop-m.invariant)

pub returns-after-loop-m : goal.returns-after-loop-m
returns-after-loop-m c = none_mine c.args.mine.now c.args.theirs.now _
    (rw (drop_all c.loop-m.m c.args.mine.now c.loop-m-test.false) at c.loop-m.invariant)
