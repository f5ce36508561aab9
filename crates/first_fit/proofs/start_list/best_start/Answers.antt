use Rattle.std.proofs.Common.{arith}
use Rattle.first_fit.proofs.Starting.{height_at, lowest_found, lowest_moves, lowest_none, lowest_stays}
use Rattle.first_fit.proofs.start_list.best_start.Goals.{then-starts-s, else-starts-s}
use Rattle.first_fit.proofs.start_list.best_start.Goals as goal

pub loop-s-init : goal.loop-s-init
loop-s-init c = lowest_none _

pub loop-s-preserved : goal.loop-s-preserved
loop-s-preserved c =
    let h = c.loop-s.invariant in
    let x = height_at c.args.starts.now c.loop-s.s c.index-starts-s.result c.loop-s-test.true in
    let y = height_at c.args.starts.now c.loop-s.best c.index-starts-best.result (omega arith) in
    elim c.if-starts-s.branch [
      | then-starts-s w ↦ rw w.best-is (lowest_moves _ _ _ (rw (x, y) at w.if-starts-s.true) h)
      | else-starts-s w ↦ rw w.best-is (lowest_stays _ _ _ (rw (x, y) at w.if-starts-s.false) h)
    ]

pub returns : goal.returns
returns c = lowest_found _ c.loop-s.s _ c.loop-s-test.false (omega arith) c.loop-s.invariant
