use Rattle.std.proofs.Common.{arith}
use Rattle.claim_levels.proofs.Words.{next_of}
use Rattle.claim_levels.proofs.RaisingSteps.{raised_next, raised_without}
use Rattle.claim_levels.proofs.spreading.raise_each.Goals.{then-now-gt0+in_ok-raise, else-now-gt0}
use Rattle.claim_levels.proofs.spreading.raise_each.Goals as goal

pub loop-i-preserved : goal.loop-i-preserved
loop-i-preserved g c =
    let I = c.args.instance.now in
    let b = c.args.placed.buffer in
    let buffers = c.args.buffers.now in
    let i = c.loop-i.invariant in
    let next = next_of buffers c.loop-i.i 0 c.loop-i-test.true in
    let at = rw c.deref.ensures.value at c.level_at-now.ensures.value in
    elim c.if-now-gt0.branch [
      | then-now-gt0+in_ok-raise w ↦ rw w.raising-is (record {
        raising = w.in_ok-raise.ensures.raising;
        done = raised_next I g.levels b c.loop-i.raising w.raise.new.raising buffers _ _ _ next
            w.in_ok-raise.ensures.done w.in_ok-raise.ensures.kept i.done;
        kept = λ d h. w.in_ok-raise.ensures.kept d (i.kept d h);
      })
      | else-now-gt0 w ↦ rw w.raising-is (record {
        raising = i.raising;
        done = raised_next I g.levels b c.loop-i.raising c.loop-i.raising buffers _ _ _ next
            (raised_without I g.levels b _ c.loop-i.raising i.raising
            (let f = w.if-now-gt0.false in omega (arith, at, f))) (λ d h. h) i.done;
        kept = i.kept;
      })
    ]
