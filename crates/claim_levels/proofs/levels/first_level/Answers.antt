use Rattle.std.proofs.Common.{◌+◌, drop, refl, slice_index, drop_of_length-le}
use Rattle.claim_levels.proofs.Words.{in_at, next_of}
use Rattle.claim_levels.proofs.Leading.{leads_all, leads_at_first, leads_lower, leads_still}
use Rattle.claim_levels.proofs.LeftBuffers.{left_within}
use Rattle.claim_levels.proofs.levels.first_level.Goals.{else-level-least, then-level-least}
use Rattle.claim_levels.proofs.levels.first_level.Goals as goal

pub loop-i-init : goal.loop-i-init
loop-i-init c = leads_at_first c.args.levels.now _ c.requires.left.rises

pub bounds-levels-b : goal.bounds-levels-b
bounds-levels-b c = left_within _ _ _ c.requires.left (in_at c.args.left.now c.loop-i.i 0 c.loop-i-test.true)

pub loop-i-preserved : goal.loop-i-preserved
loop-i-preserved c =
    let levels = c.args.levels.now in
    let left = c.args.left.now in
    let i = c.loop-i.i in
    let b = slice_index left i in
    let q = next_of left i 0 c.loop-i-test.true in
    elim c.if-level-least.branch [
      | then-level-least w ↦ rw (w.first-is, w.least-is)
          (leads_lower _ _ _ (drop (i + 1) left) b (slice_index levels b) _
          _ q refl c.loop-i.invariant (in_at left i 0 c.loop-i-test.true) w.if-level-least.true)
      | else-level-least w ↦ rw (w.first-is, w.least-is)
          (leads_still _ _ _ (drop (i + 1) left) b (slice_index levels b) _
          _ q refl c.loop-i.invariant w.if-level-least.false)
    ]

pub returns : goal.returns
returns c = leads_all _ _ _ _ _ (drop_of_length-le c.args.left.now c.loop-i-test.false) c.requires.low c.requires.left
    c.loop-i.invariant
