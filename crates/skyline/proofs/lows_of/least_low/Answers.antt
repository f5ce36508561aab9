use Rattle.std.proofs.Common.{◌<◌, ◌+◌, ℕ, slice_index, sym, subst, ◌∙◌, arith}
use Rattle.std.specs.Prelude.{IfSome, Option, ◌^◌}
use Rattle.dsa_terms.proofs.NumberTests.{is_below, not_below}
use Rattle.dsa_terms.proofs.Places.{in_at}
use Rattle.skyline.specs.LowsOf.{has_level, low_of}
use Rattle.skyline.proofs.Overloads.{least_next, least_kept, fits_from_one, lesser_over}
use Rattle.skyline.proofs.lows_of.least_low.Goals.{then-level-gt0+else-height-load, else-level-gt0}
use Rattle.skyline.proofs.lows_of.least_low.Goals as goal

pub returns-then-height-load-clause-none : goal.returns-then-height-load-clause-none
returns-then-height-load-clause-none c =
    let b = slice_index c.args.buffers.now c.loop-i.i in
    let t = c.if-height-load.true in
    fits_from_one (low_of c.args.levels.now) (has_level c.args.levels.now) c.args.buffers.now b c.args.load
    c.args.capacity (in_at c.args.buffers.now c.loop-i.i 0 c.loop-i-test.true)
    (is_below 0 (slice_index c.args.levels.now b) c.if-level-gt0.true) t

pub loop-i-preserved : goal.loop-i-preserved
loop-i-preserved c =
    let b = slice_index c.args.buffers.now c.loop-i.i in
    elim c.if-level-gt0.branch [
      | then-level-gt0+else-height-load w ↦ record {
        value = w.least-is ∙ least_next (low_of c.args.levels.now) (has_level c.args.levels.now) c.args.buffers.now
            c.loop-i.i c.loop-i.least _ c.loop-i-test.true c.loop-i.invariant.value
            (is_below 0 (slice_index c.args.levels.now b) w.if-level-gt0.true) w.lesser.ensures.value;
        limit = subst (λ (o : Option ℕ). IfSome o (λ h. h < 2 ^ 55)) (sym w.least-is)
            (let k = w.lesser.ensures.limit in
            let m = c.requires.limit b 0 (c.requires.in_range c.loop-i.i 0 c.loop-i-test.true) in
            let t = w.if-level-gt0.true in
            omega (arith, k, m, t));
        over = subst (λ (o : Option ℕ). IfSome o (λ h. c.args.capacity < h + c.args.load)) (sym w.least-is)
            (lesser_over (low_of c.args.levels.now b) c.loop-i.least w.lesser.result c.args.load c.args.capacity
            w.lesser.ensures.value w.if-height-load.false c.loop-i.invariant.over);
      }
      | else-level-gt0 w ↦ record {
        value = w.least-is ∙ least_kept (low_of c.args.levels.now) (has_level c.args.levels.now) c.args.buffers.now
            c.loop-i.i c.loop-i.least c.loop-i-test.true c.loop-i.invariant.value
            (not_below 0 (slice_index c.args.levels.now b) w.if-level-gt0.false);
        limit = subst (λ (o : Option ℕ). IfSome o (λ h. h < 2 ^ 55)) (sym w.least-is) c.loop-i.invariant.limit;
        over = subst (λ (o : Option ℕ). IfSome o (λ h. c.args.capacity < h + c.args.load)) (sym w.least-is)
            c.loop-i.invariant.over;
      }
    ]
