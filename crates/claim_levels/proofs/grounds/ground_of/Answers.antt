use Rattle.std.proofs.Common.{◌+◌, arith, drop, slice_index, subst, sym, drop_of_length-le}
use Rattle.claim_levels.proofs.Words.{in_at, next_of}
use Rattle.claim_levels.specs.Levels.{AreKept}
use Rattle.claim_levels.proofs.Grounding.{bounds_low, entries_all, entries_few, entry_next, left_kept}
use Rattle.claim_levels.proofs.LeftBuffers.{left_within}
use Rattle.claim_levels.proofs.grounds.ground_of.Goals.{After-loop-i}
use Rattle.claim_levels.proofs.grounds.ground_of.Goals as goal

pub bounds-levels-b : goal.bounds-levels-b
bounds-levels-b c = left_within _ _ _ c.requires.left (in_at c.args.left.now c.loop-i.i 0 c.loop-i-test.true)

pub overflow_sub-levels : goal.overflow_sub-levels
overflow_sub-levels c =
    let k = c.requires.left.some (slice_index c.args.left.now c.loop-i.i)
    (in_at c.args.left.now c.loop-i.i 0 c.loop-i-test.true) in
    omega (arith, k)

pub loop-i-preserved : goal.loop-i-preserved
loop-i-preserved c = entry_next c.args.levels.now c.args.left.now c.loop-i.pairs.items c.push.new.self.items
    (slice_index c.args.left.now c.loop-i.i) (drop c.loop-i.i c.args.left.now) (drop (c.loop-i.i + 1) c.args.left.now)
    (next_of c.args.left.now c.loop-i.i 0 c.loop-i-test.true) c.in_ok-push.ensures.items c.loop-i.invariant

kept : (c : After-loop-i) → AreKept c.args.levels.now c.loop-i.pairs.items
kept c = left_kept _ _ c.loop-i.pairs.items c.requires.few c.requires.low c.requires.left
    (entries_all c.args.levels.now c.args.left.now c.loop-i.pairs.items (drop c.loop-i.i c.args.left.now)
    (drop_of_length-le c.args.left.now c.loop-i-test.false) c.loop-i.invariant)

pub from_vec-requires-clause-rises : goal.from_vec-requires-clause-rises
from_vec-requires-clause-rises c = (kept c).rises

pub from_vec-requires-clause-count : goal.from_vec-requires-clause-count
from_vec-requires-clause-count c = entries_few c.args.levels.now c.loop-i.pairs.items (kept c).each c.requires.few
    (kept c).rises

pub from_vec-requires-clause-bounds : goal.from_vec-requires-clause-bounds
from_vec-requires-clause-bounds c = bounds_low c.args.levels.now c.loop-i.pairs.items (kept c).each c.requires.low

pub returns : goal.returns
returns c = subst (AreKept c.args.levels.now) (sym c.from_vec.ensures)
    (left_kept _ _ c.loop-i.pairs.items c.requires.few c.requires.low c.requires.left
    (entries_all c.args.levels.now c.args.left.now c.loop-i.pairs.items (drop c.loop-i.i c.args.left.now)
    (drop_of_length-le c.args.left.now c.loop-i-test.false) c.loop-i.invariant))
