use Rattle.std.proofs.Common.{◌+◌, ◌∙◌, arith, drop, drop_of_length-le, length-set, refl, slice_index_or}
use Rattle.claim_levels.proofs.Words.{Entry, in_at, next_of}
use Rattle.claim_levels.proofs.Undoing.{undone_all, undone_next}
use Rattle.claim_levels.proofs.raising.put_back.Goals as goal

pub bounds-levels-b : goal.bounds-levels-b
bounds-levels-b c =
    let k = c.requires (slice_index_or c.args.changes.now c.loop-b.b-index (0, 0))
    (in_at c.args.changes.now c.loop-b.b-index (0, 0) c.loop-b-test.true) in
    let n = c.loop-b.invariant.count in
    omega (arith, k, n)

pub loop-b-preserved : goal.loop-b-preserved
loop-b-preserved c =
    let changes = c.args.changes.now in
    let i = c.loop-b.b-index in
    let e : Entry = slice_index_or changes i (0, 0) in
    record {
      undone = undone_next changes (drop i changes) (drop (i + 1) changes) e c.args.levels.now c.loop-b.levels _
          (next_of changes i (0, 0) c.loop-b-test.true) refl c.loop-b.invariant.undone;
      count = length-set c.loop-b.levels e.0 e.1 ∙ c.loop-b.invariant.count;
    }

pub returns : goal.returns
returns c = undone_all (drop c.loop-b.b-index c.args.changes.now) c.args.changes.now c.args.levels.now c.loop-b.levels
    (drop_of_length-le c.args.changes.now c.loop-b-test.false) c.loop-b.invariant.undone
