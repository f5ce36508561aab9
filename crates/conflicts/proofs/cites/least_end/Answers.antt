use Rattle.std.proofs.Common.{slice_index_or, sym}
use Rattle.canonical_order.proofs.Entries.{is_entry}
use Rattle.canonical_order.proofs.Places.{at_in, has_at, at_place}
use Rattle.conflicts.proofs.OwnCites.{least_kept, least_taken}
use Rattle.conflicts.proofs.cites.least_end.Goals as goal
use Rattle.conflicts.proofs.cites.least_end.Goals.{then-other-lowest, else-other-lowest}

pub end-other-requires : goal.end-other-requires
end-other-requires c = has_at c.args.lows.now.claim.now _ _ c.pairs-pairs.ensures.value c.loop-pair-test.true

pub loop-pair-preserved : goal.loop-pair-preserved
loop-pair-preserved c =
    let I = c.args.lows.now.instance.now in
    let l = c.args.lows.now.claim.now in
    let n = c.loop-pair.pair-index in
    let e = slice_index_or c.pairs-pairs.result.now n (0, 0) in
    let v = c.pairs-pairs.ensures.value in
    let at = at_place l c.pairs-pairs.result.now n v c.loop-pair-test.true in
    let i = at_in l c.pairs-pairs.result.now n v c.loop-pair-test.true in
    let q = sym (is_entry l e c.pairs-pairs.ensures.kept.rises i) in
    elim c.if-other-lowest.branch [
      | then-other-lowest w ↦ record {
        least = rw w.least-is (least_taken I l n e at q c.loop-pair.least c.loop-pair.invariant.least
            (has_at l c.pairs-pairs.result.now n v c.loop-pair-test.true)
            (rw (c.end-other.ensures.value, c.loop-pair.invariant.lowest) at w.if-other-lowest.true));
        lowest = rw (w.least-is, w.lowest-is) c.end-other.ensures.value;
      }
      | else-other-lowest w ↦ record {
        least = rw w.least-is (least_kept I l n e at q c.loop-pair.least c.loop-pair.invariant.least
            (rw (c.end-other.ensures.value, c.loop-pair.invariant.lowest) at w.if-other-lowest.false));
        lowest = rw (w.least-is, w.lowest-is) c.loop-pair.invariant.lowest;
      }
    ]
