use Rattle.std.proofs.Common.{slice_index_or}
use Rattle.canonical_order.specs.Claims.{entry_of}
use Rattle.canonical_order.proofs.Places.{at_in, at_place}
use Rattle.conflicts.proofs.OwnCites.{IsNoTwin, but_none, no_twin_left, no_twin_next}
use Rattle.conflicts.proofs.cites.twin_of.Goals as goal

pub returns-then-pair-b : goal.returns-then-pair-b
returns-then-pair-b c =
    let l = c.args.lows.now.claim.now in
    let n = c.loop-pair.pair-index in
    let v = c.pairs-pair-items.ensures.value in
    no_twin_left c.args.lows.now.instance.now l n (entry_of l c.args.b)
    (slice_index_or c.pairs-pair-items.result.now n (0, 0))
    (at_place l c.pairs-pair-items.result.now n v c.loop-pair-test.true)
    c.pairs-pair-items.ensures.kept.rises c.if-pair-b.true c.loop-pair.invariant

pub loop-pair-preserved : goal.loop-pair-preserved
loop-pair-preserved c =
    let l = c.args.lows.now.claim.now in
    let n = c.loop-pair.pair-index in
    let v = c.pairs-pair-items.ensures.value in
    no_twin_next c.args.lows.now.instance.now l n (entry_of l c.args.b)
    (slice_index_or c.pairs-pair-items.result.now n (0, 0))
    (at_place l c.pairs-pair-items.result.now n v c.loop-pair-test.true)
    (at_in l c.pairs-pair-items.result.now n v c.loop-pair-test.true)
    (λ h. let k = c.is_twin.ensures.1 h in absurd cc) c.loop-pair.invariant

pub returns : goal.returns
returns c =
    let l = c.args.lows.now.claim.now in
    but_none (IsNoTwin c.args.lows.now.instance.now (entry_of l c.args.b)) l c.loop-pair.pair-index
    (rw c.pairs-pair-items.ensures.value at c.loop-pair-test.false) c.loop-pair.invariant
