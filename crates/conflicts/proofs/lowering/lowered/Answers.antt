use Rattle.std.proofs.Common.{◌≡◌, map, slice_index_or}
use Rattle.conflicts.specs.Eased.{lowered}
use Rattle.conflicts.proofs.LeastBounds.{lowered_is, lowered_is_lower}
use Rattle.conflicts.proofs.ListSteps.{mapped_all, mapped_next}
use Rattle.conflicts.proofs.LowerClaims.{lower_bounded, lower_stands}
use Rattle.canonical_order.proofs.Places.{at_in, at_place}
use Rattle.conflicts.proofs.lowering.lowered.Goals as goal

pub buffer-requires : goal.buffer-requires
buffer-requires c = (c.requires.stands).claim.in_range _
    (at_in _ _ _ c.pairs-pair-items.ensures.value c.loop-pair-test.true)

pub least_bound-requires : goal.least_bound-requires
least_bound-requires c = c.requires.bounds _ (at_in _ _ _ c.pairs-pair-items.ensures.value c.loop-pair-test.true)

pub loop-pair-preserved : goal.loop-pair-preserved
loop-pair-preserved c =
    let e = slice_index_or c.pairs-pair-items.result.now c.loop-pair.pair-index (0, 0) in
    mapped_next (lowered c.args.instance.now) c.args.claim.now c.loop-pair.pair-index e (e.0, c.least_bound.result) _ _
    (at_place c.args.claim.now c.pairs-pair-items.result.now c.loop-pair.pair-index c.pairs-pair-items.ensures.value
    c.loop-pair-test.true)
    (lowered_is c.args.instance.now e c.buffer.result.now c.least_bound.result c.buffer.ensures.value
    c.least_bound.ensures)
    c.in_ok-push.ensures.items c.loop-pair.invariant

all_mapped : (c : goal.After-loop-pair) →
    c.loop-pair.pairs.items ≡ map (lowered c.args.instance.now) c.args.claim.now
all_mapped c =
    mapped_all (lowered c.args.instance.now) c.args.claim.now c.loop-pair.pair-index _
    (rw c.pairs-pair-items.ensures.value at c.loop-pair-test.false) c.loop-pair.invariant

pub from_vec-requires-clause-rises : goal.from_vec-requires-clause-rises
from_vec-requires-clause-rises c =
    let I = c.args.instance.now in
    let l = c.args.claim.now in
    rw (all_mapped c) (lower_stands I l _ c.requires.stands (lowered_is_lower I l c.requires.stands)).claim.rises

pub from_vec-requires-clause-bounds : goal.from_vec-requires-clause-bounds
from_vec-requires-clause-bounds c =
    let I = c.args.instance.now in
    let l = c.args.claim.now in
    rw (all_mapped c)
    (lower_bounded I l _ c.requires.stands (lowered_is_lower I l c.requires.stands) _ c.requires.bounds)
