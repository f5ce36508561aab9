use Rattle.std.proofs.Common.{◌<◌, length, slice_index_or, ap, arith}
use Rattle.canonical_order.proofs.Places.{has_at}
use Rattle.conflicts.proofs.parts.by_buffer.Goals as goal

pub index_mut-requires : goal.index_mut-requires
index_mut-requires c =
    let v = c.pairs-pairs.ensures.value in
    let len = ap length v in
    let each = c.requires in
    let m : c.loop-place.place < length c.pairs-pairs.result.now = omega arith in
    let pair = slice_index_or c.pairs-pairs.result.now c.loop-place.place (0, 0) in
    let lt : pair.0 < length c.args.lows.now.instance.now =
    c.args.lows.now.in_range _ (has_at c.args.lows.now.claim.now _ _ v m) in
    omega (arith, lt, c.loop-place.invariant, c.loop-place.all.ok.0)
