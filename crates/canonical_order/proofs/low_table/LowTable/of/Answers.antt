use Rattle.std.proofs.Common.{◌<◌, ◌≤◌, ◌+◌, ◌^◌, ◌∙◌, length, replicate, slice_index_or, refl, arith}
use Rattle.std.proofs.lemmas.List.{length-set}
use Rattle.dsa_terms.proofs.Numbers.{next_is_below}
use Rattle.canonical_order.proofs.Entries.{in_range}
use Rattle.canonical_order.proofs.Places.{at_in, at_place}
use Rattle.canonical_order.proofs.LowTabling.{filled_all, filled_levels, filled_next, level_is}
use Rattle.canonical_order.proofs.low_table.LowTable.of.Goals as goal

pub buffer-requires : goal.buffer-requires
buffer-requires c = c.requires.claim.in_range _ (at_in _ _ _ c.pairs-pair-items.ensures.value c.loop-pair-test.true)

pub least_offset-low-requires : goal.least_offset-low-requires
least_offset-low-requires c =
    let k : (slice_index_or c.pairs-pair-items.result.now c.loop-pair.pair-index (0, 0)).1 ≤ 2 ^ 61 =
    c.requires.bounds _ (at_in _ _ _ c.pairs-pair-items.ensures.value c.loop-pair-test.true) in
    omega arith

pub overflow_add-low : goal.overflow_add-low
overflow_add-low c =
    let e = slice_index_or c.pairs-pair-items.result.now c.loop-pair.pair-index (0, 0) in
    let k : e.1 ≤ 2 ^ 61 =
    c.requires.bounds _ (at_in _ _ _ c.pairs-pair-items.ensures.value c.loop-pair-test.true) in
    let m : c.least_offset-low.result < e.1 + c.buffer.result.now.alignment =
    rw c.least_offset-low.ensures (next_is_below _ _ c.buffer.ensures.buffer.sound.1) in
    let n : c.buffer.result.now.alignment ≤ 2 ^ 32 = c.buffer.ensures.buffer.within_alignment in
    omega arith

pub index_mut-requires : goal.index_mut-requires
index_mut-requires c =
    let pair = slice_index_or c.pairs-pair-items.result.now c.loop-pair.pair-index (0, 0) in
    let lt : pair.0 < length c.args.instance.now =
    c.requires.claim.in_range _ (at_in _ _ _ c.pairs-pair-items.ensures.value c.loop-pair-test.true) in
    omega (arith, lt, c.loop-pair.invariant.count, c.loop-pair.levels.ok.0)

pub loop-pair-preserved : goal.loop-pair-preserved
loop-pair-preserved c =
    let e = slice_index_or c.pairs-pair-items.result.now c.loop-pair.pair-index (0, 0) in
    record {
      left = filled_next c.args.instance.now c.args.claim.now c.loop-pair.pair-index e c.loop-pair.levels.items _ _
          (c.least_offset-low.result + 1)
          (at_place c.args.claim.now c.pairs-pair-items.result.now c.loop-pair.pair-index
          c.pairs-pair-items.ensures.value c.loop-pair-test.true)
          (level_is c.args.instance.now e c.buffer.result.now c.least_offset-low.result c.buffer.ensures.value
          c.least_offset-low.ensures)
          refl c.loop-pair.invariant.left;
      count = length-set _ _ _ ∙ c.loop-pair.invariant.count;
    }

pub invariant_of-result : goal.invariant_of-result
invariant_of-result c = record {
  in_range = λ b h. in_range _ _ b c.requires h;
  filled = filled_levels c.args.instance.now c.args.claim.now c.loop-pair.levels.items c.requires.claim
      (filled_all c.args.instance.now c.args.claim.now c.loop-pair.pair-index _
      (replicate (length c.args.instance.now) 0)
      (rw c.pairs-pair-items.ensures.value at c.loop-pair-test.false) c.loop-pair.invariant.left);
}
