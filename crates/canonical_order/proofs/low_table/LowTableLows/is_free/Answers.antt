use Rattle.std.proofs.Common.{◌<◌, length, arith}
use Rattle.canonical_order.proofs.Entries.{stands}
use Rattle.canonical_order.proofs.LevelLemmas.{one_more, read_has, read_inside}
use Rattle.canonical_order.proofs.low_table.LowTableLows.is_free.Goals as goal

pub returns-then-place-len-clause-value : goal.returns-then-place-len-clause-value
returns-then-place-len-clause-value c =
    let t = c.args.self.now in
    let at = c.index.ensures in
    let lt : c.args.b < length t.levels.items = omega (arith, c.if-place-len.true, c.len.ensures, t.levels.ok.0) in (
      λ h. read_has t.instance.now t.claim.now t.levels.items t.filled c.args.b c.index.result.now at lt h,
      λ h. one_more c.index.result.now _
          (read_inside t.instance.now t.claim.now t.levels.items t.filled c.args.b c.index.result.now at h),
    )

pub returns-then-place-len-clause-stands : goal.returns-then-place-len-clause-stands
returns-then-place-len-clause-stands c =
    stands _ _ c.len-pairs.ensures.kept c.args.self.now.in_range c.len-count.ensures.buffers c.len-count.ensures.limit

pub returns-else-place-len-clause-value : goal.returns-else-place-len-clause-value
returns-else-place-len-clause-value c =
    let t = c.args.self.now in (
      λ h. absurd cc,
      λ h.
          let lt = t.in_range _ h in
          let n = t.filled.count in
          let m = c.len.ensures in
          let k = t.levels.ok.0 in
          let f = c.if-place-len.false in
          absurd (omega arith),
    )

pub returns-else-place-len-clause-stands : goal.returns-else-place-len-clause-stands
returns-else-place-len-clause-stands c =
    stands _ _ c.len-pairs.ensures.kept c.args.self.now.in_range c.len-count.ensures.buffers c.len-count.ensures.limit
