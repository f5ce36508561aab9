use Rattle.std.proofs.Common.{◌<◌, arith, length, nat_lt, not}
use Rattle.dsa_terms.specs.Buffers.{Buffer}
use Rattle.dsa_terms.specs.Parts.{is_empty}
use Rattle.column_report.proofs.Counting.{counted, gaps_told, number_told}
use Rattle.column_report.proofs.counts.counts_of.Goals as goal

pub loop-b-preserved : goal.loop-b-preserved
loop-b-preserved c =
    let i = c.loop-b.invariant in
    let x = c.buffer-buffer.result.now in
    let I = c.args.instance.now in
    let b = c.loop-b.b in
    let within : b < length I = omega (arith, c.loop-b-test.true, c.len-b-end.ensures.value) in
    let is = c.buffer-buffer.ensures.value in record {
      aligned = counted (λ (y : Buffer). nat_lt 1 y.alignment) I b _ _ x within is i.aligned
          (number_told 1 _ _ _ c.from-aligned.ensures c.alignment.ensures.value);
      gaps = counted (λ (y : Buffer). not (is_empty y.gaps)) I b _ _ x within is i.gaps
          (gaps_told x _ _ _ c.from-gaps.ensures c.is_empty.ensures c.gaps.ensures.value);
      lowest = counted (λ (y : Buffer). nat_lt 0 y.lowest) I b _ _ x within is i.lowest
          (number_told 0 _ _ _ c.from-lowest.ensures c.lowest.ensures.value);
    }
