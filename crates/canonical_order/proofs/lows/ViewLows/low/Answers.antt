use Rattle.std.proofs.Common.{◌<◌, ◌+◌, ◌≤◌, ◌^◌, ◌∙◌, ap, arith}
use Rattle.std.specs.Int.{next_multiple_of}
use Rattle.dsa_terms.proofs.Numbers.{next_is_below}
use Rattle.dsa_terms.specs.Buffers.{Buffer}
use Rattle.canonical_order.proofs.Entries.{stands, bound_none, bound_within, up_of_bound}
use Rattle.canonical_order.proofs.lows.ViewLows.low.Goals as goal

pub buffer-requires : goal.buffer-requires
buffer-requires c = c.args.self.now.in_range _ c.requires

pub least_offset-requires : goal.least_offset-requires
least_offset-requires c = let k : c.in-Some.bound ≤ 2 ^ 61 =
    bound_within _ _ _ c.in-Some.ensures.kept.bounds c.in-Some.ensures.value in omega arith

pub returns-in-Some-clause-value : goal.returns-in-Some-clause-value
returns-in-Some-clause-value c =
    c.least_offset.ensures ∙ (ap (λ (b : Buffer). next_multiple_of c.in-Some.bound b.alignment) c.buffer.ensures.value ∙
    up_of_bound c.args.self.now.instance.now _ _ _ c.in-Some.ensures.value)

pub returns-in-Some-clause-stands : goal.returns-in-Some-clause-stands
returns-in-Some-clause-stands c =
    stands _ _ c.in-Some.ensures.kept c.args.self.now.in_range c.len-count.ensures.buffers c.len-count.ensures.limit

pub returns-in-None-clause-value : goal.returns-in-None-clause-value
returns-in-None-clause-value c = absurd (bound_none _ _ c.in-None.ensures.value c.requires)

pub returns-in-None-clause-stands : goal.returns-in-None-clause-stands
returns-in-None-clause-stands c = absurd (bound_none _ _ c.in-None.ensures.value c.requires)

pub returns-in-Some-clause-limit : goal.returns-in-Some-clause-limit
returns-in-Some-clause-limit c =
    let k : c.in-Some.bound ≤ 2 ^ 61 = bound_within _ _ _ c.in-Some.ensures.kept.bounds c.in-Some.ensures.value in
    let m : c.least_offset.result < c.in-Some.bound + c.buffer.result.now.alignment =
    rw c.least_offset.ensures (next_is_below _ _ c.buffer.ensures.buffer.sound.1) in
    let n : c.buffer.result.now.alignment ≤ 2 ^ 32 = c.buffer.ensures.buffer.within_alignment in omega arith
