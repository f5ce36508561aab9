use Rattle.std.proofs.Common.{rules, ◌≡◌, ◌<◌, ◌+◌, ◌∙◌, ℕ, max, length, slice_index, arith}
use Rattle.std.specs.Ordering.{ord_max}
use Rattle.std.proofs.Common.{nat_cmp}
use Rattle.dsa_terms.specs.Buffers.{buffer}
use Rattle.dsa_terms.specs.Plans.{layout_height}
use Rattle.dsa_model.proofs.Ranges.{greatest_step, rest_of_all}
use Rattle.dsa_model.proofs.heights.height.Goals as goal

zero_max : (n : ℕ) → n ≡ max 0 n
zero_max n = omega arith

pub loop-b-init : goal.loop-b-init
unfolding layout_height
loop-b-init c = rw (rest_of_all (length c.args.instance.now)) (zero_max _)

-- a step: the top takes in one more end
raised : (height top now rest next : ℕ) → height ≡ max top now → now ≡ max next rest → height ≡ max (max top next) rest
raised height top now rest next h k = omega arith

greater : (a b : ℕ) → ord_max nat_cmp a b ≡ max a b
greater a b = search rules

pub loop-b-preserved : goal.loop-b-preserved
loop-b-preserved c =
    let lt : c.loop-b.b < length c.args.instance.now = omega arith in
    let s : c.size.result ≡ (buffer c.args.instance.now c.loop-b.b).size = cc in
    let e : c.max-top.result ≡ max c.loop-b.top (slice_index c.args.offsets.now c.loop-b.b +
    (buffer c.args.instance.now c.loop-b.b).size) =
    rw (← s) (c.max-top.ensures ∙ greater _ _) in
    rw e (raised _ _ _ _ _ c.loop-b.invariant (greatest_step (λ b. slice_index c.args.offsets.now b +
    (buffer c.args.instance.now b).size) c.loop-b.b (length c.args.instance.now) lt))
