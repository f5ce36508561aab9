use Rattle.std.proofs.Common.{◌<◌, ◌∙◌, length, refl, slice_index, sym, arith}
use Rattle.dsa_model.specs.LayoutFaults.{first_too_low, is_too_low}
use Rattle.dsa_model.proofs.Ranges.{find_here, find_later, rest_of_all}
use Rattle.dsa_model.proofs.LayoutFaults.{tested}
use Rattle.dsa_model.proofs.layout.first_too_low.Goals as goal

pub loop-b-init : goal.loop-b-init
unfolding first_too_low
loop-b-init c = rw (rest_of_all (length c.args.instance.now)) refl

pub returns-then-is_too_low : goal.returns-then-is_too_low
returns-then-is_too_low c =
    let lt : c.loop-b.b < length c.args.instance.now = omega arith in
    let t =
    tested (λ b. is_too_low b (slice_index c.args.offsets.now c.loop-b.b)) _ _ _ _ c.is_too_low.ensures
    c.buffer.ensures.value c.if-is_too_low.true in
    sym (c.loop-b.invariant ∙ find_here _ c.loop-b.b _ lt t)

pub loop-b-preserved : goal.loop-b-preserved
loop-b-preserved c =
    let lt : c.loop-b.b < length c.args.instance.now = omega arith in
    let t =
    tested (λ b. is_too_low b (slice_index c.args.offsets.now c.loop-b.b)) _ _ _ _ c.is_too_low.ensures
    c.buffer.ensures.value c.if-is_too_low.false in
    c.loop-b.invariant ∙ find_later _ c.loop-b.b _ lt t
