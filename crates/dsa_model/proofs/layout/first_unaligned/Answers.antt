use Rattle.std.proofs.Common.{◌<◌, ◌∙◌, length, refl, slice_index, sym, arith}
use Rattle.dsa_model.specs.LayoutFaults.{first_unaligned, is_unaligned}
use Rattle.dsa_model.proofs.Ranges.{find_here, find_later, rest_of_all}
use Rattle.dsa_model.proofs.LayoutFaults.{tested}
use Rattle.dsa_model.proofs.layout.first_unaligned.Goals as goal

pub loop-b-init : goal.loop-b-init
unfolding first_unaligned
loop-b-init c = rw (rest_of_all (length c.args.instance.now)) refl

pub returns-then-is_unaligned : goal.returns-then-is_unaligned
returns-then-is_unaligned c =
    let lt : c.loop-b.b < length c.args.instance.now = omega arith in
    let t =
    tested (λ b. is_unaligned b (slice_index c.args.offsets.now c.loop-b.b)) _ _ _ _ c.is_unaligned.ensures
    c.buffer.ensures.value c.if-is_unaligned.true in
    sym (c.loop-b.invariant ∙ find_here _ c.loop-b.b _ lt t)

pub loop-b-preserved : goal.loop-b-preserved
loop-b-preserved c =
    let lt : c.loop-b.b < length c.args.instance.now = omega arith in
    let t =
    tested (λ b. is_unaligned b (slice_index c.args.offsets.now c.loop-b.b)) _ _ _ _ c.is_unaligned.ensures
    c.buffer.ensures.value c.if-is_unaligned.false in
    c.loop-b.invariant ∙ find_later _ c.loop-b.b _ lt t
