use Rattle.std.proofs.Common.{rules, arith, refl}
use Rattle.dsa_model.proofs.Instances.{sound_instance}
use Rattle.dsa_terms.proofs.Places.{in_at}
use Rattle.size_classes.proofs.SlotLoop.{colouring_done, colouring_length, colouring_more, colouring_none}
use Rattle.size_classes.proofs.colouring.numbered_slots.Goals as goal

pub loop-b-init : goal.loop-b-init
loop-b-init c = colouring_none _ _ _ _ _ c.len.ensures.value
    (c.in_ok-slots.ensures.items_if_clones_equal (λ y e. search rules)) c.new-pool.ensures

pub buffer-buffer-requires : goal.buffer-buffer-requires
buffer-buffer-requires c = c.requires.in_range _ (in_at c.args.turns.now c.loop-b.b-index 0 c.loop-b-test.true)

pub index_mut-requires : goal.index_mut-requires
index_mut-requires c =
    let lt = c.requires.in_range _ (in_at c.args.turns.now c.loop-b.b-index 0 c.loop-b-test.true) in
    let l = colouring_length _ _ _ _ _ c.loop-b.invariant in
    let n = c.loop-b.slots.ok.0 in omega arith

pub loop-b-preserved : goal.loop-b-preserved
loop-b-preserved c = colouring_more _ _ _ _ 0 _ _ _ _ _ _ _ (sound_instance _ c.len.ensures.buffers) c.requires
    c.loop-b-test.true refl c.buffer-buffer.ensures.value (rw c.lower.ensures.value at c.in_ok-release.ensures)
    (rw c.upper.ensures.value at c.in_ok-slots-2.ensures) refl c.loop-b.invariant

pub returns : goal.returns
returns c = colouring_done _ _ _ _ _ c.loop-b-test.false c.loop-b.invariant
