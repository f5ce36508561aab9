use Rattle.std.proofs.Common.{◌∙◌, arith, refl}
use Rattle.size_classes.proofs.SlotLoop.{are_turns, member_at, numbered_length, slot_read, slots_more}
use Rattle.size_classes.proofs.colouring.slots.Goals as goal

pub numbered_slots-requires : goal.numbered_slots-requires
numbered_slots-requires c = rw c.deref.ensures.value (are_turns _ _ _ c.requires c.in_ok-turns.ensures)

pub index-requires : goal.index-requires
index-requires c =
    let l = numbered_length _ _ _ c.in_ok-numbered.ensures in
    let m = member_at _ _ c.loop-b.b-index 0 c.requires c.loop-b-test.true in
    let n = c.in_ok-numbered.numbered.ok.0 in omega arith

pub loop-b-preserved : goal.loop-b-preserved
loop-b-preserved c =
    let m = member_at _ _ c.loop-b.b-index 0 c.requires c.loop-b-test.true in
    slots_more _ _ _ _ 0 _ _ _ c.loop-b-test.true refl
    (slot_read _ _ _ _ _ _ _ m (c.deref.ensures.value ∙ c.in_ok-turns.ensures) c.in_ok-numbered.ensures
    c.index.ensures) c.in_ok-push.ensures.items c.loop-b.invariant
