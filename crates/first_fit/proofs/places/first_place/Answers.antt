use Rattle.std.proofs.Common.{arith, sym, ◌∙◌}
use Rattle.first_fit.proofs.Climbing.{climbed_past_all, climbed_to_room, climbing_by, climbing_none, climbing_over, climbing_past}
use Rattle.first_fit.proofs.places.first_place.Goals.{then-reach-seat+then-do_share, else-reach-seat, else-reach-seat-via-then-reach-seat+else-do_share, else-reach-seat-via-else-reach-seat, else-loop-seat-test, then-loop-seat-test+then-has_room}
use Rattle.first_fit.proofs.places.first_place.Goals as goal

pub loop-seat-init : goal.loop-seat-init
loop-seat-init c = climbing_none _ _ _

pub loop-seat-preserved : goal.loop-seat-preserved
loop-seat-preserved c = elim c.if-reach-seat.branch [
  | then-reach-seat+then-do_share w ↦ rw w.reach-is (climbing_past _ _ _ _ _ c.requires.sound c.requires.seats
      c.loop-seat-test.true (sym w.do_share.ensures ∙ w.if-do_share.true)
      (sym c.has_room.ensures ∙ c.if-has_room.false)
      (let k = w.if-reach-seat.true in omega arith) c.loop-seat.invariant)
  | else-reach-seat w ↦ rw w.reach-is (elim w.else-reach-seat.branch [
    | else-reach-seat-via-then-reach-seat+else-do_share v ↦ climbing_by _ _ _ _ _ c.loop-seat.invariant
        (sym v.do_share.ensures ∙ v.if-do_share.false)
    | else-reach-seat-via-else-reach-seat v ↦ climbing_over _ _ _ _ _ c.loop-seat.invariant v.if-reach-seat.false
  ])
]

pub returns : goal.returns
returns c = λ placed moved. rw c.least_from.ensures.value (elim c.loop-seat-test.branch [
  | else-loop-seat-test w ↦ climbed_past_all _ _ _ _ _ _ c.requires.sound c.requires.seats w.loop-seat-test.false
      c.loop-seat.invariant moved
  | then-loop-seat-test+then-has_room w ↦ climbed_to_room _ _ _ _ _ _ c.requires.sound c.requires.seats
      w.loop-seat-test.true (sym w.has_room.ensures ∙ w.if-has_room.true) c.loop-seat.invariant moved
])
