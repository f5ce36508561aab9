use Rattle.std.proofs.Common.{arith, ◌≡◌, ℕ, max, sym, ◌∙◌}
use Rattle.first_fit.proofs.Sweeping.{seat_on, seat_over, sweeping_by, sweeping_none, swept_past, swept_to}
use Rattle.first_fit.proofs.places.best_place.Goals.{then-reach-seat, else-reach-seat, in-Some, in-None}
use Rattle.first_fit.proofs.places.best_place.Goals as goal

pub loop-seat-init : goal.loop-seat-init
loop-seat-init c = sweeping_none _ _ _

turned : (a b c : ℕ) → a ≡ max b c → a ≡ max c b
turned a b c h = omega arith

pub loop-seat-preserved-then-not-do_share : goal.loop-seat-preserved-then-not-do_share
loop-seat-preserved-then-not-do_share c = sweeping_by _ _ _ _ _ _ c.requires.seats c.loop-seat.invariant
    c.loop-seat-test.true (sym c.do_share.ensures ∙ c.if-not-do_share.true)

pub loop-seat-preserved : goal.loop-seat-preserved
loop-seat-preserved c = elim c.if-reach-seat.branch [
  | then-reach-seat w ↦ seat_over _ _ _ _ _ _ c.requires.seats c.loop-seat.invariant _ _ c.loop-seat-test.true
      (sym c.do_share.ensures ∙ c.if-not-do_share.false) (turned _ _ _ c.max-reach.ensures) w.if-reach-seat.true
      (rw w.best-is w.narrowed-best.ensures.below) (rw w.best-is w.narrowed-best.ensures.value)
  | else-reach-seat w ↦ seat_on _ _ _ _ _ _ c.requires.seats c.loop-seat.invariant _ _ c.loop-seat-test.true
      (sym c.do_share.ensures ∙ c.if-not-do_share.false) (turned _ _ _ c.max-reach.ensures) w.if-reach-seat.false
      w.best-is
]

pub returns : goal.returns
returns c = λ placed moved. rw c.least_from.ensures.value (elim c.match-best.branch [
  | in-Some w ↦ rw w.from-is (swept_to _ _ _ _ _ _ c.requires.seats c.loop-seat.invariant placed c.requires.sound
      c.loop-seat-test.false moved _ w.in-Some.is)
  | in-None w ↦ rw w.from-is (swept_past _ _ _ _ _ _ c.requires.seats c.loop-seat.invariant placed c.requires.sound
      c.loop-seat-test.false moved w.in-None.is)
])
