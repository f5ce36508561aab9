use Rattle.std.proofs.Common.{refl, arith}
use Rattle.log_text.specs.Edits.{change_value}
use Rattle.log_text.proofs.Carrying.{loop_bad, loop_changes, loop_stays}
use Rattle.log_text.proofs.changes.carry_out.Goals as goal

pub loop-next-preserved-then-stays : goal.loop-next-preserved-then-stays
loop-next-preserved-then-stays c = let s = c.stays.ensures.stays c.if-stays.true in (
  omega arith,
  c.loop-next.invariant.1,
  loop_stays change_value c.args.base.now c.args.changes.now c.loop-next.place c.loop-next.next _ _ _ _
      c.requires.changes c.loop-next-test.true s.0 s.1 c.changed_buffer-b.ensures c.loop-next.invariant.2
      c.in_ok-push.ensures.items,
)

pub returns-then-not-does_change : goal.returns-then-not-does_change
returns-then-not-does_change c = loop_bad change_value c.args.base.now c.args.changes.now
    c.loop-next.place c.loop-next.next _ _ c.loop-next-test.true
    (λ s. let t = c.if-not-does_change.ensures.1 s in absurd cc) c.loop-next.invariant.2

pub loop-next-preserved : goal.loop-next-preserved
loop-next-preserved c = (
  c.past-place.ensures.within,
  omega arith,
  loop_changes change_value c.args.base.now c.args.changes.now c.loop-next.place c.loop-next.next _ _ _ _ _
      c.requires.changes c.loop-next-test.true c.changed_buffer-b.ensures (c.if-stays.ensures.reached refl)
      (c.if-not-does_change.ensures.0 refl) c.loop-next.invariant.2 c.in_ok-put.ensures c.past-place.ensures.rest,
)
