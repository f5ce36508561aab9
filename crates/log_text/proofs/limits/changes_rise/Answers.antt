use Rattle.std.proofs.Common.{◌+◌, ◌-◌, ◌<◌, get_or, refl, arith}
use Rattle.log_text.specs.Changes.{buffer_of}
use Rattle.log_text.specs.Edits.{change_value}
use Rattle.log_text.specs.declared.changes.Edit.{Edit}
use Rattle.log_text.specs.declared.changes.Edit.TheVariants as edit
use Rattle.log_text.proofs.Rising.{rise_back, rise_end, rise_there}
use Rattle.log_text.proofs.limits.changes_rise.Goals as goal

pub returns-then-changed_buffer : goal.returns-then-changed_buffer
returns-then-changed_buffer c = (
  λ t. absurd cc,
  λ h. absurd (omega (
    arith,
    rise_there (λ (e : Edit). buffer_of (change_value e)) c.args.changes.now
        c.loop-place.place (c.loop-place.place - 1) (edit.Puts 0 0) (omega arith) c.loop-place-test.true h,
  )),
)

pub loop-place-preserved : goal.loop-place-preserved
loop-place-preserved c =
    let lower : buffer_of (change_value (get_or c.args.changes.now (c.loop-place.place - 1) (edit.Puts 0 0)))
    < buffer_of (change_value (get_or c.args.changes.now c.loop-place.place (edit.Puts 0 0))) = omega arith in
    λ h. c.loop-place.invariant
    (rise_back (λ (e : Edit). buffer_of (change_value e)) c.args.changes.now c.loop-place.place (c.loop-place.place - 1)
    (c.loop-place.place + 1 - 1) (edit.Puts 0 0) (omega arith) (omega arith) c.loop-place-test.true lower h)

pub returns : goal.returns
returns c = (
  λ t. c.loop-place.invariant (rise_end (λ (e : Edit). buffer_of (change_value e)) c.args.changes.now
      (c.loop-place.place - 1) (omega arith)),
  λ h. refl,
)
