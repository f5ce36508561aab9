use Rattle.std.proofs.Common.{rules, arith, refl, ◌∙◌, ap}
use Rattle.dsa_terms.specs.Buffers.{Buffer}
use Rattle.first_fit.specs.Rules.{rule_of}
use Rattle.dsa_model.proofs.Instances.{sound_instance}
use Rattle.first_fit.proofs.Fitting.{are_seats, fitting_done, fitting_layout, fitting_limit, fitting_more, fitting_none, next_top, rule_is_clear, rule_is_low, seat_is, within_offsets}
use Rattle.first_fit.proofs.fits.fitted.Goals as goal

pub loop-b-init : goal.loop-b-init
loop-b-init c = fitting_none _ _ _ _ _ _ c.len.ensures.value
    (c.in_ok-offsets.ensures.items_if_clones_equal (λ y e. search rules)) c.in_ok-seats.ensures.items

pub place-start-requires-clause-sound : goal.place-start-requires-clause-sound
place-start-requires-clause-sound c = sound_instance _ c.len.ensures.buffers

pub place-start-requires-clause-seats : goal.place-start-requires-clause-seats
place-start-requires-clause-seats c = rw c.deref.ensures.value
    (are_seats _ _ _ _ _ _ c.loop-b.invariant (omega arith))

pub overflow_add-stop : goal.overflow_add-stop
overflow_add-stop c =
    let top = next_top _ _ _ _ _ _ _ c.place-start.result
    (rule_is_low _ c.args.rule (sound_instance _ c.len.ensures.buffers)) c.len.ensures.buffers
    (c.requires.in_range _ 0 c.loop-b-test.true) (rw c.deref.ensures.value at c.place-start.ensures)
    c.loop-b.invariant in
    let size = c.size.ensures.value ∙ ap (λ (y : Buffer). y.size) c.buffer.ensures.value in omega arith

pub index_mut-requires : goal.index_mut-requires
index_mut-requires c = within_offsets _ _ _ _ _ _ _ _ c.loop-b.invariant (c.requires.in_range _ 0 c.loop-b-test.true)
    c.loop-b.offsets.ok.0

pub loop-b-preserved : goal.loop-b-preserved
loop-b-preserved c =
    let s = sound_instance _ c.len.ensures.buffers in
    fitting_more _ _ _ _ _ _ _ _ _ 0 c.place-start.result _ (rule_is_low _ c.args.rule s) c.len.ensures.buffers
    c.requires c.loop-b-test.true refl (rw c.deref.ensures.value at c.place-start.ensures)
    (seat_is _ _ _ _ (c.size.ensures.value ∙ ap (λ (y : Buffer). y.size) c.buffer.ensures.value))
    c.in_ok-insert_seat.ensures.appended c.in_ok-insert_seat.ensures.order refl c.loop-b.invariant

pub returns : goal.returns
returns c =
    let s = sound_instance _ c.len.ensures.buffers in
    let e = fitting_done _ _ _ _ _ _ c.loop-b-test.false c.loop-b.invariant in record {
      value = e;
      layout = fitting_layout _ (rule_of c.args.rule) _ _ (rule_is_clear _ c.args.rule s) c.requires e;
      limit = fitting_limit _ (rule_of c.args.rule) _ _ (rule_is_low _ c.args.rule s) c.len.ensures.buffers c.requires
          c.len.ensures.limit e;
    }
