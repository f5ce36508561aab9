use Rattle.std.proofs.Common.{◌≡◌, ◌∙◌, ◌<◌, ap, arith, count_by, None, sym}
use Rattle.std.specs.Option.{option_copied}
use Rattle.dsa_model.specs.Buffer.{buffer_limit}
use Rattle.trace_import.specs.Faults.{holder}
use Rattle.trace_import.specs.Traces.{is_alloc}
use Rattle.trace_import.proofs.TraceLemmas.{has_room}
use Rattle.trace_import.proofs.trace.Trace.alloc_fault.Goals as goal

pub returns : goal.returns
returns c = λ size alignment.
    let none : holder c.args.self.now c.args.id.now ≡ None =
    sym (c.requires c.args.id.now) ∙ sym c.get.ensures.value ∙ ap option_copied c.in_default.is in
    let count = ap (count_by is_alloc) c.self.view_is in
    let counted = c.self.invariant.counted in
    let few = c.self.invariant.few in
    let room : count_by is_alloc c.args.self.now < buffer_limit = omega (arith, count, counted, few) in
    sym (has_room c.args.self.now c.args.id.now size alignment none room)
