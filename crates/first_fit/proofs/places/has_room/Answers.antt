use Rattle.std.proofs.Common.{ap, ◌∙◌}
use Rattle.dsa_terms.specs.Buffers.{Buffer}
use Rattle.first_fit.proofs.Climbing.{no_room}
use Rattle.first_fit.proofs.places.has_room.Goals as goal

pub returns-then-range-size : goal.returns-then-range-size
returns-then-range-size c = no_room c.args.instance.now c.args.b _ _ _
    (c.size-size.ensures.value ∙ ap (λ (y : Buffer). y.size) c.buffer.ensures.value) c.if-range-size.true
