use Rattle.std.proofs.Common.{◌≡◌, sym, ap, ◌∙◌, arith}
use Rattle.dsa_model.proofs.Instances.{sound_instance}
use Rattle.refute_log.specs.declared.decided.Decided.TheVariants.{Refuted}
use Rattle.refute_log.proofs.Settling.{right_settles}
use Rattle.search_tests.specs.Prepared.{AreRight, PreparedValue}
use Rattle.search_tests.proofs.min_capacity_tests.PreparedDecider.decide.Goals as goal

pub returns-then-capacity-eq11-clause-settles : goal.returns-then-capacity-eq11-clause-settles
returns-then-capacity-eq11-clause-settles c =
    let subject = ap (λ (p : PreparedValue). p.subject) c.self.view_is in
    let right : AreRight c.self.inside.instance.now c.in-Some.field-0.layout.items c.in-Some.field-0.log =
    rw (← c.in-Some.ensures.value) at c.self.invariant in
    let eleven : c.args.capacity ≡ 11 = (let k = c.if-capacity-eq11.true in omega arith) in
    rw (← subject) (right_settles c.self.inside.instance.now c.args.capacity (Refuted c.in-Some.field-0.log)
    (sound_instance c.self.inside.instance.now c.len-count.ensures.buffers)
    (right.accepted, right.its_capacity ∙ sym eleven))
