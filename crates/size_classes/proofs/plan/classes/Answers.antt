use Rattle.std.proofs.Common.{◌∙◌, sym}
use Rattle.dsa_model.proofs.Instances.{sound_instance}
use Rattle.size_classes.proofs.EqualSizes.{equal_is_least, height_is_peak}
use Rattle.size_classes.proofs.PlainLemmas.{plain_from}
use Rattle.size_classes.proofs.PlanLemmas.{plan_is_layout, under_powers}
use Rattle.size_classes.proofs.plan.classes.Goals as goal

pub place-requires : goal.place-requires
place-requires c = plain_from _ (sym c.in_default.ensures.value)

pub returns-clause-value : goal.returns-clause-value
returns-clause-value c = (
  c.in_ok-offsets.ensures.offsets,
  c.in_ok-offsets.ensures.height,
  c.in_ok-load.ensures,
  plain_from _ (sym c.in_default.ensures.value),
)

pub returns-clause-layout : goal.returns-clause-layout
returns-clause-layout c = rw (c.in_ok-offsets.ensures.offsets, c.in_ok-offsets.ensures.height)
    (plan_is_layout _ (sound_instance _ c.in_default.ensures.buffers) (plain_from _ (sym c.in_default.ensures.value)))

pub returns-clause-limit : goal.returns-clause-limit
returns-clause-limit c = c.in_ok-offsets.ensures.limit

pub returns-clause-powers : goal.returns-clause-powers
returns-clause-powers c = rw c.in_ok-offsets.ensures.height (under_powers _)

pub returns-clause-least : goal.returns-clause-least
returns-clause-least c = λ size all.
    let sound = sound_instance _ c.in_default.ensures.buffers in
    let plain = plain_from _ (sym c.in_default.ensures.value) in (
      rw c.in_ok-offsets.ensures.height (equal_is_least _ size sound plain all),
      c.in_ok-offsets.ensures.height ∙ height_is_peak _ size _ sound plain all c.in_ok-load.ensures,
    )
