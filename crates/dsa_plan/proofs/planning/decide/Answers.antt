use Rattle.dsa_plan.proofs.Answering.{does_not_fit, fits, stays_open}
use Rattle.dsa_plan.proofs.planning.decide.Goals as goal

pub returns-in-Ok-Layout-clause-value : goal.returns-in-Ok-Layout-clause-value
returns-in-Ok-Layout-clause-value c = rw c.copy_from_slice.ensures.after (rw c.deref.ensures.value
    (fits c.args.instance.now c.args.capacity c.limited.result c.args.steps c.in-Ok-Layout.plan.items
    c.len-count.ensures.buffers c.len-count.ensures.limit c.limited.ensures.value
    (rw c.in-Ok-Layout.field-0-is at c.in-Ok-Layout.ensures.value)
    (rw c.in-Ok-Layout.field-0-is at c.in-Ok-Layout.ensures.bound)
    (rw c.in-Ok-Layout.field-0-is at c.in-Ok-Layout.ensures.steps)))

pub returns-in-Ok-Refuted-clause-value : goal.returns-in-Ok-Refuted-clause-value
returns-in-Ok-Refuted-clause-value c = does_not_fit c.args.instance.now c.args.capacity c.limited.result c.args.steps
    c.args.offsets.now c.in-Ok-Refuted.field-0-0 c.len-count.ensures.buffers c.len-count.ensures.limit
    c.limited.ensures.value (rw c.in-Ok-Refuted.field-0-is at c.in-Ok-Refuted.ensures.value)
    (rw c.in-Ok-Refuted.field-0-is at c.in-Ok-Refuted.ensures.steps)

pub returns-in-Ok-Open-clause-value : goal.returns-in-Ok-Open-clause-value
returns-in-Ok-Open-clause-value c = stays_open c.args.instance.now c.args.capacity c.limited.result c.args.steps
    c.args.offsets.now c.in-Ok-Open.field-0-0 c.len-count.ensures.buffers c.len-count.ensures.limit
    c.limited.ensures.value (rw c.in-Ok-Open.field-0-is at c.in-Ok-Open.ensures.value)
