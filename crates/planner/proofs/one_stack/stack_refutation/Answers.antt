use Rattle.planner.proofs.Refuting.{bound_refutes}
use Rattle.planner.proofs.one_stack.stack_refutation.Goals as goal

pub returns-clause-refutation : goal.returns-clause-refutation
returns-clause-refutation c =
    bound_refutes c.args.instance.now c.args.capacity c.args.bound c.in_ok-log.field-0 c.len-count.ensures.buffers
    c.requires c.if-bound-capacity.false c.in_ok-log.ensures.value
    c.in_ok-log.ensures.accepted
