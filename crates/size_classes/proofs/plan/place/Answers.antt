use Rattle.std.proofs.Common.{arith}
use Rattle.size_classes.proofs.RowLemmas.{height_done, limit_done, plan_done}
use Rattle.size_classes.proofs.plan.place.Goals as goal

pub returns-clause-offsets : goal.returns-clause-offsets
returns-clause-offsets c =
    plan_done _ c.loop-class.class _ c.len.ensures.buffers (omega arith) c.loop-class.invariant.set

pub returns-clause-height : goal.returns-clause-height
returns-clause-height c =
    height_done _ c.loop-class.class _ c.len.ensures.buffers (omega arith) c.loop-class.invariant.end

pub returns-clause-limit : goal.returns-clause-limit
returns-clause-limit c =
    limit_done c.args.instance.now c.loop-class.class _ (let l = c.len.ensures.limit in omega arith) (omega arith)
    c.loop-class.invariant.end
