use Rattle.std.proofs.Common.{arith}
use Rattle.size_classes.proofs.PoolLemmas.{all_late, none_late, pool_unput, released, releasing_more, releasing_none, taken_first}
use Rattle.size_classes.proofs.pool.Pool.release.Goals as goal

pub loop-first-init : goal.loop-first-init
loop-first-init c = rw (← c.self.view_is) (releasing_none _ _ c.self.invariant)

pub invariant_of-self : goal.invariant_of-self
invariant_of-self c = c.loop-first.invariant.pool

pub loop-first-preserved : goal.loop-first-preserved
loop-first-preserved c =
    let e = taken_first _ _ _ _ c.in-Some.ensures.first c.pop_first.ensures.variant.1 c.pop_first.ensures.removal in
    releasing_more _ _ _ _ _ _ _ _ _ (omega arith) e c.in_ok-insert.ensures.keys c.loop-first.invariant

pub invariant_of-self-in_err-insert : goal.invariant_of-self-in_err-insert
invariant_of-self-in_err-insert c =
    let e = taken_first _ _ _ _ c.in-Some.ensures.first c.pop_first.ensures.variant.1 c.pop_first.ensures.removal in
    pool_unput _ _ _ _ _ _ e c.in_err-insert.ensures.err c.loop-first.invariant.pool

pub invariant_of-self-in_default : goal.invariant_of-self-in_default
invariant_of-self-in_default c = c.loop-first.invariant.pool

pub returns-then-moment-end : goal.returns-then-moment-end
returns-then-moment-end c =
    released _ _ _ (all_late _ _ _ c.in-Some.ensures.all_from c.if-moment-end.true) c.loop-first.invariant

pub returns-in_default : goal.returns-in_default
returns-in_default c = released _ _ _ (none_late _ _ c.in_default.ensures.variant.1) c.loop-first.invariant
