use Rattle.size_classes.proofs.PoolLemmas.{pool_back, pool_new, taken_back}
use Rattle.size_classes.proofs.pool.Pool.next_slot.Goals as goal

pub invariant_of-self : goal.invariant_of-self
invariant_of-self c = pool_back c.in-Some.slot _ _ _ _ c.in-Some.ensures.removal c.self.invariant

pub invariant_of-self-in-None : goal.invariant_of-self-in-None
invariant_of-self-in-None c = pool_new _ _ _ _ c.in-None.ensures.unchanged c.self.invariant

pub returns-in-Some-clause-out : goal.returns-in-Some-clause-out
returns-in-Some-clause-out c =
    rw (← c.self.view_is) (taken_back c.in-Some.slot _ _ _ _ c.in-Some.ensures.removal c.in-Some.ensures.all_above
    c.self.invariant)
