use Rattle.size_classes.specs.Pools.{IsTakenOut}
use Rattle.size_classes.proofs.PoolLemmas.{pool_taken, taken}
use Rattle.size_classes.proofs.pool.Pool.take.Goals as goal

pub invariant_of-self-2 : goal.invariant_of-self-2
invariant_of-self-2 c =
    let out : IsTakenOut _ _ c.next_slot-slot.new.self = c.next_slot-slot.ensures.out in
    pool_taken c.args.end c.next_slot-slot.result _ _ (rw (← c.self.view_is) at out.below) c.in_ok-insert.ensures.keys
    c.self.invariant

pub returns : goal.returns
returns c =
    taken c.args.end c.next_slot-slot.result _ _ _ (rw (← c.self.view_is) at c.next_slot-slot.ensures.out)
    (rw (← c.self.view_is) at c.next_slot-slot.ensures.busy) c.in_ok-insert.ensures.keys
