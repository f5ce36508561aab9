use Rattle.canonical_order.proofs.Places.{at_in}
use Rattle.conflicts.proofs.needs.raise_by_line.Goals as goal

pub needed_first-requires-clause-b_in : goal.needed_first-requires-clause-b_in
needed_first-requires-clause-b_in c = c.args.lows.now.in_range _ c.requires.b_in

pub needed_first-requires-clause-c_in : goal.needed_first-requires-clause-c_in
needed_first-requires-clause-c_in c = c.args.lows.now.in_range _ (c.is_free.ensures.value.0 c.if-is_free.true)

pub needed_first-requires-clause-bound_limit : goal.needed_first-requires-clause-bound_limit
needed_first-requires-clause-bound_limit c = c.requires.bounds _
    (at_in _ _ _ c.pairs-pair-items.ensures.value c.loop-pair-test.true)

pub raise-requires : goal.raise-requires
raise-requires c = rw c.loop-pair.invariant (c.args.lows.now.in_range _ c.requires.b_in)

pub bounds-needs-b : goal.bounds-needs-b
bounds-needs-b c = rw c.loop-pair-2.invariant (c.args.lows.now.in_range _ c.requires.b_in)

pub needed_first-requires-then-is_free-2-clause-b_in : goal.needed_first-requires-then-is_free-2-clause-b_in
needed_first-requires-then-is_free-2-clause-b_in c = c.args.lows.now.in_range _ c.requires.b_in

pub needed_first-requires-then-is_free-2-clause-c_in : goal.needed_first-requires-then-is_free-2-clause-c_in
needed_first-requires-then-is_free-2-clause-c_in c =
    c.args.lows.now.in_range _ (c.is_free-in-loop-pair-2.ensures.value.0 c.if-is_free-2.true)

pub needed_first-requires-then-is_free-2-clause-bound_limit :
    goal.needed_first-requires-then-is_free-2-clause-bound_limit
needed_first-requires-then-is_free-2-clause-bound_limit c = c.requires.bounds _
    (at_in _ _ _ c.pairs-pair-items-2.ensures.value c.loop-pair-2-test.true)

pub buffer-requires : goal.buffer-requires
buffer-requires c = c.args.lows.now.in_range _ (c.is_free-in-loop-pair-2.ensures.value.0 c.if-is_free-2.true)

pub least_bound-requires : goal.least_bound-requires
least_bound-requires c = c.requires.bounds _ (at_in _ _ _ c.pairs-pair-items-2.ensures.value c.loop-pair-2-test.true)

pub raise-requires-then-needs-b : goal.raise-requires-then-needs-b
raise-requires-then-needs-b c = rw c.loop-pair-2.invariant
    (c.args.lows.now.in_range _ (c.is_free-in-loop-pair-2.ensures.value.0 c.if-is_free-2.true))
