use Rattle.std.proofs.Common.{length, ap, arith}
use Rattle.canonical_order.proofs.Places.{has_at}
use Rattle.conflicts.proofs.needs.needs_of.Goals as goal

pub raise_by_other-requires-clause-b_in : goal.raise_by_other-requires-clause-b_in
raise_by_other-requires-clause-b_in c = has_at c.args.lows.now.claim.now _ _ c.pairs-pairs.ensures.value
    (let e = ap length c.pairs-pairs.ensures.value in omega arith)

pub raise_by_line-requires-clause-b_in : goal.raise_by_line-requires-clause-b_in
raise_by_line-requires-clause-b_in c = has_at c.args.lows.now.claim.now _ _ c.pairs-pairs.ensures.value
    (let e = ap length c.pairs-pairs.ensures.value in omega arith)
