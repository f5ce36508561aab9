use Rattle.std.proofs.Common.{arith, rules}
use Rattle.branching.proofs.Words.{IsLive, live_before, and_true}
use Rattle.dsa_model.proofs.Sharing.{shares_with_itself}
use Rattle.branching.proofs.lines.first_moment.Goals as goal

pub unwrap-requires : goal.unwrap-requires
unwrap-requires c = let k = shares_with_itself c.args.buffer.now c.size-size.ensures.buffer in
    search (rules, c.first_common.ensures.shared)

is_live_then : (c : goal.After-unwrap) → IsLive c.args.buffer.now c.unwrap.result
is_live_then c = (and_true _ _ (rw c.unwrap.ensures at c.first_common.ensures.moment).holds).0

pub returns-clause-live : goal.returns-clause-live
returns-clause-live c = is_live_then c

pub returns-clause-limit : goal.returns-clause-limit
returns-clause-limit c = let k = live_before c.args.buffer.now c.unwrap.result (is_live_then c) in
    let u = c.size-size.ensures.buffer.upper_limit in omega arith
