use Rattle.std.proofs.Common.{arith, rules}
use Rattle.std.proofs.lemmas.List.Filters.{dedup_is}
use Rattle.layout_picture.proofs.Turns.{gathered_all, gathered_more, gathered_none}
use Rattle.layout_picture.proofs.columns.columns.Goals as goal

pub loop-b-init : goal.loop-b-init
loop-b-init c = gathered_none _ _ c.in_ok-moments.ensures.items

pub loop-b-preserved : goal.loop-b-preserved
loop-b-preserved c = gathered_more _ _ _ _ _ c.loop-b.invariant c.buffer.ensures.value c.buffer.ensures.buffer.few_gaps
    c.in_ok-push_turns.ensures

pub returns-clause-value : goal.returns-clause-value
returns-clause-value c = gathered_all _ c.loop-b.b c.loop-b.moments.items _ _ c.loop-b.invariant (search rules)
    c.len-b-end.ensures.buffers c.sort_unstable.ensures.permutation c.sort_unstable.ensures.sorted
    (dedup_is _ _ _ c.dedup.ensures.filtered)

pub returns-clause-few : goal.returns-clause-few
returns-clause-few c = let k = c.loop-b.invariant.few in let n = c.len-b-end.ensures.limit in omega arith
