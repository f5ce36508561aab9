use Rattle.std.proofs.Common.{rules}
use Rattle.std.proofs.lemmas.List.Sorted.{IsNonDecreasingBy-from_sort_by_key}
use Rattle.lifetime.proofs.EdgeLists.{more_below, sorted_edges}
use Rattle.lifetime.proofs.edges.edges.Goals as goal

pub loop-b-preserved : goal.loop-b-preserved
loop-b-preserved c = more_below c.args.instance.now c.loop-b.b _ _ _ c.loop-b.invariant c.buffer.ensures.value
    c.buffer.ensures.buffer.few_gaps c.in_ok-push_edges.ensures

pub returns : goal.returns
returns c = sorted_edges _ c.loop-b.b _ _ c.loop-b.invariant (search rules) c.sort_unstable_by_key.ensures.permutation
    (IsNonDecreasingBy-from_sort_by_key (λ e. e.0) _ c.sort_unstable_by_key.ensures.sorted (λ a r q k. search rules))
