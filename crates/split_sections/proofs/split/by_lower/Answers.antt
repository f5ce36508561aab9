use Rattle.std.proofs.Common.{rules}
use Rattle.std.proofs.lemmas.List.Sorted.{IsNonDecreasingBy-from_sort_by_key}
use Rattle.split_sections.proofs.Order.{by_lower_is, pushed}
use Rattle.split_sections.proofs.split.by_lower.Goals as goal

pub loop-b-preserved : goal.loop-b-preserved
loop-b-preserved c = pushed c.args.instance.now c.loop-b.b _ _ c.lower.result _ c.loop-b.invariant
    c.buffer.ensures.value c.lower.ensures.value c.in_ok-push.ensures.items

pub returns-clause-order : goal.returns-clause-order
returns-clause-order c = by_lower_is _ _ _ _ c.loop-b.invariant (search rules)
    c.sort_unstable_by_key.ensures.permutation
    (IsNonDecreasingBy-from_sort_by_key (λ e. e.0) _ c.sort_unstable_by_key.ensures.sorted (λ a r q k. search rules))
