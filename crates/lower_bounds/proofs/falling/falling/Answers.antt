use Rattle.std.proofs.Common.{rules, arith, refl, ℕ, map}
use Rattle.std.proofs.lemmas.List.Sorted.{IsNonDecreasingBy-from_sort_by_key}
use Rattle.lower_bounds.specs.Stacks.{IsFalling}
use Rattle.lower_bounds.proofs.Orders.{falls_sorted, keyed_more}
use Rattle.lower_bounds.proofs.falling.falling.Goals as goal

pub loop-b-preserved : goal.loop-b-preserved
loop-b-preserved c = keyed_more c.args.instance.now c.loop-b.b _ _ _ c.floor.result c.buffer.result.now
    c.loop-b.invariant c.buffer.ensures.value c.floor.ensures.value refl c.in_ok-push.ensures.items

pub returns : goal.returns
returns c =
    let f : IsFalling c.args.instance.now (map (λ (e : ℕ × ℕ). e.1) c.sort_unstable_by_key.new.self.items) =
    falls_sorted c.args.instance.now c.loop-b.b _ _ c.len-b-end.ensures.buffers (omega arith) c.loop-b.invariant
    c.sort_unstable_by_key.ensures.permutation
    (IsNonDecreasingBy-from_sort_by_key (λ (e : ℕ × ℕ). e.0) _ c.sort_unstable_by_key.ensures.sorted
    (λ a r q k. search rules)) in
    search rules
