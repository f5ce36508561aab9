use Rattle.std.proofs.Common.{rules, ◌≡◌, map, ℕ, arith}
use Rattle.first_fit.specs.Orders.{numbers_in_order}
use Rattle.first_fit.proofs.Ordering.{keyed_more, sorted_is}
use Rattle.first_fit.proofs.orders.in_order.Goals as goal

pub loop-b-preserved : goal.loop-b-preserved
loop-b-preserved c = keyed_more _ _ _ _ _ _ _ c.loop-b.invariant c.buffer.ensures.value c.key.ensures
    c.in_ok-push.ensures.items

pub returns : goal.returns
returns c =
    let e : map (λ (e : ℕ × ℕ). e.1) c.sort_unstable.new.self.items
    ≡ numbers_in_order c.args.order c.args.instance.now =
    sorted_is _ _ c.loop-b.b _ _ c.len-b-end.ensures.buffers c.loop-b.invariant (omega arith)
    c.sort_unstable.ensures.permutation c.sort_unstable.ensures.sorted in
    rw (← e) (search rules)
