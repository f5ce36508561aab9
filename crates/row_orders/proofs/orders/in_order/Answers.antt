use Rattle.std.proofs.Common.{◌∙◌, ℕ, map, refl, ap, arith}
use Rattle.dsa_terms.specs.Buffers.{buffer}
use Rattle.dsa_model.proofs.Instances.{sound_buffer}
use Rattle.row_orders.specs.Orders.{measure}
use Rattle.row_orders.proofs.Meeting.{measure_limit}
use Rattle.row_orders.proofs.Once.{once_of}
use Rattle.row_orders.proofs.Sorting.{keyed_more, sorted_is, sorted_is_order}
use Rattle.row_orders.proofs.orders.in_order.Goals as goal

pub loop-b-preserved : goal.loop-b-preserved
loop-b-preserved c = keyed_more (measure c.args.order c.args.instance.now) c.args.instance.now c.loop-b.b _ _ _ _
    c.loop-b.invariant c.measure.ensures.value refl c.in_ok-push.ensures.items

pub returns-clause-value : goal.returns-clause-value
returns-clause-value c =
    c.in_ok-numbers.ensures ∙ (ap (map (λ (e : ℕ × ℕ). e.1)) c.deref.ensures.value
    ∙ sorted_is (measure c.args.order c.args.instance.now) c.args.instance.now c.loop-b.b _ _ (omega arith)
    (λ b lt. measure_limit c.args.order c.args.instance.now (buffer c.args.instance.now b) c.len-b-end.ensures.buffers
    c.len-b-end.ensures.limit (sound_buffer c.args.instance.now b c.len-b-end.ensures.buffers lt))
    c.loop-b.invariant c.sort_unstable.ensures.permutation c.sort_unstable.ensures.sorted)

pub returns-clause-order : goal.returns-clause-order
returns-clause-order c = rw (c.in_ok-numbers.ensures, c.deref.ensures.value)
    (sorted_is_order (measure c.args.order c.args.instance.now) c.args.instance.now c.loop-b.b _ _ (omega arith)
    c.loop-b.invariant c.sort_unstable.ensures.permutation)

pub returns-clause-once : goal.returns-clause-once
returns-clause-once c = once_of c.args.instance.now _ (rw (c.in_ok-numbers.ensures, c.deref.ensures.value)
    (sorted_is_order (measure c.args.order c.args.instance.now) c.args.instance.now c.loop-b.b _ _ (omega arith)
    c.loop-b.invariant c.sort_unstable.ensures.permutation))
