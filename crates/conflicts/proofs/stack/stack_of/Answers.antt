use Rattle.std.proofs.Common.{◌^◌, ◌≤◌, ◌∙◌, length, slice_index_or, sym, refl, ap, arith}
use Rattle.dsa_model.specs.Buffer.{buffer_limit}
use Rattle.refute_log.proofs.Stacking.{few, rounded_limit}
use Rattle.conflicts.proofs.Stacking.{gather_skip, gather_take, rounded_of, rounding_of, stacked_test}
use Rattle.canonical_order.proofs.Places.{at_in, at_place}
use Rattle.conflicts.proofs.stack.stack_of.Goals as goal
use Rattle.conflicts.proofs.stack.stack_of.Goals.{then-stacks+in_ok-push, else-stacks}

pub buffer-buffer-requires : goal.buffer-buffer-requires
buffer-buffer-requires c = (c.requires.stands).claim.in_range _
    (at_in _ _ _ c.pairs-pair-items.ensures.value c.loop-pair-test.true)

pub stacks-requires-clause-bound_limit : goal.stacks-requires-clause-bound_limit
stacks-requires-clause-bound_limit c = (c.requires.stands).bounds _
    (at_in _ _ _ c.pairs-pair-items.ensures.value c.loop-pair-test.true)

pub overflow_add-sum : goal.overflow_add-sum
overflow_add-sum c =
    let n : length c.pairs-pair-items.result.now ≤ buffer_limit = few _ _ _ c.requires.stands
    c.pairs-pair-items.ensures.value in
    let r : c.next_multiple_of-rounded.result ≤ 2 ^ 41 =
    rounded_limit _ _ _ _ _ _ c.buffer-buffer.ensures.buffer c.requires.some_modulus
    (sym c.stacks.ensures ∙ c.if-stacks.true) (rw (← c.size.ensures.value) c.next_multiple_of-rounded.ensures.value) in
    let k = c.loop-pair.invariant.limit in omega arith

pub loop-pair-preserved : goal.loop-pair-preserved
loop-pair-preserved c =
    let I = c.args.instance.now in
    let e = slice_index_or c.pairs-pair-items.result.now c.loop-pair.pair-index (0, 0) in
    let at = at_place c.args.claim.now c.pairs-pair-items.result.now c.loop-pair.pair-index
    c.pairs-pair-items.ensures.value c.loop-pair-test.true in
    let t = stacked_test I c.args.moment c.args.height c.args.modulus e c.buffer-buffer.result.now
    c.buffer-buffer.ensures.value in
    elim c.if-stacks.branch [
      | then-stacks+in_ok-push w ↦
          let r = rounded_of I c.args.modulus e c.buffer-buffer.result.now w.size.result
          w.next_multiple_of-rounded.result
          c.buffer-buffer.ensures.value w.size.ensures.value w.next_multiple_of-rounded.ensures.value in
          let s = rounding_of I c.args.modulus e c.buffer-buffer.result.now w.size-then-stacks.result
          w.next_multiple_of-rounded.result c.buffer-buffer.ensures.value w.size-then-stacks.ensures.value r in
          let le : w.next_multiple_of-rounded.result ≤ 2 ^ 41 =
          rounded_limit _ _ _ _ _ _ c.buffer-buffer.ensures.buffer c.requires.some_modulus
          (sym c.stacks.ensures ∙ w.if-stacks.true)
          (rw (← w.size.ensures.value) w.next_multiple_of-rounded.ensures.value) in
          gather_take I c.args.claim.now c.args.moment c.args.height c.args.modulus c.loop-pair.pair-index e at
          c.loop-pair.members.items c.if-stacks.members.items c.loop-pair.sum c.if-stacks.sum c.loop-pair.most
          c.if-stacks.most
          (t ∙ (sym c.stacks.ensures ∙ w.if-stacks.true))
          (ap (λ v. v.items) w.members-is ∙ w.in_ok-push.ensures.items)
          (w.sum-is ∙ rw r refl)
          (w.most-is ∙ (w.max-most.ensures ∙ rw s refl))
          (rw (← r) le) c.loop-pair.invariant
      | else-stacks w ↦
          rw (ap (λ v. v.items) w.members-is, w.sum-is, w.most-is)
          (gather_skip I c.args.claim.now c.args.moment c.args.height c.args.modulus c.loop-pair.pair-index e at
          c.loop-pair.members.items c.loop-pair.sum c.loop-pair.most
          (t ∙ (sym c.stacks.ensures ∙ w.if-stacks.false)) c.loop-pair.invariant)
    ]
