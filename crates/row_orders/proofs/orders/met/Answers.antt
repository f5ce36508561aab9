use Rattle.std.proofs.Common.{◌≡◌, ◌+◌, ◌<◌, ◌∙◌, length, sym, ap, true, false, arith}
use Rattle.dsa_terms.specs.Buffers.{buffer}
use Rattle.dsa_model.proofs.Instances.{sound_buffer}
use Rattle.row_orders.proofs.Meeting.{summed_all, summed_more}
use Rattle.row_orders.proofs.orders.met.Goals as goal
use Rattle.row_orders.proofs.orders.met.Goals.{then-do_share, else-do_share}

pub loop-c-preserved : goal.loop-c-preserved
loop-c-preserved c =
    let lt : c.loop-c.c < length c.args.instance.now = omega arith in
    let b = sound_buffer c.args.instance.now c.loop-c.c c.len-c-end.ensures.buffers lt in
    elim c.if-do_share.branch [
      | then-do_share w ↦
          let s : w.size-sum.result ≡ (buffer c.args.instance.now c.loop-c.c).size = cc in
          summed_more _ _ _ _ _ true lt b (sym c.do_share.ensures ∙ w.if-do_share.true)
          (w.sum-is ∙ ap (λ s. c.loop-c.sum + s) s) c.loop-c.invariant
      | else-do_share w ↦
          let n : c.if-do_share.sum ≡ c.loop-c.sum + 0 = omega arith in
          summed_more _ _ _ _ _ false lt b (sym c.do_share.ensures ∙ w.if-do_share.false) n c.loop-c.invariant
    ]

pub returns-clause-value : goal.returns-clause-value
returns-clause-value c = summed_all _ _ _ c.loop-c.c (omega arith) c.loop-c.invariant
