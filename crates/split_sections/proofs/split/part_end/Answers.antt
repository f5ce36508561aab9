use Rattle.std.proofs.Common.{◌∙◌, refl, rules, sym, ap, arith}
use Rattle.dsa_terms.specs.Buffers.{Buffer}
use Rattle.dsa_model.specs.Lists.{pair_at}
use Rattle.split_sections.proofs.Sweeping.{reaching_first, reaching_more}
use Rattle.split_sections.proofs.split.part_end.Goals as goal

pub loop-i-init : goal.loop-i-init
loop-i-init c = reaching_first c.args.instance.now c.args.order.now c.args.first _ c.upper-reach.result
    c.requires.order c.requires.in_order c.requires.begins refl
    (sym (c.upper-reach.ensures.value ∙ ap (λ (b : Buffer). b.upper) c.buffer.ensures.value))

pub loop-i-preserved : goal.loop-i-preserved
loop-i-preserved c = reaching_more c.args.instance.now c.args.order.now c.args.first c.loop-i.i c.loop-i.reach
    c.max-reach.result (pair_at c.args.order.now c.loop-i.i) c.requires.order c.loop-i.invariant (omega arith) refl
    c.if-reach-lower.false (search rules)
