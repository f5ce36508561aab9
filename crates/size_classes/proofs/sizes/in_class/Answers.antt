use Rattle.std.proofs.Common.{arith, ap, ◌∙◌}
use Rattle.size_classes.proofs.SizeLemmas.{class_done, class_more, class_skip}
use Rattle.size_classes.proofs.sizes.in_class.Goals as goal
use Rattle.size_classes.proofs.sizes.in_class.Goals.{else-class_of-class, then-class_of-class+in_ok-push}

pub loop-b-preserved : goal.loop-b-preserved
loop-b-preserved c = elim c.if-class_of-class.branch [
  | then-class_of-class+in_ok-push w ↦ class_more _ _ _ _ _ _ _ _ c.buffer.ensures.value c.size.ensures.value
      c.class_of.ensures w.if-class_of-class.true (ap (λ v. v.items) w.members-is ∙ w.in_ok-push.ensures.items)
      c.loop-b.invariant
  | else-class_of-class w ↦ class_skip _ _ _ _ _ _ _ c.buffer.ensures.value c.size.ensures.value c.class_of.ensures
      w.if-class_of-class.false (ap (λ v. v.items) w.members-is ∙ c.loop-b.invariant)
]

pub returns : goal.returns
returns c = class_done _ _ _ _ (omega arith) c.loop-b.invariant
