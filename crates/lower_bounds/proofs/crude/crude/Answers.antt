use Rattle.std.proofs.Common.{rules}
use Rattle.lower_bounds.proofs.CrudeBounds.{crude_is_over, crude_more, crude_none, crude_same}
use Rattle.lower_bounds.proofs.Piles.{counted_false, counted_true}
use Rattle.lower_bounds.proofs.crude.crude.Goals.{then-alignment-modulus-eq0, else-alignment-modulus-eq0}
use Rattle.lower_bounds.proofs.crude.crude.Goals as goal

pub loop-b-init : goal.loop-b-init
loop-b-init c = crude_none _ _

pub loop-b-preserved : goal.loop-b-preserved
loop-b-preserved c = elim c.if-alignment-modulus-eq0.branch [
  | then-alignment-modulus-eq0 w ↦ rw (w.top-is, w.total-is) (crude_more _ _ _ _ _ w.floor.result w.size.result
      w.next_multiple_of-total.result w.max-top.result c.buffer-buffer.result.now c.requires
      c.buffer-buffer.ensures.value c.buffer-buffer.ensures.buffer
      (counted_true _ _ _ c.alignment.result _ c.buffer-buffer.ensures.value c.alignment.ensures.value
      w.if-alignment-modulus-eq0.true)
      w.floor.ensures.value w.size.ensures.value w.next_multiple_of-total.ensures.value (search rules)
      c.loop-b.invariant)
  | else-alignment-modulus-eq0 w ↦ rw (w.top-is, w.total-is) (crude_same _ _ _ _ _
      (counted_false _ _ _ c.alignment.result _ c.buffer-buffer.ensures.value c.alignment.ensures.value
      w.if-alignment-modulus-eq0.false)
      c.loop-b.invariant)
]

pub returns : goal.returns
returns c = λ t. crude_is_over _ _ c.loop-b.b _ _ t (search rules) c.loop-b.invariant
