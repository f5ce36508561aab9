use Rattle.dsa_terms.specs.Claims.{child}
use Rattle.canonical_order.specs.Claims.{entry_of}
use Rattle.canonical_order.proofs.CoverLemmas.{covers_next}
use Rattle.line_index.proofs.child_cover.covers_child.Goals as goal

pub loop-pair-preserved : goal.loop-pair-preserved
loop-pair-preserved c = λ p h. covers_next c.args.instance.now c.args.k.now
    (child c.args.instance.now p (entry_of p c.args.b)) _ _ c.pairs-pair-items.ensures.value c.loop-pair-test.true
    (c.covers_pair.ensures p h c.if-not-covers_pair.false) (c.loop-pair.invariant p h)
