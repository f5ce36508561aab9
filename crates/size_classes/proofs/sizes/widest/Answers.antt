use Rattle.dsa_terms.specs.Buffers.{buffer}
use Rattle.size_classes.specs.Classes.{widest}
use Rattle.size_classes.proofs.SizeLemmas.{greatest_done}
use Rattle.size_classes.proofs.sizes.widest.Goals as goal

pub returns : goal.returns
unfolding widest
returns c = greatest_done (λ b. (buffer c.args.instance.now b).size) c.args.members.now _ _ c.loop-b-test.false
    c.loop-b.invariant
