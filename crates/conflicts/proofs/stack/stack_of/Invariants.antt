use Rattle.conflicts.proofs.Stacking.{Gathered}
use Rattle.conflicts.proofs.stack.stack_of.Given as goal

abbrev pub invariant-loop-pair : goal.invariant-loop-pair
invariant-loop-pair l =
    Gathered l.instance l.claim l.moment l.height l.modulus l.pair-index l.members.items l.sum l.most
