use Rattle.std.proofs.Common.{rules}
use Rattle.dsa_model.proofs.BitLemmas.{none_set}
use Rattle.dsa_model.proofs.bits.Bits.up_to.Goals as goal

pub returns-clause-none : goal.returns-clause-none
returns-clause-none c p = none_set _ _ p (c.in_ok-words.ensures.items_if_clones_equal (λ y e. search rules))
