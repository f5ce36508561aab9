use Rattle.dsa_model.proofs.BitLemmas.{bit_added}
use Rattle.dsa_model.proofs.bits.Bits.add.Goals as goal

pub returns-clause-value : goal.returns-clause-value
returns-clause-value c p = bit_added _ _ _ _ p c.requires c.index_mut.ensures.value
