use Rattle.dsa_model.proofs.BitLemmas.{bit_read}
use Rattle.dsa_model.proofs.bits.Bits.get.Goals as goal

pub returns : goal.returns
returns c = bit_read _ _ _ c.requires c.index.ensures
