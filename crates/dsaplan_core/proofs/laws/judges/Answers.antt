use Rattle.dsaplan_core.proofs.Approving.{approves}
use Rattle.dsaplan_core.proofs.laws.judges.Goals as goal

pub returns : goal.returns
returns c = λ words old new before after r I C offsets s is judged ready calm holds.
    approves old new before after I offsets words r C is judged ready calm holds s
