use Rattle.dsaplan_core.proofs.Inputs.{malformed}
use Rattle.dsaplan_core.proofs.laws.malformed.Goals as goal

pub returns : goal.returns
returns c = λ words old new before after r fault s is reads calm holds.
    malformed old new before after fault words r is reads calm holds s
