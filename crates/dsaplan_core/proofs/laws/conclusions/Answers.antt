use Rattle.dsaplan_core.proofs.Concluded.{conclusion}
use Rattle.dsaplan_core.proofs.laws.conclusions.Goals as goal

pub returns : goal.returns
returns c = λ words old new before after r I s is ready calm.
    conclusion old new before after I words r is ready calm s
