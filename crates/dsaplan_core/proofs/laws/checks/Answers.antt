use Rattle.dsaplan_core.proofs.Accepting.{accepts}
use Rattle.dsaplan_core.proofs.laws.checks.Goals as goal

pub returns : goal.returns
returns c = λ words old new before after r I log s is checks ready calm holds.
    accepts old new before after I log words r is checks ready calm holds s
