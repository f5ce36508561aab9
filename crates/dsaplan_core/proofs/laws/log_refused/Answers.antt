use Rattle.dsaplan_core.proofs.RefusedLogs.{refuses}
use Rattle.dsaplan_core.proofs.laws.log_refused.Goals as goal

pub returns : goal.returns
returns c = λ words old new before after r I cause s is checks ready calm holds.
    refuses old new before after I cause words r is checks ready calm holds s
