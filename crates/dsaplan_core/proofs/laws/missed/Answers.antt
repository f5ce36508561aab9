use Rattle.run_status.specs.declared.status.Status.TheVariants as status
use Rattle.dsaplan_core.proofs.Headline.{blamed}
use Rattle.dsaplan_core.proofs.laws.missed.Goals as goal

pub returns-clause-unread : goal.returns-clause-unread
returns-clause-unread c = λ words old new before after role.
    blamed words old new before after (status.ReadFault role)

pub returns-clause-long : goal.returns-clause-long
returns-clause-long c = λ words old new before after role.
    blamed words old new before after (status.TooLong role)
