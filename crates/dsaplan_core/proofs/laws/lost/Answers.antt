use Rattle.run_status.specs.declared.status.Status.TheVariants as status
use Rattle.dsaplan_core.proofs.Headline.{blamed}
use Rattle.dsaplan_core.proofs.laws.lost.Goals as goal

pub returns : goal.returns
returns c = λ words old new before after role. blamed words old new before after (status.WriteFault role)
