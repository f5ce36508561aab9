use Rattle.dsaplan_core.proofs.Headline.{misused}
use Rattle.dsaplan_core.proofs.laws.refused.Goals as goal

pub returns : goal.returns
returns c = λ words old new before after fault s bad. misused words old new before after fault bad s
