use Rattle.dsaplan_core.proofs.Headline.{caused}
use Rattle.dsaplan_core.proofs.laws.causes.Goals as goal

pub returns : goal.returns
returns c = caused
