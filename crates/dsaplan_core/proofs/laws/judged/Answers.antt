use Rattle.dsaplan_core.proofs.Headline.{judged}
use Rattle.dsaplan_core.proofs.laws.judged.Goals as goal

pub returns : goal.returns
returns c = judged
