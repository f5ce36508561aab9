use Rattle.dsaplan_core.proofs.Headline.{shown}
use Rattle.dsaplan_core.proofs.laws.shown.Goals as goal

pub returns : goal.returns
returns c = shown
