use Rattle.dsaplan_core.proofs.Headline.{derived}
use Rattle.dsaplan_core.proofs.laws.derived.Goals as goal

pub returns : goal.returns
returns c = derived
