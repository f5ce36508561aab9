use Rattle.dsaplan_core.proofs.WrongLayouts.{wrongs}
use Rattle.dsaplan_core.proofs.laws.wrong.Goals as goal

pub returns : goal.returns
returns c = λ words old new before after r table I C cause s is judged ready calm input gives.
    wrongs old new before after table I cause words r C is judged ready calm input gives s
