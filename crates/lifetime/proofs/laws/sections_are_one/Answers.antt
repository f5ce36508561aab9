use Rattle.lifetime.proofs.OneList.{one_list}
use Rattle.lifetime.proofs.laws.sections_are_one.Goals as goal

pub returns : goal.returns
returns c = one_list
