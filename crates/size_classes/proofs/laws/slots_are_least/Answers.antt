use Rattle.size_classes.proofs.SlotsAreLeast.{slots_are_exact}
use Rattle.size_classes.proofs.laws.slots_are_least.Goals as goal

pub returns : goal.returns
returns c = slots_are_exact
