use Rattle.size_classes.proofs.EqualSizes.{equal_is_least, equal_is_load, nothing_high}
use Rattle.size_classes.proofs.laws.equal_sizes_are_least.Goals as goal

pub returns-clause-least : goal.returns-clause-least
returns-clause-least c = equal_is_least

pub returns-clause-load : goal.returns-clause-load
returns-clause-load c = equal_is_load

pub returns-clause-none : goal.returns-clause-none
returns-clause-none c = nothing_high
