use Rattle.size_classes.proofs.Powers.{class_least, size_fits}
use Rattle.size_classes.proofs.laws.class_is_least.Goals as goal

pub returns-clause-fits : goal.returns-clause-fits
returns-clause-fits c = size_fits

pub returns-clause-least : goal.returns-clause-least
returns-clause-least c = class_least
