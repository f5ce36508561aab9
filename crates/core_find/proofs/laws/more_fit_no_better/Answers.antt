use Rattle.core_find.proofs.Some.{all_do_not_fit, more_do_not_fit}
use Rattle.core_find.proofs.laws.more_fit_no_better.Goals as goal

pub returns-clause-some : goal.returns-clause-some
returns-clause-some c = more_do_not_fit

pub returns-clause-all : goal.returns-clause-all
returns-clause-all c = all_do_not_fit
