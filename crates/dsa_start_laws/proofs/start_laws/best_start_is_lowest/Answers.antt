use Rattle.dsa_start_laws.proofs.Planned.{best_start_is_start, best_start_is_lowest, earlier_is_higher}
use Rattle.dsa_start_laws.proofs.start_laws.best_start_is_lowest.Goals as goal

pub returns-clause-start : goal.returns-clause-start
returns-clause-start c = best_start_is_start

pub returns-clause-lowest : goal.returns-clause-lowest
returns-clause-lowest c = best_start_is_lowest

pub returns-clause-first : goal.returns-clause-first
returns-clause-first c = earlier_is_higher
