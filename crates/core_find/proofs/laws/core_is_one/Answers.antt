use Rattle.core_find.proofs.Left.{has_core, one_core}
use Rattle.core_find.proofs.laws.core_is_one.Goals as goal

pub returns-clause-some : goal.returns-clause-some
returns-clause-some c = has_core

pub returns-clause-one : goal.returns-clause-one
returns-clause-one c = one_core
