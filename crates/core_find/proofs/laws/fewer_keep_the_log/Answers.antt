use Rattle.core_find.proofs.Carried.{carried_capacity, carried_from_all, carried_is_accepted}
use Rattle.core_find.proofs.laws.fewer_keep_the_log.Goals as goal

pub returns-clause-accepted : goal.returns-clause-accepted
returns-clause-accepted c = carried_is_accepted

pub returns-clause-all : goal.returns-clause-all
returns-clause-all c = carried_from_all

pub returns-clause-capacity : goal.returns-clause-capacity
returns-clause-capacity c = carried_capacity
