use Rattle.dsa_start_laws.proofs.Peaks.{none_below, least_from, one_least}
use Rattle.dsa_start_laws.proofs.capacity_laws.least_is_least.Goals as goal

pub returns-clause-below : goal.returns-clause-below
returns-clause-below c = none_below

pub returns-clause-from : goal.returns-clause-from
returns-clause-from c = least_from

pub returns-clause-one : goal.returns-clause-one
returns-clause-one c = one_least
