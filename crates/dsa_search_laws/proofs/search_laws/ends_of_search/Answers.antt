use Rattle.dsa_search_laws.proofs.Plans.{hunt_met}
use Rattle.dsa_search_laws.proofs.Search.{first_empty, work_empty}
use Rattle.dsa_search_laws.proofs.search_laws.ends_of_search.Goals as goal

pub returns-clause-first : goal.returns-clause-first
returns-clause-first c = first_empty

pub returns-clause-work : goal.returns-clause-work
returns-clause-work c = work_empty

pub returns-clause-hunt : goal.returns-clause-hunt
returns-clause-hunt c = hunt_met
