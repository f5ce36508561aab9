use Rattle.dsa_search_laws.proofs.Search.{first_equation, work_equation}
use Rattle.dsa_search_laws.proofs.Plans.{hunt_equation}
use Rattle.dsa_search_laws.proofs.search_laws.search_equations.Goals as goal

pub returns-clause-first : goal.returns-clause-first
returns-clause-first c = first_equation

pub returns-clause-work : goal.returns-clause-work
returns-clause-work c = work_equation

pub returns-clause-hunt : goal.returns-clause-hunt
returns-clause-hunt c = hunt_equation
