use Rattle.dsa_search_laws.proofs.Plans.{searched_lower, plan_lower}
use Rattle.dsa_search_laws.proofs.plan_laws.plan_stays.Goals as goal

pub returns-clause-search : goal.returns-clause-search
returns-clause-search c = searched_lower

pub returns-clause-plan : goal.returns-clause-plan
returns-clause-plan c = plan_lower
