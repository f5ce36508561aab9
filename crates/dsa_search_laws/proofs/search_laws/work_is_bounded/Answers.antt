use Rattle.dsa_search_laws.proofs.Search.{work_bounds}
use Rattle.dsa_search_laws.proofs.Totals.{whole_work_bound}
use Rattle.dsa_search_laws.proofs.search_laws.work_is_bounded.Goals as goal

pub returns-clause-whole : goal.returns-clause-whole
returns-clause-whole c = whole_work_bound

pub returns-clause-claim : goal.returns-clause-claim
returns-clause-claim c = work_bounds
