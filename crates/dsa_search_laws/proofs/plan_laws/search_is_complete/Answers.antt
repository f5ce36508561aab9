use Rattle.dsa_search_laws.proofs.Parts.{searched_exactly, searched_is_layout}
use Rattle.dsa_search_laws.proofs.plan_laws.search_is_complete.Goals as goal

pub returns-clause-none : goal.returns-clause-none
returns-clause-none c = searched_exactly

pub returns-clause-some : goal.returns-clause-some
returns-clause-some c = searched_is_layout
