use Rattle.dsa_search_laws.proofs.First.{first_exactly, first_places}
use Rattle.dsa_search_laws.proofs.search_laws.first_is_complete.Goals as goal

pub returns-clause-none : goal.returns-clause-none
returns-clause-none c = first_exactly

pub returns-clause-some : goal.returns-clause-some
returns-clause-some c = first_places
