use Rattle.dsa_search_laws.proofs.Complete.{plain_first_exactly, plain_first_places}
use Rattle.dsa_search_laws.proofs.search_laws.plain_first_is_complete.Goals as goal

pub returns-clause-none : goal.returns-clause-none
returns-clause-none c = plain_first_exactly

pub returns-clause-some : goal.returns-clause-some
returns-clause-some c = plain_first_places
