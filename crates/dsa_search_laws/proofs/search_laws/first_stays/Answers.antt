use Rattle.dsa_search_laws.proofs.Search.{first_lower}
use Rattle.dsa_search_laws.proofs.search_laws.first_stays.Goals as goal

pub returns : goal.returns
returns c = first_lower
