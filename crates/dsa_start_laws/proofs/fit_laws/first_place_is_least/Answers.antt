use Rattle.dsa_start_laws.proofs.Places.{first_is_clear, first_is_least}
use Rattle.dsa_start_laws.proofs.fit_laws.first_place_is_least.Goals as goal

pub returns-clause-clear : goal.returns-clause-clear
returns-clause-clear c = λ I b placed s. first_is_clear I s b placed

pub returns-clause-least : goal.returns-clause-least
returns-clause-least c = first_is_least
