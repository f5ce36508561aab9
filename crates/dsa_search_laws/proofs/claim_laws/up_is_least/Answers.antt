use Rattle.dsa_search_laws.proofs.Placing.{up_at_or_above, up_is_multiple, up_is_least}
use Rattle.dsa_search_laws.proofs.claim_laws.up_is_least.Goals as goal

pub returns-clause-above : goal.returns-clause-above
returns-clause-above c = up_at_or_above

pub returns-clause-multiple : goal.returns-clause-multiple
returns-clause-multiple c = up_is_multiple

pub returns-clause-least : goal.returns-clause-least
returns-clause-least c = up_is_least
