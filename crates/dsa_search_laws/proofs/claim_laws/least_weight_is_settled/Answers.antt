use Rattle.dsa_search_laws.proofs.Weights.{lightest_is_settled}
use Rattle.dsa_search_laws.proofs.claim_laws.least_weight_is_settled.Goals as goal

pub returns : goal.returns
returns c = lightest_is_settled
