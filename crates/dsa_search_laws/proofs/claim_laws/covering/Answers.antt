use Rattle.dsa_search_laws.proofs.Logs.{covered_is_refuted, covers_along}
use Rattle.dsa_search_laws.proofs.claim_laws.covering.Goals as goal

pub returns-clause-refuted : goal.returns-clause-refuted
returns-clause-refuted c = covered_is_refuted

pub returns-clause-transitive : goal.returns-clause-transitive
returns-clause-transitive c = covers_along
