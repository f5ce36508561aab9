use Rattle.dsa_search_laws.proofs.Logs.{accepted_is_infeasible}
use Rattle.dsa_search_laws.proofs.log_laws.accepted_log_refutes.Goals as goal

pub returns : goal.returns
returns c = accepted_is_infeasible
