use Rattle.dsa_search_laws.proofs.Logs.{legal_is_refuted}
use Rattle.dsa_search_laws.proofs.log_laws.legal_line_refutes.Goals as goal

pub returns : goal.returns
returns c = legal_is_refuted
