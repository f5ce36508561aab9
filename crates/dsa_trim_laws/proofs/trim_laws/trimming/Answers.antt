use Rattle.std.proofs.Common.{arith}
use Rattle.dsa_trim_laws.proofs.Needed.{kept_exactly}
use Rattle.dsa_trim_laws.proofs.Trims.{one_trim, trimmed_is_accepted, trimmed_end, trimmed_is_cited, trimmed_stays, trims}
use Rattle.dsa_trim_laws.proofs.trim_laws.trimming.Goals as goal

pub returns-clause-kept : goal.returns-clause-kept
returns-clause-kept c = kept_exactly

pub returns-clause-trim : goal.returns-clause-trim
returns-clause-trim c = trims

pub returns-clause-one : goal.returns-clause-one
returns-clause-one c = one_trim

pub returns-clause-accepted : goal.returns-clause-accepted
returns-clause-accepted c = trimmed_is_accepted

pub returns-clause-end : goal.returns-clause-end
returns-clause-end c = trimmed_end

pub returns-clause-cited : goal.returns-clause-cited
returns-clause-cited c = λ I log k a lt. trimmed_is_cited I log k a (omega arith)

pub returns-clause-stays : goal.returns-clause-stays
returns-clause-stays c = trimmed_stays
