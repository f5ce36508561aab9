use Rattle.std.proofs.Common.{Err}
use Rattle.dsa_model.specs.declared.fail.Fail.TheVariants.{Fault}
use Rattle.log_check.proofs.AcceptedLogs.{faulty_is_not_accepted}
use Rattle.dsaplan_core.proofs.laws.check_faults_are_exact.Goals as goal

pub returns : goal.returns
returns c = λ I raw fault log is text. faulty_is_not_accepted I raw (Err (Fault fault)) tt is log text
