use Rattle.log_text.proofs.FirstFaults.{first_fault_unique}
use Rattle.log_text.proofs.Saying.{no_fault_said}
use Rattle.log_text.proofs.laws.first_faults_are_unique.Goals as goal

pub returns : goal.returns
returns c = record { one = first_fault_unique; none = no_fault_said }
