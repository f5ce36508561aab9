use Rattle.dsa_model.proofs.LayoutFaults.{layout_exactly}
use Rattle.dsaplan_core.proofs.laws.layout_faults_are_exact.Goals as goal

pub returns : goal.returns
returns c = layout_exactly
