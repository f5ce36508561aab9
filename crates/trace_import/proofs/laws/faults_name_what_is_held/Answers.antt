use Rattle.trace_import.proofs.Refusals.{not_live_unheld, still_live_holds}
use Rattle.trace_import.proofs.laws.faults_name_what_is_held.Goals as goal

pub returns-clause-still : goal.returns-clause-still
returns-clause-still c = still_live_holds

pub returns-clause-none : goal.returns-clause-none
returns-clause-none c = not_live_unheld
