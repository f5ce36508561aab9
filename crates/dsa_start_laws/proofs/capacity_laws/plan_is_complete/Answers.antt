use Rattle.dsa_start_laws.proofs.Planned.{planned_exactly, planned_is_layout, planned_under}
use Rattle.dsa_start_laws.proofs.capacity_laws.plan_is_complete.Goals as goal

pub returns-clause-none : goal.returns-clause-none
returns-clause-none c = planned_exactly

pub returns-clause-some : goal.returns-clause-some
returns-clause-some c = planned_is_layout

pub returns-clause-under : goal.returns-clause-under
returns-clause-under c = planned_under
