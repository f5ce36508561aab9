use Rattle.size_classes.proofs.PlanLemmas.{plan_is_layout, under_powers}
use Rattle.size_classes.proofs.laws.class_plan_is_a_layout.Goals as goal

pub returns-clause-layout : goal.returns-clause-layout
returns-clause-layout c = plan_is_layout

pub returns-clause-under : goal.returns-clause-under
returns-clause-under c = under_powers
