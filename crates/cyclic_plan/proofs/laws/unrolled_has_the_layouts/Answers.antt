use Rattle.cyclic_plan.proofs.Rounds.{unrolled_live, cycle_from_layout, layout_from_cycle}
use Rattle.cyclic_plan.proofs.laws.unrolled_has_the_layouts.Goals as goal

pub returns-clause-live : goal.returns-clause-live
returns-clause-live c = unrolled_live

pub returns-clause-layout : goal.returns-clause-layout
returns-clause-layout c = λ P C rows offsets all.
    (cycle_from_layout P C rows offsets all, layout_from_cycle P C rows offsets all)
