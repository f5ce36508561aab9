use Rattle.row_orders.proofs.CarriedBack.{feasible_alike, infeasible_alike, layout_back, same_height}
use Rattle.row_orders.proofs.Once.{once_of}
use Rattle.row_orders.proofs.laws.orders_change_nothing.Goals as goal

pub returns-clause-back : goal.returns-clause-back
returns-clause-back c = layout_back

pub returns-clause-height : goal.returns-clause-height
returns-clause-height c = same_height

pub returns-clause-feasible : goal.returns-clause-feasible
returns-clause-feasible c = feasible_alike

pub returns-clause-infeasible : goal.returns-clause-infeasible
returns-clause-infeasible c = infeasible_alike

pub returns-clause-once : goal.returns-clause-once
returns-clause-once c = once_of
