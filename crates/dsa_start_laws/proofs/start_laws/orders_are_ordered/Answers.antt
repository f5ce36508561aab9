use Rattle.dsa_start_laws.proofs.Orders.{measures_are_orders, numbers_are_ordered, ordered_members, one_order}
use Rattle.dsa_start_laws.proofs.start_laws.orders_are_ordered.Goals as goal

pub returns-clause-order : goal.returns-clause-order
returns-clause-order c = measures_are_orders

pub returns-clause-ordered : goal.returns-clause-ordered
returns-clause-ordered c = numbers_are_ordered

pub returns-clause-members : goal.returns-clause-members
returns-clause-members c = ordered_members

pub returns-clause-one : goal.returns-clause-one
returns-clause-one c = one_order
