use Rattle.dsa_search_laws.proofs.Choices.{choices_are, choices_are_in_order, not_excluded_is, one_order}
use Rattle.dsa_search_laws.proofs.search_laws.choices_are_in_order.Goals as goal

pub returns-clause-order : goal.returns-clause-order
returns-clause-order c = choices_are_in_order

pub returns-clause-members : goal.returns-clause-members
returns-clause-members c = choices_are

pub returns-clause-one : goal.returns-clause-one
returns-clause-one c = one_order

pub returns-clause-taken : goal.returns-clause-taken
returns-clause-taken c = not_excluded_is
