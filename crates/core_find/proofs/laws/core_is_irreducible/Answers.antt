use Rattle.core_find.proofs.Left.{core_does_not_fit, core_is_least, core_members, core_rest_fits}
use Rattle.core_find.proofs.laws.core_is_irreducible.Goals as goal

pub returns-clause-members : goal.returns-clause-members
returns-clause-members c = core_members

pub returns-clause-infeasible : goal.returns-clause-infeasible
returns-clause-infeasible c = core_does_not_fit

pub returns-clause-rest : goal.returns-clause-rest
returns-clause-rest c = core_rest_fits

pub returns-clause-irreducible : goal.returns-clause-irreducible
returns-clause-irreducible c = core_is_least
