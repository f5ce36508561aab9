use Rattle.lower_bounds.proofs.FirstSection.{first_section, one_moment}
use Rattle.lower_bounds.proofs.moment.bound_moment_is_one.Goals as goal

pub returns-clause-section : goal.returns-clause-section
returns-clause-section c = first_section

pub returns-clause-one : goal.returns-clause-one
returns-clause-one c = one_moment
