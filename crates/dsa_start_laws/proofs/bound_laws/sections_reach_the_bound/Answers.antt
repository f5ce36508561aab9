use Rattle.dsa_start_laws.proofs.Bounds.{stack_grows, sections_reach, bound_moment_reaches, bound_height_reaches, bound_height_least}
use Rattle.dsa_start_laws.proofs.bound_laws.sections_reach_the_bound.Goals as goal

pub returns-clause-grows : goal.returns-clause-grows
returns-clause-grows c = stack_grows

pub returns-clause-same : goal.returns-clause-same
returns-clause-same c = sections_reach

pub returns-clause-moment : goal.returns-clause-moment
returns-clause-moment c = bound_moment_reaches

pub returns-clause-height : goal.returns-clause-height
returns-clause-height c = bound_height_reaches

pub returns-clause-lowest : goal.returns-clause-lowest
returns-clause-lowest c = bound_height_least
