use Rattle.dsa_start_laws.proofs.OverLines.{legal_height}
use Rattle.dsa_start_laws.proofs.Stacks.{stack_is_accepted, stack_under_bound, bound_reached, bound_is_low}
use Rattle.dsa_start_laws.proofs.BoundModuli.{bound_is_positive}
use Rattle.dsa_start_laws.proofs.Loads.{load_under_bound}
use Rattle.dsa_start_laws.proofs.Peaks.{stack_is_lean}
use Rattle.dsa_start_laws.proofs.bound_laws.bound_is_low.Goals as goal

pub returns-clause-log : goal.returns-clause-log
returns-clause-log c = stack_is_accepted

pub returns-clause-height : goal.returns-clause-height
returns-clause-height c = λ I t H G C h earlier l. legal_height I t H G C h earlier l

pub returns-clause-lean : goal.returns-clause-lean
returns-clause-lean c = stack_is_lean

pub returns-clause-most : goal.returns-clause-most
returns-clause-most c = stack_under_bound

pub returns-clause-reached : goal.returns-clause-reached
returns-clause-reached c = bound_reached

pub returns-clause-low : goal.returns-clause-low
returns-clause-low c = bound_is_low

pub returns-clause-positive : goal.returns-clause-positive
returns-clause-positive c = bound_is_positive

pub returns-clause-load : goal.returns-clause-load
returns-clause-load c = load_under_bound
