use Rattle.dsa_start_laws.proofs.Piles.{counted_are, stack_is_pile, line_height_is_pile, stack_line_is_pile}
use Rattle.dsa_start_laws.proofs.bound_laws.stacks_are_piles.Goals as goal

pub returns-clause-counted : goal.returns-clause-counted
returns-clause-counted c = counted_are

pub returns-clause-stack : goal.returns-clause-stack
returns-clause-stack c = stack_is_pile

pub returns-clause-height : goal.returns-clause-height
returns-clause-height c = line_height_is_pile

pub returns-clause-line : goal.returns-clause-line
returns-clause-line c = stack_line_is_pile
