use Rattle.dsa_search_laws.proofs.Parts.{parts_are_layout, part_refutes}
use Rattle.dsa_search_laws.proofs.part_laws.parts_make_the_whole.Goals as goal

pub returns-clause-layout : goal.returns-clause-layout
returns-clause-layout c = parts_are_layout

pub returns-clause-none : goal.returns-clause-none
returns-clause-none c = part_refutes
