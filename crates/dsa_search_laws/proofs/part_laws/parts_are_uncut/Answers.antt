use Rattle.dsa_search_laws.proofs.Parts.{part_exactly, together_by_test, together_exactly}
use Rattle.dsa_search_laws.proofs.Uncut.{one_part_exactly}
use Rattle.dsa_search_laws.proofs.part_laws.parts_are_uncut.Goals as goal

pub returns-clause-parts : goal.returns-clause-parts
returns-clause-parts c = one_part_exactly

pub returns-clause-starts : goal.returns-clause-starts
returns-clause-starts c = part_exactly

pub returns-clause-part : goal.returns-clause-part
returns-clause-part c = together_exactly

pub returns-clause-test : goal.returns-clause-test
returns-clause-test c = together_by_test
