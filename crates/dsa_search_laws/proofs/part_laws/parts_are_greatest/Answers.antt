use Rattle.dsa_search_laws.proofs.PartLists.{part_not_empty, part_rises, part_in_range, parts_cover, part_is_uncut, part_is_greatest, parts_in_order}
use Rattle.dsa_search_laws.proofs.part_laws.parts_are_greatest.Goals as goal

pub returns-clause-members : goal.returns-clause-members
returns-clause-members c = λ I p i. (part_not_empty I p i, part_rises I p i, λ b. part_in_range I p b i)

pub returns-clause-cover : goal.returns-clause-cover
returns-clause-cover c = parts_cover

pub returns-clause-uncut : goal.returns-clause-uncut
returns-clause-uncut c = part_is_uncut

pub returns-clause-greatest : goal.returns-clause-greatest
returns-clause-greatest c = part_is_greatest

pub returns-clause-order : goal.returns-clause-order
returns-clause-order c = parts_in_order
