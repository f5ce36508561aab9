use Rattle.dsa_search_laws.proofs.Parts.{all_put_together}
use Rattle.dsa_search_laws.proofs.part_laws.parts_go_together.Goals as goal

pub returns : goal.returns
returns c = all_put_together
