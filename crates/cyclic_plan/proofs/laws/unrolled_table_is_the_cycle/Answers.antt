use Rattle.cyclic_plan.proofs.Tables.{unrolled_gives}
use Rattle.cyclic_plan.proofs.laws.unrolled_table_is_the_cycle.Goals as goal

pub returns : goal.returns
returns c = unrolled_gives
