use Rattle.dsaplan_core.proofs.LongFiles.{first, second}
use Rattle.dsaplan_core.proofs.laws.too_long.Goals as goal

pub returns-clause-first : goal.returns-clause-first
returns-clause-first c = λ words old new before after r role rest s is reads calm more.
    first old new before after words r role is calm more rest reads s

pub returns-clause-second : goal.returns-clause-second
returns-clause-second c = λ words old new before after r I role s is reads calm there more.
    second old new before after words r role is calm more I reads there s
