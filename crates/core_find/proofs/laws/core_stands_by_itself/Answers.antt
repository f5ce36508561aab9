use Rattle.std.proofs.Common.{sym, subst}
use Rattle.dsa_terms.specs.Buffers.{Instance}
use Rattle.dsa_terms.specs.Logs.{IsAccepted}
use Rattle.core_find.proofs.Alone.{core_of_members}
use Rattle.core_find.proofs.laws.core_stands_by_itself.Goals as goal

pub returns-clause-log : goal.returns-clause-log
returns-clause-log c = λ I K C core h is.
    (subst (λ (J : Instance). IsAccepted J core.log) (sym is) h.accepted, h.capacity)

pub returns-clause-core : goal.returns-clause-core
returns-clause-core c = λ I K C core h is. core_of_members I K C core.members.items h.core is
