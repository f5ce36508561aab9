use Rattle.dsaplan_core.proofs.laws.print_fault.Goals as goal

pub returns : goal.returns
returns c = λ words old new before after answer. answer.rose
