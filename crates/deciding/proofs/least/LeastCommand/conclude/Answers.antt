use Rattle.deciding.proofs.least.LeastCommand.conclude.Goals as goal

pub returns-clause-comes : goal.returns-clause-comes
returns-clause-comes g c = c.conclude_input.ensures.comes
