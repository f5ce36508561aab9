use Rattle.packing.proofs.pack.PackCommand.conclude.Goals as goal

pub returns-clause-comes : goal.returns-clause-comes
returns-clause-comes g c = c.conclude_input.ensures.comes
