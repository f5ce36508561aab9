use Rattle.readings.proofs.AfterInput.{concluded_of}
use Rattle.explaining.specs.Explaining.{ExplainsOrFits}
use Rattle.writings.specs.Named.{names_of}
use Rattle.explaining.proofs.Concluding.{explains_spoken}
use Rattle.explaining.proofs.explain.CoreTableCommand.conclude_table.Goals as goal

pub returns-clause-comes : goal.returns-clause-comes
returns-clause-comes g c =
    let C = c.args.self.now.capacity in
    let names = names_of c.args.self.now.names in
    concluded_of (g.F.Files.seen c.args._files.now) (g.F.Files.seen c.args._files.now) c.args.table.now
    c.instance.result.now (ExplainsOrFits C names) c.instance.ensures.parsed
    (explains_spoken C names c.args.table.now c.instance.result.now) c.explained.result c.explained.ensures
