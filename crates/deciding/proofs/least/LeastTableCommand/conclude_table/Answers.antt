use Rattle.readings.proofs.AfterInput.{concluded_of}
use Rattle.deciding.specs.Deciding.{Finds}
use Rattle.writings.specs.Named.{names_of}
use Rattle.deciding.proofs.Decided.{found_spoken}
use Rattle.deciding.proofs.least.LeastTableCommand.conclude_table.Goals as goal

pub returns-clause-comes : goal.returns-clause-comes
returns-clause-comes g c =
    let steps = c.args.self.now.steps in
    let names = names_of c.args.self.now.names in
    concluded_of (g.F.Files.seen c.args._files.now) (g.F.Files.seen c.args._files.now) c.args.table.now
    c.instance.result.now (Finds steps names) c.instance.ensures.parsed
    (found_spoken steps names c.args.table.now c.instance.result.now) c.found.result c.found.ensures
