use Rattle.readings.proofs.AfterInput.{concluded_of}
use Rattle.deciding.specs.Deciding.{Solves}
use Rattle.writings.specs.Named.{names_of}
use Rattle.deciding.proofs.Decided.{solved_spoken}
use Rattle.deciding.proofs.solve.SolveTableCommand.conclude_table.Goals as goal

pub returns-clause-comes : goal.returns-clause-comes
returns-clause-comes g c =
    let C = c.args.self.now.capacity in
    let steps = c.args.self.now.steps in
    let names = names_of c.args.self.now.names in
    concluded_of (g.F.Files.seen c.args._files.now) (g.F.Files.seen c.args._files.now) c.args.table.now
    c.instance.result.now (Solves C steps names) c.instance.ensures.parsed
    (solved_spoken C steps names c.args.table.now c.instance.result.now) c.solved.result c.solved.ensures
