use Rattle.readings.proofs.AfterInput.{concluded_of}
use Rattle.planning.specs.Planning.{Plans}
use Rattle.planning.proofs.Concluding.{plans_spoken}
use Rattle.planning.proofs.classes.ClassesTableCommand.conclude_table.Goals as goal

pub returns-clause-comes : goal.returns-clause-comes
returns-clause-comes g c =
    let output = c.args.self.now.output.now in
    concluded_of (g.F.Files.seen c.args._files.now) (g.F.Files.seen c.args._files.now) c.args.table.now
    c.instance.result.now (Plans output) c.instance.ensures.parsed
    (plans_spoken output c.args.table.now c.instance.result.now) c.planned.result c.planned.ensures
