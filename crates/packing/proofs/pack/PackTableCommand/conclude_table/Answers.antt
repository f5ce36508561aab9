use Rattle.readings.proofs.AfterInput.{concluded_of}
use Rattle.writings.specs.Named.{names_of}
use Rattle.packing.specs.Packing.{Packs}
use Rattle.packing.proofs.Packed.{packed_spoken}
use Rattle.packing.proofs.pack.PackTableCommand.conclude_table.Goals as goal

pub returns-clause-comes : goal.returns-clause-comes
returns-clause-comes g c =
    let within = c.args.self.now.capacity in
    let steps = c.args.self.now.steps in
    let names = names_of c.args.self.now.names in
    concluded_of (g.F.Files.seen c.args._files.now) (g.F.Files.seen c.args._files.now) c.args.table.now
    c.instance-instance.result.now (Packs within steps names) c.instance-instance.ensures.parsed
    (packed_spoken within steps names c.args.table.now c.instance-instance.result.now) c.packed.result
    c.packed.ensures.value
