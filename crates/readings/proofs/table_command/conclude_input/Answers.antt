use Rattle.readings.proofs.AfterInput.{goes_on_told, missing}
use Rattle.readings.proofs.table_command.conclude_input.Goals as goal

pub returns-in-Table-clause-comes : goal.returns-in-Table-clause-comes
returns-in-Table-clause-comes g c =
    goes_on_told (g.F.Files.seen c.args.files.now) (g.F.Files.seen c.open_input.new.files)
    (g.F.Files.seen c.conclude_table.new.files) c.args.input.now c.in-Table.table
    (g.C.TableCommand.after c.args.command.now)
    (rw c.in-Table.is at c.in_ok-table.ensures.input) c.in_ok-table.ensures.files c.in_ok-table.ensures.counts
    c.conclude_table.result c.conclude_table.ensures.comes

pub returns-in-Missing-clause-comes : goal.returns-in-Missing-clause-comes
returns-in-Missing-clause-comes g c =
    missing (g.F.Files.seen c.args.files.now) (g.F.Files.seen c.open_input.new.files) c.args.input.now
    c.in-Missing.status (g.C.TableCommand.after c.args.command.now) c.silent.result
    (rw c.in-Missing.is at c.in_ok-table.ensures.input) c.silent.ensures
