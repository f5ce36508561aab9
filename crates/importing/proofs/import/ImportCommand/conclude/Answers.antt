use Rattle.run_course.proofs.Silently.{silently}
use Rattle.importing.specs.Importing.{import_course}
use Rattle.importing.proofs.Importing.{comes, missing}
use Rattle.importing.proofs.import.ImportCommand.conclude.Goals as goal

pub returns-in-Unreadable-clause-comes : goal.returns-in-Unreadable-clause-comes
returns-in-Unreadable-clause-comes g c =
    silently (g.F.Files.seen c.args.files.now) (g.F.Files.seen c.read_file.new.files)
    (import_course c.args.self.now.trace.now c.args.self.now.output.now)
    c.in-Unreadable.status c.silent.result c.silent.ensures
    (missing (g.F.Files.seen c.args.files.now) (g.F.Files.seen c.read_file.new.files) c.args.self.now.trace.now
    c.args.self.now.output.now c.in-Unreadable.status (rw c.in-Unreadable.is at c.in_ok-bytes.ensures.content))

pub returns-clause-comes : goal.returns-clause-comes
returns-clause-comes g c =
    comes (g.F.Files.seen c.args.files.now) (g.F.Files.seen c.read_file.new.files) c.args.self.now.trace.now
    c.args.self.now.output.now c.in-Bytes.bytes.items
    c.imported.result (rw c.in-Bytes.is at c.in_ok-bytes.ensures.content)
    (rw c.as_slice.ensures.value at c.imported.ensures)
