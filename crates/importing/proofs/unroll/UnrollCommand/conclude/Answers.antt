use Rattle.run_course.proofs.Silently.{silently}
use Rattle.importing.specs.Unrolling.{unroll_course}
use Rattle.importing.proofs.Unrolling.{comes, missing}
use Rattle.importing.proofs.unroll.UnrollCommand.conclude.Goals as goal

pub returns-in-Unreadable-clause-comes : goal.returns-in-Unreadable-clause-comes
returns-in-Unreadable-clause-comes g c =
    let u = c.args.self.now in
    silently (g.F.Files.seen c.args.files.now) (g.F.Files.seen c.read_file.new.files)
    (unroll_course u.period u.input.now u.output.now)
    c.in-Unreadable.status c.silent.result c.silent.ensures
    (missing (g.F.Files.seen c.args.files.now) (g.F.Files.seen c.read_file.new.files) u.period u.input.now
    u.output.now c.in-Unreadable.status (rw c.in-Unreadable.is at c.in_ok-bytes.ensures.content))

pub returns-clause-comes : goal.returns-clause-comes
returns-clause-comes g c =
    let u = c.args.self.now in
    comes (g.F.Files.seen c.args.files.now) (g.F.Files.seen c.read_file.new.files) u.period u.input.now
    u.output.now c.in-Bytes.bytes.items
    c.unrolled.result (rw c.in-Bytes.is at c.in_ok-bytes.ensures.content)
    (rw c.as_slice.ensures.value at c.unrolled.ensures)
