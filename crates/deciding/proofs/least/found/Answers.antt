use Rattle.std.proofs.Common.{Some, refl}
use Rattle.run_status.specs.declared.status.Status.TheVariants.{Least, Open}
use Rattle.writings.specs.Named.{names_of}
use Rattle.writings.proofs.Answering.{gives}
use Rattle.deciding.specs.Deciding.{IsSought}
use Rattle.deciding.proofs.Decided.{found_exactly, left_open}
use Rattle.deciding.proofs.least.found.Goals as goal

pub returns-in-Exact : goal.returns-in-Exact
returns-in-Exact c =
    let steps = c.args.words.now.steps in
    let I = c.args.instance.now in
    let b = c.in-Exact.bracket in
    gives (IsSought I steps) (names_of c.args.words.now.names) c.args.table.now (Least b.high)
    (Some b.layout.items) b.log
    (found_exactly steps I b (rw c.in-Exact.is at c.in_ok-bracket.ensures.value)
    (rw c.in-Exact.is at c.in_ok-bracket.ensures.steps))
    _ refl c.both_files.result c.both_files.ensures.readable c.both_files.ensures.files

pub returns-in-Open : goal.returns-in-Open
returns-in-Open c =
    let steps = c.args.words.now.steps in
    let I = c.args.instance.now in
    let b = c.in-Open.bracket in
    gives (IsSought I steps) (names_of c.args.words.now.names) c.args.table.now (Open b.low b.high)
    (Some b.layout.items) b.log
    (left_open steps I b (rw c.in-Open.is at c.in_ok-bracket.ensures.value)
    (rw c.in-Open.is at c.in_ok-bracket.ensures.steps) (rw c.in-Open.is at c.in_ok-bracket.ensures.left))
    _ refl c.both_files-in-Open.result c.both_files-in-Open.ensures.readable c.both_files-in-Open.ensures.files
