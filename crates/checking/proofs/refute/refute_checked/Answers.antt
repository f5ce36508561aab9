use Rattle.std.proofs.Common.{◌≡◌, ap}
use Rattle.dsa_terms.specs.Logs.{Log}
use Rattle.run_status.specs.declared.status.Status.TheVariants as status
use Rattle.run_course.specs.Course.{Outcome, says}
use Rattle.run_course.proofs.Silently.{silently}
use Rattle.readings.specs.Checking.{checked}
use Rattle.readings.proofs.CheckedLogs.{no_log, with_log}
use Rattle.checking.proofs.refute.refute_checked.Goals as goal

pub returns-in-Accepted-clause-comes : goal.returns-in-Accepted-clause-comes
returns-in-Accepted-clause-comes g c =
    let found = rw c.in-Accepted.is at c.in_ok-log.ensures.checked in
    silently (g.F.Files.seen c.args.files.now) (g.F.Files.seen c.read_checked_log.new.files)
    (checked c.args.words.now.log.now c.args.instance.now
    (λ (log : Log) (o : Outcome). o ≡ says (status.Accepted log.capacity)))
    (status.Accepted c.capacity-capacity.result) c.silent.result c.silent.ensures
    (with_log (g.F.Files.seen c.args.files.now) (g.F.Files.seen c.read_checked_log.new.files)
    c.args.words.now.log.now c.args.instance.now c.in-Accepted.log
    (λ (log : Log) (o : Outcome). o ≡ says (status.Accepted log.capacity)) found
    (says (status.Accepted c.capacity-capacity.result)) tt
    (ap (λ n. says (status.Accepted n)) c.capacity-capacity.ensures.value))

pub returns-in-Unaccepted-clause-comes : goal.returns-in-Unaccepted-clause-comes
returns-in-Unaccepted-clause-comes g c =
    let found = rw c.in-Unaccepted.is at c.in_ok-log.ensures.checked in
    silently (g.F.Files.seen c.args.files.now) (g.F.Files.seen c.read_checked_log.new.files)
    (checked c.args.words.now.log.now c.args.instance.now
    (λ (log : Log) (o : Outcome). o ≡ says (status.Accepted log.capacity)))
    c.in-Unaccepted.status
    c.silent-in-Unaccepted.result c.silent-in-Unaccepted.ensures
    (no_log (g.F.Files.seen c.args.files.now) (g.F.Files.seen c.read_checked_log.new.files)
    c.args.words.now.log.now c.args.instance.now c.in-Unaccepted.status
    (λ (log : Log) (o : Outcome). o ≡ says (status.Accepted log.capacity)) found)
