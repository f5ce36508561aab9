use Rattle.run_course.proofs.Silently.{silently}
use Rattle.readings.specs.Checking.{checked}
use Rattle.readings.proofs.CheckedLogs.{no_log}
use Rattle.checking.specs.Checking.{Upgrades}
use Rattle.checking.proofs.LogOutcomes.{log_comes}
use Rattle.checking.proofs.UpgradedLogs.{upgrades_spoken}
use Rattle.checking.proofs.upgrade.upgrade_checked.Goals as goal

pub returns-in-Accepted-clause-comes : goal.returns-in-Accepted-clause-comes
returns-in-Accepted-clause-comes g c =
    let found = rw c.in-Accepted.is at c.in_ok-original.ensures.checked in
    log_comes (g.F.Files.seen c.args.files.now) (g.F.Files.seen c.read_checked_log.new.files)
    c.args.words.now.log.now c.args.instance.now c.in-Accepted.original (Upgrades c.args.words.now.output.now)
    c.second_version.result (upgrades_spoken c.args.words.now.output.now c.in-Accepted.original) found
    c.second_version.ensures

pub returns-in-Unaccepted-clause-comes : goal.returns-in-Unaccepted-clause-comes
returns-in-Unaccepted-clause-comes g c =
    let found = rw c.in-Unaccepted.is at c.in_ok-original.ensures.checked in
    silently (g.F.Files.seen c.args.files.now) (g.F.Files.seen c.read_checked_log.new.files)
    (checked c.args.words.now.log.now c.args.instance.now (Upgrades c.args.words.now.output.now))
    c.in-Unaccepted.status
    c.silent.result c.silent.ensures
    (no_log (g.F.Files.seen c.args.files.now) (g.F.Files.seen c.read_checked_log.new.files)
    c.args.words.now.log.now c.args.instance.now c.in-Unaccepted.status (Upgrades c.args.words.now.output.now) found)
