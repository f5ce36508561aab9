use Rattle.readings.specs.Checking.{checked}
use Rattle.checking.specs.Checking.{Upgrades}
use Rattle.readings.proofs.AfterInput.{told_by}
use Rattle.checking.proofs.upgrade.UpgradeTableCommand.conclude_table.Goals as goal

pub returns-clause-comes : goal.returns-clause-comes
returns-clause-comes g c =
    told_by (g.F.Files.seen c.args.files.now) (g.F.Files.seen c.upgrade_checked.new.files) c.args.table.now
    c.instance.result.now (λ t I. checked c.args.self.now.log.now I (Upgrades c.args.self.now.output.now))
    c.upgrade_checked.result c.instance.ensures.parsed c.upgrade_checked.ensures.comes
