use Rattle.checking.specs.Checking.{Upgrades}
use Rattle.checking.proofs.LogOutcomes.{prepared_as}
use Rattle.checking.proofs.UpgradedLogs.{its_outcome, upgraded_file}
use Rattle.checking.proofs.upgrade.second_version.Goals as goal

pub returns : goal.returns
returns c =
    prepared_as (Upgrades c.args.output.now c.args.original.now)
    (upgraded_file c.args.output.now c.len.result c.in_ok-write_log2.field-0.items) c.one_write.result
    c.one_write.ensures
    (its_outcome c.args.output.now c.args.original.now c.len.result c.in_ok-write_log2.field-0.items
    c.len.ensures.value c.in_ok-write_log2.ensures.value c.in_ok-write_log2.ensures.read_back)
