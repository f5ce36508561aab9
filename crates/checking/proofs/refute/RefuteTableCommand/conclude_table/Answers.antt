use Rattle.std.proofs.Common.{◌≡◌}
use Rattle.dsa_terms.specs.Logs.{Log}
use Rattle.run_status.specs.declared.status.Status.TheVariants as status
use Rattle.run_course.specs.Course.{Outcome, says}
use Rattle.readings.specs.Checking.{checked}
use Rattle.readings.proofs.AfterInput.{told_by}
use Rattle.checking.proofs.refute.RefuteTableCommand.conclude_table.Goals as goal

pub returns-clause-comes : goal.returns-clause-comes
returns-clause-comes g c =
    told_by (g.F.Files.seen c.args.files.now) (g.F.Files.seen c.refute_checked.new.files) c.args.table.now
    c.instance.result.now (λ t I. checked c.args.self.now.log.now I
    (λ (log : Log) (o : Outcome). o ≡ says (status.Accepted log.capacity)))
    c.refute_checked.result c.instance.ensures.parsed c.refute_checked.ensures.comes
