use Rattle.std.proofs.Common.{◌≡◌, ◌<◌, List}
use Rattle.dsa_model.specs.Buffer.{buffer_limit}
use Rattle.csv_instance.specs.Records.{Record, table_of}
use Rattle.make_instance.specs.Made.{made_text}
use Rattle.make_instance.specs.declared.made.MakeFault.{MakeFault}
use Rattle.fact_reports.proofs.Shown.{fault_gives, too_many, tried}
use Rattle.fact_reports.proofs.trial.TrialCommand.conclude.Goals as goal

pub returns-in-Ok-clause-comes : goal.returns-in-Ok-clause-comes
returns-in-Ok-clause-comes g c =
    tried (g.F.Files.seen c.args._files.now) (g.F.Files.seen c.args._files.now) c.args.self.now.seed
    c.args.self.now.count c.args.self.now.steps c.tried.result c.in-Ok.ensures.few c.tried.ensures

pub returns-in-Err-Fault-clause-comes : goal.returns-in-Err-Fault-clause-comes
returns-in-Err-Fault-clause-comes g c =
    let words = c.args.self.now in
    too_many (g.F.Files.seen c.args._files.now) (g.F.Files.seen c.args._files.now) words.seed words.count words.steps
    c.silent.result
    (fault_gives (λ (table : List Record). table ≡ table_of (made_text words.seed words.count))
    (λ (f : MakeFault). buffer_limit < words.count) c.made_table.result c.in-Err-Fault.field-0
    c.in-Err-Fault.field-0-0 c.in-Err-Fault.is c.in-Err-Fault.field-0-is c.made_table.ensures.made)
    c.silent.ensures
