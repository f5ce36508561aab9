use Rattle.std.proofs.Common.{◌≡◌, ◌∙◌, ◌++◌, Err, ap, sym}
use Rattle.dsa_model.proofs.Results.{passed_on}
use Rattle.csv_instance.specs.Parse.{parse}
use Rattle.csv_instance.specs.Rows.{parse_rows}
use Rattle.csv_instance.specs.Records.{HasShortFields, table_of}
use Rattle.csv_instance.specs.declared.fault.InstanceFault.{InstanceFault}
use Rattle.csv_instance.proofs.Short.{all_later, table_short}
use Rattle.csv_instance.proofs.read.read_rows.Goals as goal

pub returns-in_err-start-clause-read : goal.returns-in_err-start-clause-read
returns-in_err-start-clause-read c =
    let table = table_of c.args.bytes.now in
    passed_on c.from_residual.result _ (λ (f : InstanceFault). (parse table ≡ Err f) × (parse_rows table ≡ Err f))
    (λ (f : InstanceFault). parse_rows table ≡ Err f) c.in_err-start.field-0.0 c.from_residual.ensures.1
    (c.in_err-start.ensures table c.records-records.ensures) (λ f both. both.1)

pub fill-requires : goal.fill-requires
fill-requires c =
    let (good, more, is, gives) = c.in_ok-start.ensures (table_of c.args.bytes.now) c.records-records.ensures in
    let short = table_short c.args.bytes.now c.requires in
    (more, gives, all_later HasShortFields c.in_ok-start.start more (rw is at short))

pub returns-in_err-rows-clause-read : goal.returns-in_err-rows-clause-read
returns-in_err-rows-clause-read c =
    let (good, more, is, gives) = c.in_ok-start.ensures (table_of c.args.bytes.now) c.records-records.ensures in
    passed_on c.from_residual-in_err-rows.result _
    (λ (f : InstanceFault). parse_rows (c.in_ok-start.start ++ more) ≡ Err f)
    (λ (f : InstanceFault). parse_rows (table_of c.args.bytes.now) ≡ Err f) c.in_err-rows.field-0.0
    c.from_residual-in_err-rows.ensures.1 (c.in_err-rows.ensures more gives) (λ f e. ap parse_rows is ∙ e)

pub returns-clause-read : goal.returns-clause-read
returns-clause-read c =
    let (good, more, is, gives) = c.in_ok-start.ensures (table_of c.args.bytes.now) c.records-records.ensures in
    c.in_ok-rows.ensures more gives ∙ sym is
