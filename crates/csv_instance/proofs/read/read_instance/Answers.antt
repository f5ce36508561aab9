use Rattle.std.proofs.Common.{◌≡◌, ◌∙◌, ◌++◌, List, Err, ap, sym}
use Rattle.dsa_model.proofs.Results.{passed_on}
use Rattle.csv_instance.specs.Parse.{parse}
use Rattle.csv_instance.specs.Records.{HasShortFields, Record, table_of}
use Rattle.csv_instance.specs.Rows.{parse_rows}
use Rattle.csv_instance.specs.declared.fault.InstanceFault.{InstanceFault}
use Rattle.csv_instance.proofs.Short.{all_later, table_short}
use Rattle.csv_instance.proofs.read.read_instance.Goals as goal

pub returns-in_err-rows-clause-read : goal.returns-in_err-rows-clause-read
returns-in_err-rows-clause-read c =
    let table = table_of c.args.bytes.now in
    passed_on c.from_residual.result _ (λ (f : InstanceFault). (parse table ≡ Err f) × (parse_rows table ≡ Err f))
    (λ (f : InstanceFault). parse table ≡ Err f) c.in_err-rows.field-0.0 c.from_residual.ensures.1
    (c.in_err-rows.ensures table c.records-records.ensures) (λ f both. both.0)

pub start-requires : goal.start-requires
start-requires c = (c.in_ok-rows.ensures (table_of c.args.bytes.now) c.records-records.ensures).0

pub fill-requires : goal.fill-requires
fill-requires c =
    let (good, more, is, gives) = c.in_ok-rows.ensures (table_of c.args.bytes.now) c.records-records.ensures in
    (more, gives, all_later HasShortFields c.in_ok-rows.rows more (rw is at (table_short c.args.bytes.now c.requires)))

pub returns-in_err-table-clause-read : goal.returns-in_err-table-clause-read
returns-in_err-table-clause-read c =
    let (good, more, is, gives) = c.in_ok-rows.ensures (table_of c.args.bytes.now) c.records-records.ensures in
    let whole : table_of c.args.bytes.now ≡ c.start.result ++ more =
    is ∙ ap (λ (t : List Record). t ++ more) (sym c.start.ensures) in
    passed_on c.from_residual-in_err-table.result _ (λ (f : InstanceFault). parse (c.start.result ++ more) ≡ Err f)
    (λ (f : InstanceFault). parse (table_of c.args.bytes.now) ≡ Err f) c.in_err-table.field-0.0
    c.from_residual-in_err-table.ensures.1 (c.in_err-table.ensures more gives) (λ f e. ap parse whole ∙ e)

pub returns-clause-read : goal.returns-clause-read
returns-clause-read c =
    let (good, more, is, gives) = c.in_ok-rows.ensures (table_of c.args.bytes.now) c.records-records.ensures in
    c.in_ok-table.ensures more gives ∙ ap (λ (t : List Record). t ++ more) c.start.ensures ∙ sym is
