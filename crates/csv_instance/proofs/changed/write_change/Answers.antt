use Rattle.std.proofs.Common.{◌≡◌, ◌∙◌, Some, decimal, map}
use Rattle.csv.specs.Records.{fields_of}
use Rattle.csv_instance.specs.Changed.{changed_row, gap_added}
use Rattle.csv_instance.specs.Columns.{field_of}
use Rattle.csv_instance.specs.declared.columns.Column.TheVariants.{Gaps}
use Rattle.csv_instance.proofs.changed.write_change.Goals as goal

pub returns : goal.returns
returns c = λ header places text wrote.
    let row = fields_of c.args.row.now in
    let change = c.args.change.now in
    let lower : c.as_bytes.result.now ≡ decimal change.1 = c.as_bytes.ensures.value ∙ c.format-lower.ensures.text in
    let upper : c.as_bytes-2.result.now ≡ decimal change.2 = c.as_bytes-2.ensures.value ∙ c.format-upper.ensures.text in
    let field : c.field_under.result.now ≡ field_of header row Gaps = rw places at c.field_under.ensures in
    let gaps : c.as_slice.result.now ≡ gap_added (field_of header row Gaps) change.3 change.4 =
    c.as_slice.ensures.value ∙ rw field at c.in_ok-gaps.ensures in
    let fields : map (λ f. f.now) c.as_slice-2.result.now ≡ changed_row header (Some change) row =
    rw c.as_slice-2.ensures.value (rw (gaps, upper, lower) at (c.in_ok-fields.ensures header places)) in
    rw fields at (c.write_fields.ensures text wrote)
