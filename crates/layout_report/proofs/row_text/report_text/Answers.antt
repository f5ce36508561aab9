use Rattle.std.proofs.Common.{◌++◌, refl, ap, ◌∙◌, string_bytes, get_or, None}
use Rattle.csv.specs.Writing.{default_writer, row_text}
use Rattle.csv_instance.specs.Offsets.{ids_of}
use Rattle.layout_report.specs.Report.{row_fields, row_names}
use Rattle.layout_report.proofs.Writing.{begun, first_rows, row_written, rows_from}
use Rattle.layout_report.proofs.row_text.report_text.Goals as goal

pub loop-row-init : goal.loop-row-init
loop-row-init c = (
  string_bytes c.args.line ++ row_text default_writer row_names,
  c.in_ok-write_fields.ensures (string_bytes c.args.line)
      (begun c.from_writer-writer.result c.into_bytes.result (string_bytes c.args.line)
      (c.from_writer-writer.ensures.cfg ∙ c.new.ensures) c.from_writer-writer.ensures.fields
      c.from_writer-writer.ensures.wrote c.from_writer-writer.ensures.wtr c.from_writer-writer.ensures.empty
      (ap (λ v. v.items) c.into_bytes.ensures.value)),
  first_rows (row_fields (ids_of c.args.table.now)) (string_bytes c.args.line) row_names c.args.rows.now,
)

pub loop-row-preserved : goal.loop-row-preserved
loop-row-preserved c =
    let (text, wrote, is) = c.loop-row.invariant in
    let row = get_or c.args.rows.now c.loop-row.row-index (record { place = 0; size = 0; buffer = None }) in (
      text ++ row_text default_writer (row_fields (ids_of c.args.table.now) row),
      row_written _ (ids_of c.args.table.now) row text _ _ _ (c.as_bytes.ensures.value ∙ c.format-place.ensures.text)
          (c.as_bytes-in-loop-row.ensures.value ∙ c.format-size.ensures.text) c.id_of.ensures
          (c.in_ok-write_fields-2.ensures text wrote),
      is ∙ rows_from (row_fields (ids_of c.args.table.now)) c.args.rows.now c.loop-row.row-index _ row text
          c.loop-row-test.true refl,
    )
