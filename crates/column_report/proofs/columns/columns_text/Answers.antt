use Rattle.std.proofs.Common.{◌++◌, ◌<◌, ◌∙◌, [], arith, get_or, length, refl}
use Rattle.csv.specs.Writing.{default_writer, row_text}
use Rattle.csv_instance.specs.Records.{header_of}
use Rattle.column_report.specs.Columns.{column_row, row_names}
use Rattle.column_report.proofs.Writing.{names_from, row_written}
use Rattle.column_report.proofs.columns.columns_text.Goals as goal

pub loop-place-init : goal.loop-place-init
loop-place-init c = (row_text default_writer row_names, c.in_ok-write_row.ensures [] c.text_writer-writer.ensures, refl)

pub loop-place-preserved : goal.loop-place-preserved
loop-place-preserved c =
    let (text, wrote, is) = c.loop-place.invariant in
    let header = header_of c.args.table.now in
    let place = c.loop-place.place in
    let name = c.column_name-name.result.now in
    let within : place < length header = omega (arith, c.loop-place-test.true, c.columns-place-end.ensures.value) in (
      text ++ row_text default_writer (column_row (get_or header place [])),
      row_written _ text name _ (get_or header place []) c.column_name-name.ensures.value
          (c.as_bytes.ensures.value ∙ c.meaning.ensures) (c.in_ok-write_row-2.ensures text wrote),
      is ∙ names_from header place text within,
    )
