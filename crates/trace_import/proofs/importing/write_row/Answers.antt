use Rattle.std.proofs.Common.{◌≡◌, ◌∙◌, ◌∷◌, ◌++◌, [], OnOk, subst}
use Rattle.csv.specs.Writing.{default_writer, row_text}
use Rattle.csv_instance.specs.Records.{Record}
use Rattle.csv_instance.specs.Wrote.{Wrote}
use Rattle.trace_import.specs.ImportText.{import_row}
use Rattle.trace_import.proofs.RowLemmas.{same_row}
use Rattle.trace_import.proofs.importing.write_row.Goals as goal

pub returns : goal.returns
returns c = λ text wrote.
    let row : (c.as_bytes.result.now ∷ c.as_bytes-2.result.now ∷ c.as_bytes-3.result.now ∷ c.as_bytes-4.result.now
    ∷ c.as_bytes-5.result.now ∷ c.args.id.now ∷ []) ≡ import_row c.args.line c.args.end c.args.size c.args.alignment
    c.args.id.now =
    same_row c.args.line c.args.end c.args.size c.args.alignment c.args.id.now c.as_bytes.result.now
    c.as_bytes-2.result.now c.as_bytes-3.result.now c.as_bytes-4.result.now c.as_bytes-5.result.now
    (c.as_bytes.ensures.value ∙ c.in_ok-own.ensures.ok)
    (c.as_bytes-2.ensures.value ∙ c.format-2.ensures.text)
    (c.as_bytes-3.ensures.value ∙ c.format-3.ensures.text)
    (c.as_bytes-4.ensures.value ∙ c.format-4.ensures.text)
    (c.as_bytes-5.ensures.value ∙ c.format-5.ensures.text) in
    subst (λ (fields : Record). OnOk c.write_fields.result
    (Wrote c.write_fields.new.writer (text ++ row_text default_writer fields))) row (c.write_fields.ensures text wrote)
