-- Rows that are written again read back, and say what they are to say.
use Rattle.std.proofs.Common.{◌≡◌, ◌+◌, ◌++◌, ◌∷◌, ◌∙◌, ℕ, List, [], Option, Some, None, Ok, length, refl, ap, arith}
use Rattle.dsa_model.proofs.Faults.{neither}
use Rattle.csv_instance.specs.Changed.{AreMoments, Change, change_of, changed_header, changed_records, changed_row, changed_rows, changed_text, changed_values}
use Rattle.csv_instance.specs.Parse.{header_fault}
use Rattle.csv_instance.specs.Records.{Record, table_of}
use Rattle.csv_instance.specs.Rows.{parse_rows, row_form_fault, rows_form_fault, values_of}
use Rattle.csv_instance.proofs.ChangedFields.{row_carried, row_changed}
use Rattle.csv_instance.proofs.ReadBack.{AllReadBack}
use Rattle.csv_instance.proofs.RowLemmas.{readable, rows-good}
use Rattle.csv_instance.proofs.RowStepLemmas.{form_parts}
use Rattle.csv_instance.proofs.SomeBack.{reads_back, records_read, some_columns}
use Rattle.csv_instance.proofs.ChangedHeader.{header_still, moments_there}
use Rattle.csv_instance.proofs.ChangedRows.{even_row, own_fields, rows_after}

length_after : (header row : Record) (o : Option Change) → header_fault header ≡ None → length row ≡ length header →
    length (changed_row header o row) ≡ length (changed_header header)
length_after header row None good even =
    (row_carried header row _ _ _ _ _ _ _ (own_fields header row even)).even
length_after header row (Some c) good even =
    let there = moments_there header good in
    (row_changed header row _ _ _ _ _ _ _ there.0.0 there.1.0 c there.0.1 there.1.1 (own_fields header row even)).even

rows_read : (header : Record) (cs : List Change) (n : ℕ) (before rows : List Record) → header_fault header ≡ None →
    rows_form_fault header before rows ≡ None → AllReadBack (changed_rows header cs n rows)
rows_read header cs n before [] good e = tt
rows_read header cs n before (row ∷ rows) good e =
    let (here, later) = neither (row_form_fault header before row)
    (rows_form_fault header (before ++ row ∷ []) rows) e in
    let id_good = (form_parts header before row here).0 in
    let even = length_after header row (change_of cs n) good (even_row header before row id_good) in
    let some = some_columns (changed_header header) (header_still header good) in (
      reads_back (changed_row header (change_of cs n) row) (omega arith),
      rows_read header cs (n + 1) (before ++ row ∷ []) rows good later,
    )

-- the text of rows after their changes reads back as these
pub changed_back : (table : List Record) (cs : List Change) → parse_rows table ≡ Ok (values_of table) →
    table_of (changed_text table cs) ≡ changed_records table cs
changed_back [] cs e = cc e
changed_back (header ∷ rows) cs e =
    let (good, fine) = readable header rows _ e in
    records_read (changed_header header) (changed_rows header cs 0 rows) (header_still header good)
    (rows_read header cs 0 [] rows good fine)

-- and says what rows say after their changes
pub changed_parse : (table : List Record) (cs : List Change) → parse_rows table ≡ Ok (values_of table) →
    AreMoments cs → parse_rows (table_of (changed_text table cs)) ≡ Ok (changed_values cs (values_of table))
changed_parse [] cs e m = cc e
changed_parse (header ∷ rows) cs e m =
    let (good, fine) = readable header rows _ e in
    let (after, values) = rows_after header cs 0 [] [] rows good m refl fine in
    ap parse_rows (changed_back (header ∷ rows) cs e)
    ∙ rows-good (changed_header header) (changed_rows header cs 0 rows) (header_still header good) after
    ∙ ap Ok values
