-- The offsets that a layout file gives, or its first fault.
use Rattle.std.specs.Prelude.{ℕ, List, [], ◌∷◌, Bool, not, ◌==◌, Option, option_map, option_and_then, unwrap_or, Result, Ok, Err, length, find, position, map, scan, is_some, ◌≤◌}
use Rattle.std.specs.List.{All, list_any, push}
use Rattle.std.specs.Option.{option_map_or}
use Rattle.std.specs.Str.{bytes_eq}
use Rattle.dsa_model.specs.Buffer.{first_fault, when}
use Rattle.dsa_model.specs.Numbers.{written_number}
use Rattle.dsa_model.specs.Limits.{number_limit}
use Rattle.csv_instance.specs.Records.{Record}
use Rattle.csv_instance.specs.Columns.{field_of, has_column, stands_twice}
use Rattle.csv_instance.specs.declared.columns.Column.{Column}
use Rattle.csv_instance.specs.declared.columns.Column.TheVariants.{Id, Offset}
use Rattle.csv_instance.specs.declared.fault.OffsetsFault.{OffsetsFault}
use Rattle.csv_instance.specs.declared.fault.OffsetsFault.TheVariants as fault

-- each number is at most the greatest offset
abbrev pub AreOffsets : List ℕ → Type 0
AreOffsets offsets = All (λ offset. offset ≤ number_limit) offsets

-- the ids of a table's buffers
abbrev pub ids_of : List Record → List (List ℕ)
ids_of [] = []
ids_of (header ∷ rows) = map (λ row. field_of header row Id) rows

-- the columns of a layout file that have a meaning
abbrev pub layout_columns : List Column
layout_columns = Id ∷ Offset ∷ []

-- the first fault of a layout file's header
abbrev pub layout_header_fault : Record → Option OffsetsFault
layout_header_fault header = first_fault (
    option_map fault.DuplicateColumn (find (stands_twice header) layout_columns)
    ∷ option_map fault.MissingColumn (find (λ c. not (has_column header c)) layout_columns)
    ∷ [])

-- the offset that a row writes
abbrev pub offset_in : Record → Record → Option ℕ
offset_in header row = written_number number_limit (field_of header row Offset)

-- what can be wrong with a row, given the rows before it
abbrev pub layout_row_faults : List (List ℕ) → Record → List Record → Record → List (Option OffsetsFault)
layout_row_faults ids header before row =
    let number = length before in
    let id = field_of header row Id in
    when (not (length row == length header)) (fault.FieldCount number)
    ∷ when (not (list_any (bytes_eq id) ids)) (fault.UnknownId number)
    ∷ option_map (fault.DuplicateId number) (position (λ earlier. bytes_eq id (field_of header earlier Id)) before)
    ∷ when (not (is_some (offset_in header row))) (fault.BadNumber number)
    ∷ []

-- the first of these
abbrev pub layout_row_fault : List (List ℕ) → Record → List Record → Record → Option OffsetsFault
layout_row_fault ids header before row = first_fault (layout_row_faults ids header before row)

-- the first fault of rows, after those before them
abbrev pub layout_rows_fault : List (List ℕ) → Record → List Record → List Record → Option OffsetsFault
layout_rows_fault ids header before rows = first_fault (scan push (layout_row_fault ids header) before rows)

-- whether a row is of this id
abbrev pub is_of : Record → List ℕ → Record → Bool
is_of header id row = bytes_eq id (field_of header row Id)

-- the offset of an id, where each id has a row
abbrev pub offset_of : Record → List Record → List ℕ → ℕ
offset_of header rows id = unwrap_or (option_and_then (offset_in header) (find (is_of header id) rows)) 0

-- the offsets that the records of a layout file give the buffers of these ids, or their first fault
abbrev pub parsed_offsets : List (List ℕ) → List Record → Result (List ℕ) OffsetsFault
parsed_offsets ids [] = Err fault.NoHeader
parsed_offsets ids (header ∷ rows) = option_map_or Err (first_fault (
    layout_header_fault header
    ∷ layout_rows_fault ids header [] rows
    ∷ option_map fault.MissingId (position (λ id. not (list_any (is_of header id) rows)) ids)
    ∷ [])) (Ok (map (offset_of header rows) ids))
