-- The instance of a table of records, or its first fault.
use Rattle.std.specs.Prelude.{ℕ, List, [], ◌∷◌, not, ◌==◌, if◌then◌else◌, Option, Some, option_map, unwrap_or, Result, Ok, Err, length, nat_lt, nat_eq, slice_index_or, find, position, map, scan, is_some}
use Rattle.std.specs.List.{push, starts_with}
use Rattle.std.specs.Option.{option_or, option_map_or}
use Rattle.std.specs.Str.{bytes_eq}
use Rattle.dsa_model.specs.Buffer.{first_fault, when, buffer_fault, buffer_limit}
use Rattle.dsa_model.specs.Numbers.{written_number}
use Rattle.dsa_terms.specs.Buffers.{Buffer}
use Rattle.dsa_model.specs.Limits.{time_limit}
use Rattle.csv_instance.specs.Records.{Record}
use Rattle.csv_instance.specs.Gaps.{gaps_of}
use Rattle.csv_instance.specs.Columns.{named_columns, needed_columns, has_column, stands_twice, field_of}
use Rattle.csv_instance.specs.declared.columns.Column.{Column}
use Rattle.csv_instance.specs.declared.columns.Column.TheVariants.{Id, Lower, Upper, Size, Alignment, Gaps, Offset, Lowest}
use Rattle.csv_instance.specs.declared.fault.InstanceFault.{InstanceFault}
use Rattle.csv_instance.specs.declared.fault.InstanceFault.TheVariants as fault

-- what can be wrong with a header; 239, 187 and 191 are the bytes of a byte order mark
abbrev pub header_faults : Record → List (Option InstanceFault)
header_faults header =
    when (starts_with nat_eq (slice_index_or header 0 []) (239 ∷ 187 ∷ 191 ∷ [])) fault.MarkedHeader
    ∷ option_map fault.DuplicateColumn (find (stands_twice header) named_columns)
    ∷ when (has_column header Offset) fault.OffsetColumn
    ∷ option_map fault.MissingColumn (find (λ c. not (has_column header c)) needed_columns)
    ∷ []

-- the first of these
abbrev pub header_fault : Record → Option InstanceFault
header_fault header = first_fault (header_faults header)

-- the number that a field gives, where an empty one gives this number
abbrev pub number_or : ℕ → List ℕ → Option ℕ
number_or default field = if length field == 0 then Some default else written_number time_limit field

-- the number under a column of a row: an alignment that is not given is 1, and a lowest that is not given is 0
abbrev pub number_under : Record → Record → Column → Option ℕ
number_under header row Alignment = number_or 1 (field_of header row Alignment)
number_under header row Lowest = number_or 0 (field_of header row Lowest)
number_under header row c = written_number time_limit (field_of header row c)

-- the first column of numbers that has no number
abbrev pub bad_column : Record → Record → Option Column
bad_column h row = find (λ c. not (is_some (number_under h row c))) (Lower ∷ Upper ∷ Size ∷ Alignment ∷ Lowest ∷ [])

-- the buffer of a row whose fields are right
abbrev pub row_buffer : Record → Record → Buffer
row_buffer header row = record {
  lower = unwrap_or (number_under header row Lower) 0;
  upper = unwrap_or (number_under header row Upper) 0;
  size = unwrap_or (number_under header row Size) 0;
  alignment = unwrap_or (number_under header row Alignment) 0;
  gaps = unwrap_or (gaps_of (field_of header row Gaps)) [];
  lowest = unwrap_or (number_under header row Lowest) 0;
}

-- the greatest length of an id, in bytes
abbrev pub id_limit : ℕ
id_limit = 255

-- what can be wrong with how a row is written, given the rows before it, in the order in which it is told
abbrev pub row_form_faults : Record → List Record → Record → List (Option InstanceFault)
row_form_faults header before row =
    let number = length before in
    let id = field_of header row Id in
    when (number == buffer_limit) fault.TooManyBuffers
    ∷ when (not (length row == length header)) (fault.FieldCount number)
    ∷ when (length id == 0) (fault.EmptyId number)
    ∷ when (nat_lt id_limit (length id)) (fault.IdTooLong number)
    ∷ option_map (fault.DuplicateId number) (position (λ earlier. bytes_eq id (field_of header earlier Id)) before)
    ∷ option_map (fault.BadNumber number) (bad_column header row)
    ∷ when (not (is_some (gaps_of (field_of header row Gaps)))) (fault.BadGap number)
    ∷ []

-- the first fault of a row: of how it is written, or else of its buffer
abbrev pub row_fault : Record → List Record → Record → Option InstanceFault
row_fault header before row = option_or (first_fault (row_form_faults header before row))
    (option_map (fault.BadBuffer (length before)) (buffer_fault (row_buffer header row)))

-- the first fault of rows, after those before them
abbrev pub rows_fault : Record → List Record → List Record → Option InstanceFault
rows_fault header before rows = first_fault (scan push (row_fault header) before rows)

-- the buffers of a table, or its first fault: that of the header, and then row by row
abbrev pub parse : List Record → Result (List Buffer) InstanceFault
parse [] = Err fault.NoHeader
parse (header ∷ rows) = option_map_or Err (option_or (header_fault header) (rows_fault header [] rows))
    (Ok (map (row_buffer header) rows))
