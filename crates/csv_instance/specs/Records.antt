-- The records of a file.
use Rattle.std.specs.Prelude.{ℕ, List, [], ◌≤◌, length, slice_index_or}
use Rattle.std.specs.List.{All}
use Rattle.dsa_model.specs.Limits.{file_limit}
use Rattle.csv.specs.Reading.{default_config, records, strip_bom}

-- a record: the bytes of its fields
abbrev pub Record : Type 0
Record = List (List ℕ)

-- the header of a table
abbrev pub header_of : List Record → Record
header_of table = slice_index_or table 0 []

-- the table of these bytes: their records as the `csv` reader gives them, with commas, double quotes, no trimming,
-- no row set apart as a header, records of any length, and one byte order mark taken off the start
abbrev pub table_of : List ℕ → List Record
table_of bytes = records default_config (strip_bom bytes)

-- no field is longer than a file may be
abbrev pub HasShortFields : Record → Type 0
HasShortFields fields = All (λ field. length field ≤ file_limit) fields
