-- The rows of an instance file as they are read, before anything is asked of them as buffers.
use Rattle.std.specs.Prelude.{◌≤◌, ◌<◌, ◌^◌, List, [], ◌∷◌, Option, Result, Ok, Err, length, map, scan}
use Rattle.std.specs.List.{push}
use Rattle.std.specs.Option.{option_or, option_map_or}
use Rattle.dsa_terms.specs.Buffers.{Buffer}
use Rattle.dsa_model.specs.Buffer.{buffer_of, first_fault}
use Rattle.dsa_model.specs.Limits.{time_limit}
use Rattle.csv_instance.specs.Parse.{header_fault, row_buffer, row_form_faults}
use Rattle.csv_instance.specs.Records.{Record}
use Rattle.csv_instance.specs.declared.fault.InstanceFault.{InstanceFault}
use Rattle.csv_instance.specs.declared.fault.InstanceFault.TheVariants as fault
use Rattle.csv_instance.specs.declared.row.RowValues.{RowValues}

-- the first fault of how a row is written, given the rows before it
abbrev pub row_form_fault : Record → List Record → Record → Option InstanceFault
row_form_fault header before row = first_fault (row_form_faults header before row)

-- the first fault of how rows are written, after those before them, whatever their buffers would be
abbrev pub rows_form_fault : Record → List Record → List Record → Option InstanceFault
rows_form_fault header before rows = first_fault (scan push (row_form_fault header) before rows)

-- what the rows of a table say, row by row
abbrev pub values_of : List Record → List Buffer
values_of [] = []
values_of (header ∷ rows) = map (row_buffer header) rows

-- what the rows of a table say, or the table's first fault that is none of a buffer
abbrev pub parse_rows : List Record → Result (List Buffer) InstanceFault
parse_rows [] = Err fault.NoHeader
parse_rows (header ∷ rows) = option_map_or Err (option_or (header_fault header) (rows_form_fault header [] rows))
    (Ok (map (row_buffer header) rows))

-- what a row says, once read
abbrev pub value_of : RowValues → Buffer
value_of v =
    buffer_of v.numbers.lower v.numbers.upper v.numbers.size v.numbers.alignment v.gaps.items v.numbers.lowest

-- its moments are within their limit, and its gaps are few
pub record AreKeptValues (v : RowValues) : Type 0 where
  pub lower : v.numbers.lower ≤ time_limit
  pub upper : v.numbers.upper ≤ time_limit
  pub few_gaps : length v.gaps.items < 2 ^ 31
