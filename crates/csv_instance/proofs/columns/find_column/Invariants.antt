use Rattle.std.proofs.Common.{◌≡◌, drop}
use Rattle.std.specs.List.{position_from}
use Rattle.std.specs.Str.{bytes_eq}
use Rattle.csv.specs.Records.{fields_of}
use Rattle.csv_instance.specs.Columns.{name_of, column_place}
use Rattle.csv_instance.proofs.columns.find_column.Given as goal

abbrev pub invariant-loop-place : goal.invariant-loop-place
invariant-loop-place l = column_place (fields_of l.header) l.fn.column
    ≡ position_from (bytes_eq (name_of l.fn.column)) l.place (drop l.place (fields_of l.header))
