-- What all rows that were read keep.
use Rattle.std.specs.Prelude.{◌≡◌, ◌∷◌, [], ℕ, List, ◌≤◌, None, length, map}
use Rattle.std.specs.List.{All}
use Rattle.std.specs.declared.alloc.Global.{Global}
use Rattle.std.specs.declared.vec.Vec.{Vec}
use Rattle.dsa_model.specs.Buffer.{buffer_limit}
use Rattle.csv.specs.Records.{Row, fields_of}
use Rattle.csv_instance.specs.Columns.{field_of}
use Rattle.csv_instance.specs.Parse.{header_fault, row_buffer}
use Rattle.csv_instance.specs.Places.{column_places}
use Rattle.csv_instance.specs.Records.{Record}
use Rattle.csv_instance.specs.Rows.{AreKeptValues, rows_form_fault, value_of}
use Rattle.csv_instance.specs.declared.columns.Column.TheVariants.{Id}
use Rattle.csv_instance.specs.declared.columns.ColumnPlaces.{ColumnPlaces}
use Rattle.csv_instance.specs.declared.row.RowValues.{RowValues}
use Rattle.csv_instance.specs.declared.row_list.Rows.TheInside.{Inside}

-- the records of rows, their header first
abbrev pub records_of : Inside → List Record
records_of a = fields_of a.header ∷ map fields_of a.rows.items

-- these rows under this header have no fault that is none of a buffer, and the rest is what they say
pub record AreKept (header : Row) (columns : ColumnPlaces) (rows : List Row) (keys : List (Vec ℕ Global))
    (told : List RowValues) : Type 0 where
  pub places : columns ≡ column_places (fields_of header)
  pub header_good : header_fault (fields_of header) ≡ None
  pub rows_good : rows_form_fault (fields_of header) [] (map fields_of rows) ≡ None
  pub few : length rows ≤ buffer_limit
  pub values : map value_of told ≡ map (λ row. row_buffer (fields_of header) (fields_of row)) rows
  pub limits : All AreKeptValues told
  pub ids : map (λ k. k.items) keys ≡ map (λ row. field_of (fields_of header) (fields_of row) Id) rows

-- this is so in rows that were read
abbrev pub IsKeptRows : Inside → Type 0
IsKeptRows a = AreKept a.header a.places a.rows.items a.ids.keys a.values.items
