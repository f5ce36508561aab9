-- What is found in a layout file.
use Rattle.std.specs.Prelude.{◌≡◌, ℕ, List, [], ◌∷◌, Option, Some, None, length, map, unwrap_or}
use Rattle.std.specs.Map.{lookup}
use Rattle.std.specs.Str.{bytes_eq}
use Rattle.std.specs.declared.alloc.Global.{Global}
use Rattle.std.specs.declared.vec.Vec.{Vec}
use Rattle.csv_instance.specs.Columns.{field_of, column_place}
use Rattle.csv_instance.specs.Offsets.{layout_header_fault, layout_rows_fault, offset_in}
use Rattle.csv_instance.specs.Records.{Record}
use Rattle.csv_instance.specs.declared.columns.Column.TheVariants.{Id, Offset}
use Rattle.csv_instance.specs.declared.offset_row.OffsetColumns.{OffsetColumns}

-- the columns of a layout file with this header
pub record AreColumns (header : Record) (columns : OffsetColumns) : Type 0 where
  pub count : columns.count ≡ length header
  pub id : column_place header Id ≡ Some columns.id
  pub offset : column_place header Offset ≡ Some columns.offset

-- ids, each with an offset
abbrev pub Entries : Type 0
Entries = List (Vec ℕ Global × ℕ)

-- these are the ids and the offsets of the rows, in their order
abbrev pub AreOf : Record → List Record → Entries → Type 0
AreOf header rows entries =
    map {A = Vec ℕ Global × ℕ} {B = List ℕ × ℕ} (λ e. (e.0.items, e.1)) entries
    ≡ map (λ row. (field_of header row Id, unwrap_or (offset_in header row) 0)) rows

-- the offset that is found for an id
abbrev pub found_for : Entries → List ℕ → Option ℕ
found_for entries id = lookup (λ (k : Vec ℕ Global). bytes_eq id k.items) entries

-- what is found for each id
abbrev pub by_buffer : List (Vec ℕ Global) → Entries → List (Option ℕ)
by_buffer keys entries = map (λ (k : Vec ℕ Global). found_for entries k.items) keys

-- the records of a layout file have no fault so far, and these are the ids and the offsets of its rows
pub record AreFound (ids : List (List ℕ)) (table : List Record) (entries : Entries) : Type 0 where
  pub header : Record
  pub rows : List Record
  pub records : table ≡ header ∷ rows
  pub header_good : layout_header_fault header ≡ None
  pub rows_good : layout_rows_fault ids header [] rows ≡ None
  pub entries_are : AreOf header rows entries
