-- The columns that have a meaning, and the fields under them.
use Rattle.std.specs.Prelude.{ℕ, List, [], ◌∷◌, Bool, Option, codes, slice_index_or, position, count_by, find, is_some, nat_le}
use Rattle.std.specs.Option.{option_map_or}
use Rattle.std.specs.Str.{bytes_eq}
use Rattle.csv_instance.specs.Records.{Record}
use Rattle.csv_instance.specs.declared.columns.Column.{Column}
use Rattle.csv_instance.specs.declared.columns.Column.TheVariants.{Id, Lower, Upper, Size, Alignment, Gaps, Offset, Lowest}

-- a column's name
abbrev pub name_of : Column → List ℕ
name_of Id = codes "id"
name_of Lower = codes "lower"
name_of Upper = codes "upper"
name_of Size = codes "size"
name_of Alignment = codes "alignment"
name_of Gaps = codes "gaps"
name_of Offset = codes "offset"
name_of Lowest = codes "lowest"

-- the columns that have a meaning
abbrev pub named_columns : List Column
named_columns = Id ∷ Lower ∷ Upper ∷ Size ∷ Alignment ∷ Gaps ∷ Offset ∷ Lowest ∷ []

-- the one of them that has this name
abbrev pub column_named : List ℕ → Option Column
column_named name = find (λ c. bytes_eq (name_of c) name) named_columns

-- those that an instance needs
abbrev pub needed_columns : List Column
needed_columns = Id ∷ Lower ∷ Upper ∷ Size ∷ []

-- where a column stands in a header, if it does
abbrev pub column_place : Record → Column → Option ℕ
column_place header c = position (bytes_eq (name_of c)) header

-- whether it does
abbrev pub has_column : Record → Column → Bool
has_column header c = is_some (column_place header c)

-- whether a column stands twice in a header
abbrev pub stands_twice : Record → Column → Bool
stands_twice header c = nat_le 2 (count_by (bytes_eq (name_of c)) header)

-- the field of a row under a column, and nothing where the header has no such column
abbrev pub field_of : Record → Record → Column → List ℕ
field_of header row c = option_map_or (λ i. slice_index_or row i []) (column_place header c) []
