-- What each column of a header means.
use Rattle.std.specs.Prelude.{ℕ, List, [], ◌∷◌, codes, map}
use Rattle.std.specs.Option.{option_map_or}
use Rattle.csv_instance.specs.Columns.{column_named, name_of}
use Rattle.csv_instance.specs.Layout.{text_of}
use Rattle.csv_instance.specs.Records.{Record}

-- what a column of this name means: the name of the column as which it is read, or that it is carried
abbrev pub meaning_of : List ℕ → List ℕ
meaning_of name = option_map_or name_of (column_named name) (codes "carried")

-- a column's name and its meaning
abbrev pub column_row : List ℕ → Record
column_row name = name ∷ meaning_of name ∷ []

-- the names of these two
abbrev pub row_names : Record
row_names = codes "column" ∷ codes "meaning" ∷ []

-- the text of a row for each column of a header below their names, as the `csv` writer writes them
abbrev pub columns_text : Record → List ℕ
columns_text header = text_of (row_names ∷ map column_row header)
