-- Some rows of a table.
use Rattle.std.specs.Prelude.{ℕ, List, [], ◌∷◌, map, slice_index_or}
use Rattle.csv_instance.specs.Layout.{text_of}
use Rattle.csv_instance.specs.Records.{Record}

-- the rows of these numbers, in the order given
abbrev pub rows_at : List Record → List ℕ → List Record
rows_at rows members = map (λ k. slice_index_or rows k []) members

-- the header of a table, and its rows of these numbers
abbrev pub chosen_records : List Record → List ℕ → List Record
chosen_records [] members = []
chosen_records (header ∷ rows) members = header ∷ rows_at rows members

-- the text of these
abbrev pub chosen_text : List Record → List ℕ → List ℕ
chosen_text table members = text_of (chosen_records table members)
