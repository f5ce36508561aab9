-- Rows that are written again with other moments and one gap more.
use Rattle.std.specs.Prelude.{⊤, ◌≤◌, ◌+◌, ◌==◌, ℕ, cond, List, [], ◌∷◌, ◌++◌, Option, Some, None, codes, decimal, find, length, map, set}
use Rattle.std.specs.List.{All, enumerate_from}
use Rattle.std.specs.Option.{option_map_or}
use Rattle.dsa_terms.specs.Buffers.{Buffer}
use Rattle.dsa_model.specs.Limits.{time_limit}
use Rattle.csv_instance.specs.Columns.{column_place, field_of, name_of}
use Rattle.csv_instance.specs.Gaps.{gap_pair_text}
use Rattle.csv_instance.specs.Layout.{text_of}
use Rattle.csv_instance.specs.Records.{Record}
use Rattle.csv_instance.specs.declared.columns.Column.{Column}
use Rattle.csv_instance.specs.declared.columns.Column.TheVariants.{Lower, Upper, Gaps}

-- a row's number, its new lower and its new upper, and the two ends of a gap that is put after its others
abbrev pub Change : Type 0
Change = ℕ × ℕ × ℕ × ℕ × ℕ

-- the numbers of the rows that change
abbrev pub changed_numbers : List Change → List ℕ
changed_numbers changes = map (λ (c : Change). c.0) changes

-- the change of the row of that number, if there is one
abbrev pub change_of : List Change → ℕ → Option Change
change_of changes number = find (λ (c : Change). c.0 == number) changes

-- the changes are of rows from that number on, and their numbers rise
abbrev pub AreFrom : ℕ → List Change → Type 0
AreFrom number [] = ⊤
AreFrom number (c ∷ cs) = (number ≤ c.0) × AreFrom (c.0 + 1) cs

-- all that changes write are moments that an instance file can have
abbrev pub AreMoments : List Change → Type 0
AreMoments changes = All
    (λ (c : Change). (c.1 ≤ time_limit) × (c.2 ≤ time_limit) × (c.3 ≤ time_limit) × (c.4 ≤ time_limit)) changes

-- ---- what rows say then
-- what a row says after its change
abbrev pub changed_value : Option Change → Buffer → Buffer
changed_value None b = b
changed_value (Some c) b = record b { lower = c.1; upper = c.2; gaps = b.gaps ++ (c.3, c.4) ∷ [] }

-- what the rows from that number on say after their changes
abbrev pub changed_from : List Change → ℕ → List Buffer → List Buffer
changed_from changes number bs =
    map (λ (e : ℕ × Buffer). changed_value (change_of changes e.0) e.1) (enumerate_from number bs)

-- what rows say after their changes
abbrev pub changed_values : List Change → List Buffer → List Buffer
changed_values changes bs = changed_from changes 0 bs

-- ---- records
-- the row with another field under a column, where the header has that column
abbrev pub with_field : Record → Column → List ℕ → Record → Record
with_field header c field row = option_map_or (λ i. set row i field) (column_place header c) row

-- the row with this field of gaps, which is put last where the header has no such column
abbrev pub with_gaps : Record → List ℕ → Record → Record
with_gaps header field row = option_map_or (λ i. set row i field) (column_place header Gaps) (row ++ field ∷ [])

-- the row as it is, with this field put last where the header has no column of gaps
abbrev pub carried : Record → List ℕ → Record → Record
carried header field row = option_map_or (λ _. row) (column_place header Gaps) (row ++ field ∷ [])

-- a field of gaps with one more, put after the others
abbrev pub gap_added : List ℕ → ℕ → ℕ → List ℕ
gap_added field from to = cond (length field == 0) [] (field ++ codes " ") ++ gap_pair_text from to

-- the row after its change; where there is none it stays, with an empty field of gaps where it had none
abbrev pub changed_row : Record → Option Change → Record → Record
changed_row header None row = carried header [] row
changed_row header (Some c) row =
    with_gaps header (gap_added (field_of header row Gaps) c.3 c.4)
    (with_field header Upper (decimal c.2) (with_field header Lower (decimal c.1) row))

-- the rows from that number on, after their changes
abbrev pub changed_rows : Record → List Change → ℕ → List Record → List Record
changed_rows header changes number rows =
    map (λ (e : ℕ × Record). changed_row header (change_of changes e.0) e.1) (enumerate_from number rows)

-- the header, with the column of gaps put last where there was none
abbrev pub changed_header : Record → Record
changed_header header = carried header (name_of Gaps) header

-- the records of a table whose rows change
abbrev pub changed_records : List Record → List Change → List Record
changed_records [] changes = []
changed_records (header ∷ rows) changes = changed_header header ∷ changed_rows header changes 0 rows

-- the text of these
abbrev pub changed_text : List Record → List Change → List ℕ
changed_text table changes = text_of (changed_records table changes)
