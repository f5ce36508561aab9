-- The text of a made instance.
use Rattle.std.specs.Prelude.{ℕ, List, [], ◌∷◌, ◌++◌, codes, decimal, map, Option, Some, None}
use Rattle.std.specs.List.{flat_map, join_with_byte}
use Rattle.dsa_terms.specs.Parts.{numbers}
pub use Rattle.csv_instance.specs.Gaps.{gap_pair_text}
use Rattle.csv_instance.specs.Records.{Record}
use Rattle.make_instance.specs.Rows.{made_row}
use Rattle.make_instance.specs.declared.row.Row.{Row}

-- what stands in the field of gaps
abbrev pub gap_text : Option (ℕ × ℕ) → List ℕ
gap_text None = []
gap_text (Some gap) = gap_pair_text gap.0 gap.1

-- the fields of a row
abbrev pub record_of : ℕ → Row → Record
record_of i row =
    (codes "b" ++ decimal i)
    ∷ decimal row.lower
    ∷ decimal row.upper
    ∷ decimal row.size
    ∷ decimal row.alignment
    ∷ gap_text row.gap
    ∷ []

-- the names of the columns
abbrev pub header : Record
header = codes "id" ∷ codes "lower" ∷ codes "upper" ∷ codes "size" ∷ codes "alignment" ∷ codes "gaps" ∷ []

-- the fields of buffer i
abbrev pub made_record : (seed count i : ℕ) → Record
made_record seed count i = record_of i (made_row seed count i)

-- a line: fields with commas between them, and a newline
abbrev pub record_line : Record → List ℕ
record_line fields = join_with_byte 44 fields ++ codes "\n"

-- the header, and a record for each buffer
abbrev pub made_table : (seed count : ℕ) → List Record
made_table seed count = header ∷ map (made_record seed count) (numbers count)

-- the text of these, each on a line
unfoldable pub made_text : (seed count : ℕ) → List ℕ
made_text seed count = flat_map record_line (made_table seed count)
