-- The report of a layout at its instance's peak.
use Rattle.std.specs.Prelude.{◌≡◌, ℕ, List, [], ◌∷◌, ◌++◌, map, codes, decimal, slice_index_or, Option, Some, None, MatchOption}
use Rattle.dsa_terms.specs.Buffers.{Instance}
use Rattle.dsa_terms.specs.Plans.{layout_height}
use Rattle.csv_instance.specs.Layout.{text_of}
use Rattle.csv_instance.specs.Offsets.{ids_of}
use Rattle.csv_instance.specs.Records.{Record}
use Rattle.load_profile.specs.LoadProfile.{IsPeakOf}
use Rattle.layout_report.specs.Rows.{AreRowsAt}
use Rattle.layout_report.specs.declared.row.Row.{Row}

-- the line of a moment and its load, with a height
abbrev pub moment_line : List ℕ → List ℕ → ℕ → List ℕ
moment_line moment load height =
    codes "moment " ++ moment ++ codes " load " ++ load ++ codes " height " ++ decimal height ++ codes "\n"

-- the line of a peak, or that there is none
abbrev pub peak_line : Option (ℕ × ℕ) → ℕ → List ℕ
peak_line None height = moment_line (codes "none") (codes "0") height
peak_line (Some peak) height = moment_line (decimal peak.0) (decimal peak.1) height

-- the buffer's id, and nothing for a free range
abbrev pub id_of : List (List ℕ) → Option ℕ → List ℕ
id_of ids None = []
id_of ids (Some b) = slice_index_or ids b []

-- a row's place, size and id
abbrev pub row_fields : List (List ℕ) → Row → Record
row_fields ids row = decimal row.place ∷ decimal row.size ∷ id_of ids row.buffer ∷ []

-- the names of these three
abbrev pub row_names : Record
row_names = codes "place" ∷ codes "size" ∷ codes "id" ∷ []

-- the text of rows below their names, as the `csv` writer writes them
abbrev pub rows_text : List (List ℕ) → List Row → List ℕ
rows_text ids rows = text_of (row_names ∷ map (row_fields ids) rows)

-- the rows are those at the peak, and there are none where there is no peak
abbrev pub AreRowsOf : Instance → List ℕ → Option (ℕ × ℕ) → List Row → Type 0
AreRowsOf I offsets peak rows =
    MatchOption peak (rows ≡ []) (λ p. AreRowsAt I offsets p.0 (layout_height I offsets) rows)

-- the report of the layout of the table's instance: the line of its peak, with the layout's height, and the rows then
pub record IsReportOf (table : List Record) (I : Instance) (offsets text : List ℕ) : Type 0 where
  pub peak : Option (ℕ × ℕ)
  pub rows : List Row
  pub is_peak : IsPeakOf I peak
  pub are_rows : AreRowsOf I offsets peak rows
  pub is_text : text ≡ peak_line peak (layout_height I offsets) ++ rows_text (ids_of table) rows
