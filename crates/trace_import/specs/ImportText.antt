-- The text of a trace's instance.
use Rattle.std.specs.Prelude.{ℕ, ◌+◌, List, [], ◌∷◌, codes, decimal}
use Rattle.csv_instance.specs.Layout.{text_of}
use Rattle.csv_instance.specs.Records.{Record}
use Rattle.trace_import.specs.Traces.{Event, Alloc, Free, Trace, end_of}

-- the names of the columns; the last is carried
abbrev pub import_header : Record
import_header =
    codes "id" ∷ codes "lower" ∷ codes "upper" ∷ codes "size" ∷ codes "alignment" ∷ codes "name" ∷ []

-- the row of an allocation: its own id is `a` and its line, its name the identifier
abbrev pub import_row : (line upper size alignment : ℕ) → List ℕ → Record
import_row line upper size alignment id =
    (97 ∷ decimal line) ∷ decimal line ∷ decimal upper ∷ decimal size ∷ decimal alignment ∷ id ∷ []

-- the rows of lines that begin with that number
abbrev pub import_rows : ℕ → List Event → List Record
import_rows line [] = []
import_rows line (Alloc id size alignment ∷ after) =
    import_row line (end_of line id after) size alignment id ∷ import_rows (line + 1) after
import_rows line (Free id ∷ after) = import_rows (line + 1) after

-- the records of a trace's instance
abbrev pub import_records : Trace → List Record
import_records trace = import_header ∷ import_rows 0 trace

-- the text of a trace's instance
unfoldable pub import_text : Trace → List ℕ
import_text trace = text_of (import_records trace)
