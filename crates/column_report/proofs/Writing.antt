-- The rows of columns, written one after another.
use Rattle.std.proofs.Common.{◌≡◌, ℕ, ◌+◌, ◌<◌, List, [], ◌∷◌, ◌++◌, length, map, drop, get_or, sym, add-one, drop-cons, append_assoc}
use Rattle.std.specs.declared.vec.Vec.{Vec}
use Rattle.std.specs.declared.alloc.Global.{Global}
use Rattle.csv.specs.Writing.{default_writer, row_text}
use Rattle.csv.specs.declared.writer.Writer.{Writer}
use Rattle.csv_instance.specs.Layout.{text_of}
use Rattle.csv_instance.specs.Records.{Record}
use Rattle.csv_instance.specs.Wrote.{Wrote}
use Rattle.column_report.specs.Columns.{column_row, meaning_of}

-- the text of the columns from a place on
pub names_from : (header : Record) (k : ℕ) (text : List ℕ) → k < length header →
    text ++ text_of (map column_row (drop k header))
    ≡ (text ++ row_text default_writer (column_row (get_or header k [])))
    ++ text_of (map column_row (drop (k + 1) header))
names_from header k text lt =
    let row = row_text default_writer (column_row (get_or header k [])) in
    let e : drop k header ≡ get_or header k [] ∷ drop (k + 1) header = rw add-one (drop-cons header k [] lt) in
    rw e (sym (append_assoc text row (text_of (map column_row (drop (k + 1) header)))))

-- a row that was written by its fields
pub row_written : (w : Writer (Vec ℕ Global)) (text name meaning column : List ℕ) → name ≡ column →
    meaning ≡ meaning_of name → Wrote w (text ++ row_text default_writer (name ∷ meaning ∷ [])) →
    Wrote w (text ++ row_text default_writer (column_row column))
row_written w text name meaning column n m h = rw n at (rw m at h)
