-- A layout's text row by row.
use Rattle.std.proofs.Common.{◌≡◌, ◌<◌, ◌+◌, ◌++◌, ◌∷◌, ℕ, zero, suc, List, [], length, map, drop, get_or, add-one, sym, ap, arith}
use Rattle.std.specs.Fmt.{decimal}
use Rattle.csv.specs.Writing.{default_writer, row_text}
use Rattle.csv_instance.specs.Layout.{rows_with, text_of}
use Rattle.csv_instance.specs.Records.{Record}

at_suc : {R : Type 0} (f : R → Record) (rows : List R) (offsets : List ℕ) (p : ℕ) (r : R) → p < length rows
    → p < length offsets → r ≡ get_or rows p r
    → text_of (rows_with (drop p (map f rows)) (drop p offsets))
    ≡ row_text default_writer (f r ++ decimal (get_or offsets p 0) ∷ [])
    ++ text_of (rows_with (drop (suc p) (map f rows)) (drop (suc p) offsets))
at_suc f [] offsets p r h k e = absurd (omega arith)
at_suc f (x ∷ rows) [] p r h k e = absurd (omega arith)
at_suc f (x ∷ rows) (o ∷ offsets) zero r h k e =
    ap (λ z. row_text default_writer (f z ++ decimal o ∷ []) ++ text_of (rows_with (map f rows) offsets)) (sym e)
at_suc f (x ∷ rows) (o ∷ offsets) (suc p) r h k e = at_suc f rows offsets p r (omega arith) (omega arith) e

-- the text of the rows from a place on
pub rows_text-at : {R : Type 0} (f : R → Record) (rows : List R) (offsets : List ℕ) (p : ℕ) (r : R) → p < length rows
    → p < length offsets → r ≡ get_or rows p r
    → text_of (rows_with (drop p (map f rows)) (drop p offsets))
    ≡ row_text default_writer (f r ++ decimal (get_or offsets p 0) ∷ [])
    ++ text_of (rows_with (drop (p + 1) (map f rows)) (drop (p + 1) offsets))
rows_text-at f rows offsets p r h k e = rw add-one (at_suc f rows offsets p r h k e)
