-- A line with rows below it, as a writer writes them.
use Rattle.std.proofs.Common.{◌≡◌, ℕ, ◌+◌, ◌<◌, inl, inr, false, List, [], ◌∷◌, ◌++◌, length, map, drop, get_or, Option, Some, None, decimal, sym, ap, ◌∙◌, arith, add-one, drop-cons, append-nil, append_assoc}
use Rattle.std.specs.declared.vec.Vec.{Vec}
use Rattle.std.specs.declared.alloc.Global.{Global}
use Rattle.std.specs.List.{All}
use Rattle.std.specs.Option.{ForSome}
use Rattle.csv.specs.Writing.{default_writer, fields_written, has_written, row_text, writer_pending, writer_setup, writer_under}
use Rattle.csv.specs.declared.writer.Writer.{Writer}
use Rattle.csv_instance.specs.Layout.{text_of}
use Rattle.csv_instance.specs.Records.{Record}
use Rattle.csv_instance.specs.Wrote.{Wrote}
use Rattle.dsa_terms.specs.Buffers.{Instance}
use Rattle.dsa_terms.specs.Plans.{layout_height}
use Rattle.dsa_terms.proofs.Places.{all_from_in}
use Rattle.layout_report.specs.Report.{AreRowsOf, id_of, row_fields}
use Rattle.layout_report.specs.Rows.{IsRowAt}
use Rattle.layout_report.specs.declared.row.Row.{Row}

-- what a new writer over some bytes has written
pub begun : (w : Writer (Vec ℕ Global)) (v : Vec ℕ Global) (line : List ℕ) → writer_setup w ≡ default_writer →
    fields_written w ≡ 0 → has_written w ≡ false → writer_under w ≡ v → writer_pending w ≡ [] → v.items ≡ line →
    Wrote w line
begun w v line setup fields wrote under empty items = record {
  setup = setup;
  between = fields;
  clean = wrote;
  holds = rw (under, empty, items) (ap Some (append-nil line));
}

-- the text of the rows from a place on
pub rows_from : (f : Row → Record) (rows : List Row) (k : ℕ) (d row : Row) (text : List ℕ) → k < length rows →
    row ≡ get_or rows k d →
    text ++ text_of (map f (drop k rows))
    ≡ text ++ row_text default_writer (f row) ++ text_of (map f (drop (k + 1) rows))
rows_from f rows k d row text lt is =
    let e : drop k rows ≡ row ∷ drop (k + 1) rows = rw (add-one, is) (drop-cons rows k d lt) in
    rw e (sym (append_assoc text (row_text default_writer (f row)) (text_of (map f (drop (k + 1) rows)))))

-- below the names, all rows are left
pub first_rows : (f : Row → Record) (line : List ℕ) (names : Record) (rows : List Row) →
    line ++ text_of (names ∷ map f rows) ≡ line ++ row_text default_writer names ++ text_of (map f (drop 0 rows))
first_rows f line names rows = sym (append_assoc line (row_text default_writer names) (text_of (map f rows)))

-- a row that was written by its fields
pub row_written : (w : Writer (Vec ℕ Global)) (ids : List (List ℕ)) (row : Row) (text place size id : List ℕ) →
    place ≡ decimal row.place → size ≡ decimal row.size → id ≡ id_of ids row.buffer →
    Wrote w (text ++ row_text default_writer (place ∷ size ∷ id ∷ [])) →
    Wrote w (text ++ row_text default_writer (row_fields ids row))
row_written w ids row text place size id p s i h = rw (p, s, i) at h

-- the rows' buffers have ids
pub have_ids : (I : Instance) (offsets : List ℕ) (peak : Option (ℕ × ℕ)) (rows : List Row) (n : ℕ) →
    AreRowsOf I offsets peak rows → n ≡ length I + 1 →
    All (λ (row : Row). ForSome row.buffer (λ b. b + 1 < n)) rows
have_ids I offsets None rows n none e = rw none (λ k d lt. absurd (omega arith))
have_ids I offsets (Some p) rows n a e = all_from_in (λ (row : Row). ForSome row.buffer (λ b. b + 1 < n)) rows
    (λ row i x q. go row x q (a.each row i))
  where
    go : (row : Row) (x : ℕ) → row.buffer ≡ Some x → IsRowAt I offsets p.0 (layout_height I offsets) row → x + 1 < n
    go row x q (inl (b, lt, l, f)) =
        let s : Some b ≡ Some x = sym (ap (λ (row : Row). row.buffer) f) ∙ q in
        let g : b ≡ x = cc in omega arith
    go row x q (inr (r, u, f)) = absurd (let s : None ≡ Some x = sym (ap (λ (row : Row). row.buffer) f) ∙ q in cc)
