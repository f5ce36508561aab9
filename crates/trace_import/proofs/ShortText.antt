-- The text of a trace's instance is within the limit of a file.
use Rattle.std.proofs.Common.{◌≡◌, ◌+◌, ◌*◌, ◌^◌, ◌≤◌, ◌∷◌, [], ◌==◌, arith, Bool, codes, cond, decimal, false, inl, inr, length, length-append, List, Ok, refl, true, ℕ}
use Rattle.std.proofs.lemmas.Fmt.{length-decimal-le}
use Rattle.dsa_model.specs.Buffer.{buffer_limit}
use Rattle.dsa_model.specs.Limits.{file_limit}
use Rattle.csv.specs.Writing.{default_writer, escaped, field_text, fields_text, is_blank, needs_quotes, quoted, row_text}
use Rattle.csv_instance.specs.Layout.{text_of}
use Rattle.trace_import.specs.Faults.{trace_of}
use Rattle.trace_import.specs.ImportText.{import_header, import_row, import_rows, import_text}
use Rattle.trace_import.specs.Limits.{AreWithin}
use Rattle.trace_import.specs.Traces.{Alloc, Event, Free, end_of, imported, Trace}
use Rattle.trace_import.proofs.Accepted.{accepted_fits, accepted_is_short}
use Rattle.trace_import.proofs.Events.{first_within}
use Rattle.trace_import.proofs.Parses.{rows_counted}

-- ---- a field
escaped_short : (field : List ℕ) → length (escaped default_writer field) ≤ 2 * length field
unfolding escaped
escaped_short [] = omega arith
escaped_short (b ∷ rest) = go (b == 34) (escaped_short rest)
  where
    go : (q : Bool) → length (escaped default_writer rest) ≤ 2 * length rest →
        length (cond q (34 ∷ b ∷ escaped default_writer rest) (b ∷ escaped default_writer rest))
        ≤ 2 * length (b ∷ rest)
    go true h = omega arith
    go false h = omega arith

field_short : (field : List ℕ) → length (field_text default_writer field) ≤ 2 * length field + 2
field_short field = go (needs_quotes default_writer field)
  where
    go : (q : Bool) → length (cond q (quoted default_writer field) field) ≤ 2 * length field + 2
    go true = omega (arith, length-append (escaped default_writer field) (34 ∷ []), escaped_short field)
    go false = omega arith

-- the most bytes that a field of so many can take
abbrev most : List ℕ → ℕ
most field = 2 * length field + 2

-- ---- a row
body_short : (a b c d e f : List ℕ) → length (row_text default_writer (a ∷ b ∷ c ∷ d ∷ e ∷ f ∷ []))
    ≤ most a + most b + most c + most d + most e + most f + 6
unfolding fields_text is_blank
body_short a b c d e f =
    let ka = field_short a in let kb = field_short b in let kc = field_short c in
    let kd = field_short d in let ke = field_short e in let kf = field_short f in
    simp length-append (omega arith)

row_short : (line upper size alignment : ℕ) (id : List ℕ) → line ≤ 2 ^ 60 → upper ≤ 2 ^ 60 → size ≤ 2 ^ 40 →
    alignment ≤ 2 ^ 32 → length id ≤ 255 →
    length (row_text default_writer (import_row line upper size alignment id)) ≤ 900
row_short line upper size alignment id l u s a i =
    let kl = length-decimal-le 20 line (omega arith) (omega arith) (omega arith) in
    let ku = length-decimal-le 20 upper (omega arith) (omega arith) (omega arith) in
    let ks = length-decimal-le 20 size (omega arith) (omega arith) (omega arith) in
    let ka = length-decimal-le 20 alignment (omega arith) (omega arith) (omega arith) in
    let k = body_short (97 ∷ decimal line) (decimal line) (decimal upper) (decimal size) (decimal alignment) id in
    omega arith

-- ---- all rows
rows_short : (es : List Event) (line : ℕ) → AreWithin es → line + length es ≤ 2 ^ 60 →
    length (text_of (import_rows line es)) ≤ 900 * length (import_rows line es)
rows_short [] line w soon = omega arith
rows_short (Free id ∷ es) line w soon = rows_short es (line + 1) (λ i s a j. w i s a (inr j)) (omega arith)
rows_short (Alloc id size alignment ∷ es) line w soon =
    let k = w id size alignment (inl refl) in
    let p = first_within id es in
    let row = row_short line (end_of line id es) size alignment id (omega arith) (omega arith) k.small k.narrow
    k.short in
    let rest = rows_short es (line + 1) (λ i s a j. w i s a (inr j)) (omega arith) in
    omega (
      arith,
      length-append (row_text default_writer (import_row line (end_of line id es) size alignment id))
          (text_of (import_rows (line + 1) es)),
    )

header_short : length (row_text default_writer import_header) ≤ 100
header_short = let k = body_short (codes "id") (codes "lower") (codes "upper") (codes "size") (codes "alignment")
    (codes "name") in omega arith

pub text_short : (trace : Trace) → AreWithin trace → length trace ≤ 2 ^ 60 → length (imported trace) ≤ buffer_limit →
    length (import_text trace) ≤ file_limit
unfolding import_text imported
text_short trace w soon few =
    let rows = rows_short trace 0 w (omega arith) in
    let count = rows_counted trace 0 in
    let header = header_short in
    omega (arith, length-append (row_text default_writer import_header) (text_of (import_rows 0 trace)))

pub accepted_short : (bytes : List ℕ) (trace : Trace) → length bytes ≤ file_limit → trace_of bytes ≡ Ok trace →
    length (import_text trace) ≤ file_limit
accepted_short bytes trace small e =
    let f = accepted_fits bytes trace e in
    text_short trace f.0 (let k = accepted_is_short bytes trace e in omega arith) f.1
