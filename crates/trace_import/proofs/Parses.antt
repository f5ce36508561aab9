-- The text of a trace's instance parses as it.
use Rattle.std.proofs.Common.{◌≡◌, ◌<◌, ◌≤◌, ◌+◌, ◌^◌, ◌++◌, ◌∷◌, ◌∙◌, ◌==◌, ℕ, inl, inr, List, [], Bool, true, false, None, Some, Ok, codes, length, map, nat_le, nat_lt, position, refl, ap, arith}
use Rattle.std.proofs.lemmas.Bool.Decides.{nat_tests}
use Rattle.std.proofs.lemmas.Fmt.{decimal_nonempty}
use Rattle.std.proofs.lemmas.Iterator.Adapters.{position_from-zero}
use Rattle.std.specs.Fmt.{decimal}
use Rattle.std.specs.List.{position_from}
use Rattle.std.specs.Str.{bytes_eq}
use Rattle.csv.specs.Reading.{default_config, records}
use Rattle.dsa_terms.specs.Buffers.{Buffer}
use Rattle.dsa_terms.specs.Claims.{IsIn}
use Rattle.dsa_terms.proofs.Lists.{from_append}
use Rattle.dsa_model.specs.Buffer.{buffer_fault, buffer_of, gap_fault, is_ever_live, number_fault, buffer_limit}
use Rattle.dsa_model.specs.Numbers.{written_number}
use Rattle.dsa_model.proofs.Live.{is_ever, live_from}
use Rattle.dsa_model.specs.Limits.{time_limit}
use Rattle.csv_instance.specs.Columns.{field_of}
use Rattle.csv_instance.specs.Layout.{text_of}
use Rattle.csv_instance.specs.Parse.{number_or, bad_column, parse, row_buffer, rows_fault}
use Rattle.csv_instance.specs.RowSteps.{content_fault, id_fault}
use Rattle.csv_instance.specs.Records.{Record, table_of}
use Rattle.csv_instance.specs.declared.columns.Column.TheVariants.{Id}
use Rattle.csv_instance.specs.declared.fault.InstanceFault.TheVariants as fault
use Rattle.csv_instance.proofs.IdLemmas.{none_first, none_mapped}
use Rattle.csv_instance.proofs.NumberedIds.{ids_differ, numbered_good}
use Rattle.csv_instance.proofs.Mark.{no_mark}
use Rattle.csv_instance.proofs.OffsetLemmas.{number-decimal}
use Rattle.csv_instance.proofs.RowStepLemmas.{content-none, row-content}
use Rattle.csv_instance.proofs.ReadBack.{AllReadBack, text-read}
use Rattle.trace_import.specs.Limits.{AreWithin}
use Rattle.trace_import.specs.Traces.{Alloc, end_of, Event, Free, imported, imported_from, Trace}
use Rattle.trace_import.specs.ImportText.{import_header, import_records, import_row, import_rows, import_text}
use Rattle.trace_import.proofs.Events.{first_within}

-- ---- one row
record IsRow (line upper size alignment : ℕ) : Type 0 where
  lasts : line < upper
  soon : upper ≤ 2 ^ 60
  some_size : 1 ≤ size
  small : size ≤ 2 ^ 40
  some_alignment : 1 ≤ alignment
  narrow : alignment ≤ 2 ^ 32

number : (n : ℕ) → n ≤ 2 ^ 60 → written_number time_limit (decimal n) ≡ Some n
number n small = number-decimal time_limit n (omega arith) (omega arith)

alignment_is : (n : ℕ) → n ≤ 2 ^ 60 → number_or 1 (decimal n) ≡ Some n
alignment_is n small =
    let some : (length (decimal n) == 0) ≡ false = long _ (decimal_nonempty n (omega arith)) in
    rw some (number n small)
  where
    long : (n : ℕ) → 0 < n → (n == 0) ≡ false
    long n h = grind (arith, nat_tests)

module _ (line upper size alignment : ℕ) (id : List ℕ) (w : IsRow line upper size alignment) where
  line_is : written_number time_limit (decimal line) ≡ Some line
  line_is = number line (omega (arith, w.lasts, w.soon))

  upper_is : written_number time_limit (decimal upper) ≡ Some upper
  upper_is = number upper w.soon

  size_is : written_number time_limit (decimal size) ≡ Some size
  size_is = number size (omega (arith, w.small))

  its_alignment : number_or 1 (decimal alignment) ≡ Some alignment
  its_alignment = alignment_is alignment (omega (arith, w.narrow))

  buffer_is : row_buffer import_header (import_row line upper size alignment id)
      ≡ buffer_of line upper size alignment [] 0
  buffer_is = rw (line_is, upper_is, size_is, its_alignment) refl

  no_number_fault : number_fault (buffer_of line upper size alignment [] 0) ≡ None
  no_number_fault = close w.lasts w.some_size w.small w.some_alignment w.narrow
    where
      close : line < upper → 1 ≤ size → size ≤ 2 ^ 40 → 1 ≤ alignment → alignment ≤ 2 ^ 32 →
          number_fault (buffer_of line upper size alignment [] 0) ≡ None
      close a b c d e =
          let one : nat_le upper line ≡ false = grind (arith, nat_tests) in
          let two : (size == 0) ≡ false = grind (arith, nat_tests) in
          let three : nat_lt (2 ^ 40) size ≡ false = grind (arith, nat_tests) in
          let four : (alignment == 0) ≡ false = grind (arith, nat_tests) in
          let five : nat_lt (2 ^ 32) alignment ≡ false = grind (arith, nat_tests) in
          rw (one, two, three, four, five) refl

  no_gap_fault : gap_fault (buffer_of line upper size alignment [] 0) ≡ None
  no_gap_fault =
      let ever : is_ever_live (buffer_of line upper size alignment [] 0) ≡ true =
      is_ever _ line (live_from _ line (omega arith) w.lasts refl) in
      rw ever refl

  no_fault : buffer_fault (buffer_of line upper size alignment [] 0) ≡ None
  no_fault = rw (no_number_fault, no_gap_fault) refl

  content_good : (k : ℕ) → content_fault import_header k (import_row line upper size alignment id) ≡ None
  content_good k =
      let bad : bad_column import_header (import_row line upper size alignment id) ≡ None =
      rw (line_is, upper_is, size_is, its_alignment) refl in
      let fine : buffer_fault (row_buffer import_header (import_row line upper size alignment id)) ≡ None =
      ap buffer_fault buffer_is ∙ no_fault in
      content-none import_header k (import_row line upper size alignment id)
      (none_first (_ ∷ _ ∷ []) (none_mapped (fault.BadNumber k) _ bad, (refl, tt))) fine

-- ---- ids
-- the rows before a line have the ids of lines before it
abbrev AreBefore : ℕ → List Record → Type 0
AreBefore line before = (row : Record) → IsIn row before →
    (j : ℕ) × (j < line) × (field_of import_header row Id ≡ 97 ∷ decimal j)

none_has : (p : Record → Bool) (k : ℕ) (rows : List Record) → ((row : Record) → IsIn row rows → p row ≡ false) →
    position_from p k rows ≡ None
none_has p k [] h = refl
none_has p k (row ∷ rows) h = rw (h row (inl refl)) (none_has p (k + 1) rows (λ r i. h r (inr i)))

id_good : (line upper size alignment : ℕ) (id : List ℕ) (before : List Record) → line ≤ 2 ^ 60 → AreBefore line before →
    length before < buffer_limit → id_fault import_header before (import_row line upper size alignment id) ≡ None
id_good line upper size alignment id before soon are few =
    let own_id = 97 ∷ decimal line in
    let fresh : position (λ earlier. bytes_eq own_id (field_of import_header earlier Id)) before ≡ None =
    position_from-zero (λ earlier. bytes_eq own_id (field_of import_header earlier Id)) before
    ∙ none_has (λ earlier. bytes_eq own_id (field_of import_header earlier Id)) 0 before
    (λ row i. let r = are row i in ap (bytes_eq own_id) r.2 ∙ ids_differ 97 line r.0 (omega arith) r.1) in
    numbered_good import_header before (import_row line upper size alignment id) 97 line refl refl soon few fresh

-- ---- all rows
row_within : (line : ℕ) (id : List ℕ) (size alignment : ℕ) (es : List Event) →
    AreWithin (Alloc id size alignment ∷ es) → line + length (Alloc id size alignment ∷ es) ≤ 2 ^ 60 →
    IsRow line (end_of line id es) size alignment
row_within line id size alignment es w soon =
    let k = w id size alignment (inl refl) in
    let p = first_within id es in
    record {
      lasts = omega arith;
      soon = omega arith;
      some_size = k.some_size;
      small = k.small;
      some_alignment = k.some_alignment;
      narrow = k.narrow;
    }

length_last : (zs : List Record) (z : Record) → length (zs ++ z ∷ []) ≡ length zs + 1
length_last [] z = omega arith
length_last (w ∷ ws) z = let k = length_last ws z in omega arith

later_ids : (line : ℕ) (before : List Record) (row : Record) → AreBefore line before →
    field_of import_header row Id ≡ 97 ∷ decimal line → AreBefore (line + 1) (before ++ row ∷ [])
later_ids line before row are e r i = elim (from_append before (row ∷ []) r i) [
  | inl k ↦ (let q = are r k in (q.0, (let z = q.1 in omega arith), q.2))
  | inr k ↦ elim k [
    | inl q ↦ (line, omega arith, ap (λ (r : Record). field_of import_header r Id) q ∙ e)
    | inr z ↦ absurd z
  ]
]

rows_good : (es : List Event) (line : ℕ) (before : List Record) → AreWithin es → line + length es ≤ 2 ^ 60 →
    AreBefore line before → length before + length (import_rows line es) ≤ buffer_limit →
    rows_fault import_header before (import_rows line es) ≡ None
rows_good [] line before w soon are few = refl
rows_good (Free id ∷ es) line before w soon are few =
    rows_good es (line + 1) before (λ i s a j. w i s a (inr j)) (omega arith)
    (λ row i. let r = are row i in (r.0, (let k = r.1 in omega arith), r.2)) few
rows_good (Alloc id size alignment ∷ es) line before w soon are few =
    let upper = end_of line id es in
    let row = import_row line upper size alignment id in
    let ids = id_good line upper size alignment id before (omega arith) are (omega arith) in
    let content = content_good line upper size alignment id (row_within line id size alignment es w soon)
    (length before) in
    let n = length_last before row in
    let rest = rows_good es (line + 1) (before ++ row ∷ []) (λ i s a j. w i s a (inr j)) (omega arith)
    (later_ids line before row are refl) (omega arith) in
    rw (row-content import_header before row None ids content) rest

buffers_are : (es : List Event) (line : ℕ) → AreWithin es → line + length es ≤ 2 ^ 60 →
    map (row_buffer import_header) (import_rows line es) ≡ imported_from line es
buffers_are [] line w soon = refl
buffers_are (Free id ∷ es) line w soon = buffers_are es (line + 1) (λ i s a j. w i s a (inr j)) (omega arith)
buffers_are (Alloc id size alignment ∷ es) line w soon =
    rw (buffer_is line (end_of line id es) size alignment id
    (row_within line id size alignment es w soon))
    (ap (λ (bs : List Buffer). buffer_of line (end_of line id es) size alignment [] 0 ∷ bs)
    (buffers_are es (line + 1) (λ i s a j. w i s a (inr j)) (omega arith)))

pub rows_counted : (es : List Event) (line : ℕ) → length (import_rows line es) ≡ length (imported_from line es)
rows_counted [] line = refl
rows_counted (Free id ∷ es) line = rows_counted es (line + 1)
rows_counted (Alloc id size alignment ∷ es) line = let k = rows_counted es (line + 1) in omega arith

records_parse : (trace : Trace) → AreWithin trace → length trace ≤ 2 ^ 60 → length (imported trace) ≤ buffer_limit →
    parse (import_records trace) ≡ Ok (imported trace)
unfolding imported
records_parse trace w soon few =
    let good = rows_good trace 0 [] w (omega arith) (λ row i. absurd i)
    (let k = rows_counted trace 0 in omega arith) in
    let are = buffers_are trace 0 w (omega arith) in
    rw good (ap Ok are)

-- ---- and so does their text
rows_read : (es : List Event) (line : ℕ) → AllReadBack (import_rows line es)
rows_read [] line = tt
rows_read (Free id ∷ es) line = rows_read es (line + 1)
rows_read (Alloc id size alignment ∷ es) line = (refl, rows_read es (line + 1))

text_reads : (trace : Trace) → table_of (import_text trace) ≡ import_records trace
unfolding import_text
text_reads trace = ap (records default_config) (no_mark (codes "id") (codes "lower")
    (codes "upper" ∷ codes "size" ∷ codes "alignment" ∷ codes "name" ∷ []) (text_of (import_rows 0 trace)) refl)
    ∙ text-read (import_records trace) (refl, rows_read trace 0)

pub text_parses : (trace : Trace) → AreWithin trace → length trace ≤ 2 ^ 60 → length (imported trace) ≤ buffer_limit →
    parse (table_of (import_text trace)) ≡ Ok (imported trace)
text_parses trace w soon few = ap parse (text_reads trace) ∙ records_parse trace w soon few
