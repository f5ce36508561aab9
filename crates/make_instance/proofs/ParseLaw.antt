-- A made text is the text of an instance.
use Rattle.std.proofs.Common.{◌≡◌, ◌<◌, ◌≤◌, ◌+◌, ◌++◌, ◌∷◌, ◌∙◌, ℕ, zero, suc, List, [], Bool, false, None, Ok, length, map, position, refl, sym, ap, arith}
use Rattle.std.proofs.lemmas.Iterator.Adapters.{position_from-zero}
use Rattle.std.proofs.lemmas.List.{length-map}
use Rattle.std.proofs.lemmas.List.FromFn.{length-map-range_with_len, map-range_with_len_more}
use Rattle.std.specs.Fmt.{decimal}
use Rattle.std.specs.List.{position_from, range_with_len}
use Rattle.std.specs.Str.{bytes_eq}
use Rattle.dsa_terms.specs.Buffers.{Buffer}
use Rattle.dsa_terms.specs.Parts.{numbers}
use Rattle.dsa_model.specs.Buffer.{buffer_limit}
use Rattle.csv_instance.specs.Columns.{field_of}
use Rattle.csv_instance.specs.Parse.{row_buffer, parse, row_fault, rows_fault}
use Rattle.csv_instance.specs.Records.{Record, table_of}
use Rattle.csv_instance.specs.RowSteps.{id_fault}
use Rattle.csv_instance.specs.declared.columns.Column.TheVariants.{Id}
use Rattle.make_instance.specs.Made.{header, made_record, made_table, made_text}
use Rattle.make_instance.specs.Rows.{made_row}
use Rattle.make_instance.proofs.MadeRows.{made}
use Rattle.csv_instance.proofs.NumberedIds.{ids_differ, numbered_good}
use Rattle.csv_instance.proofs.RowStepLemmas.{row-content}
use Rattle.make_instance.proofs.RowFaults.{content_good}
use Rattle.make_instance.proofs.TextLemmas.{table-read}

-- no row among these passes
none_among : (p : Record → Bool) (f : ℕ → Record) (k a n : ℕ) → ((j : ℕ) → j < a + n → p (f j) ≡ false)
    → position_from p k (map f (range_with_len a n)) ≡ None
none_among p f k a zero h = refl
none_among p f k a (suc n) h =
    rw (h a (omega arith)) (none_among p f (k + 1) (a + 1) n (λ j less. h j (omega arith)))

-- the rows before row a
abbrev before : (seed count a : ℕ) → List Record
before seed count a = map (made_record seed count) (range_with_len 0 a)

id_good : (seed count a : ℕ) → a < count → count ≤ buffer_limit
    → id_fault header (before seed count a) (made_record seed count a) ≡ None
id_good seed count a less few =
    let rows = before seed count a in
    let id = 98 ∷ decimal a in
    let number : length rows ≡ a = length-map-range_with_len (made_record seed count) 0 a in
    let fresh : position (λ earlier. bytes_eq id (field_of header earlier Id)) rows ≡ None =
    position_from-zero (λ earlier. bytes_eq id (field_of header earlier Id)) rows
    ∙ none_among (λ earlier. bytes_eq id (field_of header earlier Id)) (made_record seed count) 0 0 a
    (λ j smaller. ids_differ 98 a j (omega arith) (omega arith)) in
    numbered_good header rows (made_record seed count a) 98 a refl refl (omega arith) (omega arith) fresh

row_good : (seed count a : ℕ) → a < count → count ≤ buffer_limit
    → row_fault header (before seed count a) (made_record seed count a) ≡ None
row_good seed count a less few =
    row-content header (before seed count a) (made_record seed count a) None (id_good seed count a less few)
    (content_good a (length (before seed count a)) (made_row seed count a) (made seed count a less few))

rows_good : (seed count a n : ℕ) → a + n ≤ count → count ≤ buffer_limit
    → rows_fault header (before seed count a) (map (made_record seed count) (range_with_len a n)) ≡ None
rows_good seed count a zero within few = refl
rows_good seed count a (suc n) within few =
    let grown : before seed count (a + 1) ≡ before seed count a ++ made_record seed count a ∷ [] =
    map-range_with_len_more (made_record seed count) 0 a a (omega arith) in
    let rest = rows_good seed count (a + 1) n (omega arith) few in
    rw (row_good seed count a (omega arith) few) (rw (sym grown) rest)

-- the records of a made text have no fault, and tell of as many buffers
pub parsed : (seed count : ℕ) → count ≤ buffer_limit
    → (I : List Buffer) × (parse (table_of (made_text seed count)) ≡ Ok I) × (length I ≡ count)
parsed seed count few =
    let rows = map (made_record seed count) (numbers count) in
    let good = rows_good seed count 0 count (omega arith) few in
    let parsed_as : parse (made_table seed count) ≡ Ok (map (row_buffer header) rows) = rw good refl in (
      map (row_buffer header) rows,
      ap parse (table-read seed count few) ∙ parsed_as,
      length-map rows (row_buffer header) ∙ length-map-range_with_len (made_record seed count) 0 count,
    )
