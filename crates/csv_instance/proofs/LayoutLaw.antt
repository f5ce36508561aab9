-- The offsets of a layout's records are those that it was made of.
use Rattle.std.proofs.Common.{◌≡◌, ◌≤◌, ◌+◌, ◌++◌, ◌∷◌, ◌∙◌, ℕ, suc, List, [], true, false, not, Option, Some, None, Ok, Err, length, map, position, find, count_by, refl, sym, ap, arith, append_assoc, eq-eqb, length-append}
use Rattle.std.proofs.lemmas.Bool.{eqb-true}
use Rattle.std.proofs.lemmas.List.{map-append}
use Rattle.std.proofs.lemmas.Iterator.Adapters.{position_from-zero}
use Rattle.std.specs.Fmt.{decimal}
use Rattle.std.specs.List.{list_any, position_from}
use Rattle.std.specs.Str.{bytes_eq}
use Rattle.std.specs.Prelude.{⊤, nat_le, ◌==◌}
use Rattle.csv_instance.specs.Columns.{field_of, name_of, column_place, stands_twice, has_column}
use Rattle.csv_instance.specs.Layout.{layout_records, layout_text, rows_with}
use Rattle.csv_instance.specs.Offsets.{AreOffsets, ids_of, is_of, layout_header_fault, layout_row_fault, layout_rows_fault, offset_in, offset_of, parsed_offsets}
use Rattle.csv_instance.specs.Parse.{row_buffer, header_fault, header_faults, row_fault, rows_fault, parse}
use Rattle.csv_instance.specs.RowSteps.{id_fault, id_faults}
use Rattle.csv_instance.proofs.RowStepLemmas.{row_parts}
use Rattle.csv_instance.specs.Records.{Record, table_of}
use Rattle.csv_instance.proofs.Basics.{any_after, counted_last, find_after, find_none, none_counted, none_if, not_false, some_if, text_same}
use Rattle.csv_instance.proofs.ReadBack.{layout-read}
use Rattle.dsa_terms.specs.Buffers.{Buffer}
use Rattle.dsa_model.specs.Numbers.{written_number}
use Rattle.dsa_model.proofs.Faults.{neither, map_none, not_so}
use Rattle.std.specs.Option.{option_map_or, option_or}
use Rattle.dsa_model.specs.Limits.{number_limit}
use Rattle.csv_instance.specs.declared.fault.InstanceFault.TheVariants as fault
use Rattle.csv_instance.specs.declared.columns.Column.{Column}
use Rattle.csv_instance.specs.declared.columns.Column.TheVariants.{Id, Lower, Upper, Size, Alignment, Gaps, Offset, Lowest}
use Rattle.csv_instance.proofs.IdLemmas.{all_none, map-map, new_id, none_any, position-map}
use Rattle.csv_instance.proofs.OffsetLemmas.{id-with, last-with, number-decimal, position-append, position-last}

-- each number is at most the greatest offset, number by number
abbrev pub AllSmall : List ℕ → Type 0
AllSmall [] = ⊤
AllSmall (o ∷ os) = (o ≤ number_limit) × AllSmall os

all_small : (os : List ℕ) → AreOffsets os → AllSmall os
all_small [] h = tt
all_small (o ∷ os) h = (h 0 o (omega arith), all_small os (λ k d within. h (suc k) d (omega arith)))

-- what a good header has: one id, and no offset
pub record IsGood (header : Record) : Type 0 where
  pub once : stands_twice header Id ≡ false
  pub id_place : ℕ
  pub id_there : column_place header Id ≡ Some id_place
  pub no_offset : column_place header Offset ≡ None

pub good : (header : Record) → header_fault header ≡ None → IsGood header
good header e =
    let n = all_none (header_faults header) e in
    let twice = find_none (stands_twice header) Id (Lower ∷ Upper ∷ Size ∷ Alignment ∷ Gaps ∷ Offset ∷ Lowest ∷ [])
    (map_none fault.DuplicateColumn _ n.1.0) in
    let missing = find_none (λ (c : Column). not (has_column header c)) Id (Lower ∷ Upper ∷ Size ∷ [])
    (map_none fault.MissingColumn _ n.1.1.1.0) in
    let there = some_if (column_place header Id) (not_false _ missing.0) in
    record {
      once = twice.0;
      id_place = there.0;
      id_there = there.1;
      no_offset = none_if (column_place header Offset) (not_so _ fault.OffsetColumn n.1.1.0);
    }

-- the header with the name `offset` put last
abbrev pub with_offset : Record → Record
with_offset header = header ++ name_of Offset ∷ []

pub header-good : (header : Record) → IsGood header → layout_header_fault (with_offset header) ≡ None
header-good header g =
    let id_there = position-append (bytes_eq (name_of Id)) g.id_place header (name_of Offset ∷ []) g.id_there in
    let offset_there = position-last (bytes_eq (name_of Offset)) header (name_of Offset) g.no_offset refl in
    let id_count : count_by (bytes_eq (name_of Id)) (with_offset header) ≡ count_by (bytes_eq (name_of Id)) header =
    counted_last (bytes_eq (name_of Id)) header (name_of Offset)
    ∙ (let z : count_by (bytes_eq (name_of Id)) header + 0 ≡ count_by (bytes_eq (name_of Id)) header =
    omega arith in z) in
    let id_once : stands_twice (with_offset header) Id ≡ false = ap (nat_le 2) id_count ∙ g.once in
    let offset_count : count_by (bytes_eq (name_of Offset)) (with_offset header) ≡ 1 =
    counted_last (bytes_eq (name_of Offset)) header (name_of Offset)
    ∙ ap (λ n. n + 1) (none_counted (bytes_eq (name_of Offset)) header
    (none_any (bytes_eq (name_of Offset)) header g.no_offset)) in
    let offset_once : stands_twice (with_offset header) Offset ≡ false = ap (nat_le 2) offset_count in
    rw (id_once, offset_once, id_there, offset_there) refl

-- the same, of a row and its offset
abbrev pub row_with : Record → ℕ → Record
row_with row offset = row ++ decimal offset ∷ []

-- each row's id is among the ids
abbrev pub AllIn : List (List ℕ) → Record → List Record → Type 0
AllIn ids header [] = ⊤
AllIn ids header (row ∷ rows) = (list_any (bytes_eq (field_of header row Id)) ids ≡ true) × AllIn ids header rows

-- a row that has no fault has none with its offset
pub row-good : (ids : List (List ℕ)) (header : Record) (before before2 : List Record) (row : Record) (o : ℕ)
    → IsGood header
    → map (λ e. field_of (with_offset header) e Id) before2 ≡ map (λ e. field_of header e Id) before
    → id_fault header before row ≡ None → o ≤ number_limit → list_any (bytes_eq (field_of header row Id)) ids ≡ true
    → (layout_row_fault ids (with_offset header) before2 (row_with row o) ≡ None)
    × (field_of (with_offset header) (row_with row o) Id ≡ field_of header row Id)
    × (offset_in (with_offset header) (row_with row o) ≡ Some o)
row-good ids header before before2 row o g same e small known =
    let n = all_none (id_faults header before row) e in
    let even : length row ≡ length header =
    eqb-true _ _ (not_false _ (not_so _ (fault.FieldCount (length before)) n.1.0)) in
    let id_is = id-with header row (name_of Offset) (decimal o) g.id_place g.id_there even in
    let last = last-with header row (decimal o) g.no_offset even in
    let value : offset_in (with_offset header) (row_with row o) ≡ Some o = ap (written_number number_limit) last
    ∙ number-decimal number_limit o small (omega arith) in
    let even2 : (length (row_with row o) == length (with_offset header)) ≡ true =
    eq-eqb _ _ (omega (
      arith,
      length-append row (decimal o ∷ []),
      length-append header (name_of Offset ∷ []),
      even,
    )) in
    let fresh : position (λ e. bytes_eq (field_of header row Id) (field_of (with_offset header) e Id)) before2 ≡ None =
    position-map (bytes_eq (field_of header row Id)) (λ e. field_of (with_offset header) e Id) before2
    ∙ ap (position (bytes_eq (field_of header row Id))) same
    ∙ sym (position-map (bytes_eq (field_of header row Id)) (λ e. field_of header e Id) before)
    ∙ new_id header before row e in
    (rw (even2, id_is, known, fresh, value) refl, id_is, value)

-- the ids of rows before one, and the same with offsets
same_more : (header : Record) (before before2 : List Record) (row row2 : Record)
    → map (λ e. field_of (with_offset header) e Id) before2 ≡ map (λ e. field_of header e Id) before
    → field_of (with_offset header) row2 Id ≡ field_of header row Id
    → map (λ e. field_of (with_offset header) e Id) (before2 ++ row2 ∷ []) ≡ map (λ e. field_of header e Id)
    (before ++ row ∷ [])
same_more header before before2 row row2 e h =
    map-append (λ e. field_of (with_offset header) e Id) before2 (row2 ∷ [])
    ∙ ap (λ t. t ++ field_of (with_offset header) row2 Id ∷ []) e
    ∙ ap (λ t. map (λ e. field_of header e Id) before ++ t ∷ []) h
    ∙ sym (map-append (λ e. field_of header e Id) before (row ∷ []))

-- rows that have no fault have none with their offsets
pub rows-good : (ids : List (List ℕ)) (header : Record) (before before2 rows : List Record) (os : List ℕ)
    → IsGood header
    → map (λ e. field_of (with_offset header) e Id) before2 ≡ map (λ e. field_of header e Id) before
    → rows_fault header before rows ≡ None → AllSmall os → AllIn ids header rows
    → layout_rows_fault ids (with_offset header) before2 (rows_with rows os) ≡ None
rows-good ids header before before2 [] os g same e small known = refl
rows-good ids header before before2 (row ∷ rows) [] g same e small known = refl
rows-good ids header before before2 (row ∷ rows) (o ∷ os) g same e small known =
    let (here, later) = neither (row_fault header before row) (rows_fault header (before ++ row ∷ []) rows) e in
    let id_good = (row_parts header before row here).0 in
    let (fine, id_is, value) = row-good ids header before before2 row o g same id_good small.0 known.0 in
    let rest = rows-good ids header (before ++ row ∷ []) (before2 ++ row_with row o ∷ []) rows os g
    (same_more header before before2 row (row_with row o) same id_is) later small.1 known.1 in
    rw (fine, rest) refl

-- each buffer's offset is the one that was written
pub offsets-are : (header : Record) (before before2 rows : List Record) (os : List ℕ) → IsGood header
    → map (λ e. field_of (with_offset header) e Id) before2 ≡ map (λ e. field_of header e Id) before
    → rows_fault header before rows ≡ None → AllSmall os → length os ≡ length rows
    → map (λ row. offset_of (with_offset header) (before2 ++ rows_with rows os) (field_of header row Id)) rows ≡ os
offsets-are header before before2 [] [] g same e small even = refl
offsets-are header before before2 [] (o ∷ os) g same e small even = absurd (omega arith)
offsets-are header before before2 (row ∷ rows) [] g same e small even = absurd (omega arith)
offsets-are header before before2 (row ∷ rows) (o ∷ os) g same e small even =
    let (here, later) = neither (row_fault header before row) (rows_fault header (before ++ row ∷ []) rows) e in
    let id_good = (row_parts header before row here).0 in
    let id = field_of header row Id in
    let (fine, id_is, value) = row-good (id ∷ []) header before before2 row o g same id_good small.0
    (rw (text_same id) refl) in
    let h2 = with_offset header in
    let row2 = row_with row o in
    let fresh : position (λ e. bytes_eq id (field_of h2 e Id)) before2 ≡ None =
    position-map (bytes_eq id) (λ e. field_of h2 e Id) before2 ∙ ap (position (bytes_eq id)) same
    ∙ sym (position-map (bytes_eq id) (λ e. field_of header e Id) before) ∙ new_id header before row id_good in
    let found : find (is_of h2 id) (before2 ++ row2 ∷ rows_with rows os) ≡ Some row2 =
    find_after (is_of h2 id) before2 row2 (rows_with rows os) (none_any (is_of h2 id) before2 fresh)
    (rw id_is (text_same id)) in
    let first : offset_of h2 (before2 ++ row2 ∷ rows_with rows os) id ≡ o = rw found (rw value refl) in
    let split : before2 ++ row2 ∷ rows_with rows os ≡ (before2 ++ row2 ∷ []) ++ rows_with rows os =
    sym (append_assoc before2 (row2 ∷ []) (rows_with rows os)) in
    let rest = offsets-are header (before ++ row ∷ []) (before2 ++ row2 ∷ []) rows os g
    (same_more header before before2 row row2 same id_is) later small.1 (omega arith) in
    ap (λ t. t ∷ map (λ r. offset_of h2 (before2 ++ row2 ∷ rows_with rows os) (field_of header r Id)) rows) first
    ∙ ap (λ t. o ∷ map (λ r. offset_of h2 t (field_of header r Id)) rows) split ∙ ap (λ t. o ∷ t) rest

-- each id of the rows is among those of all rows
all_in : (header : Record) (before rows : List Record)
    → AllIn (map (λ row. field_of header row Id) (before ++ rows)) header rows
all_in header before [] = tt
all_in header before (row ∷ rows) =
    let id = λ (r : Record). field_of header r Id in (
      rw (map-append id before (row ∷ rows))
          (any_after (bytes_eq (id row)) (map id before) (id row) (map id rows) (text_same (id row))),
      let h = all_in header (before ++ row ∷ []) rows in rw (append_assoc before (row ∷ []) rows) at h,
    )

-- each row's id has a row in these
abbrev AllThere : Record → List Record → List Record → Type 0
AllThere header rows2 [] = ⊤
AllThere header rows2 (row ∷ rows) = (list_any (is_of (with_offset header) (field_of header row Id)) rows2 ≡ true)
    × AllThere header rows2 rows

all_there : (header : Record) (before before2 rows : List Record) (os : List ℕ) → IsGood header
    → map (λ e. field_of (with_offset header) e Id) before2 ≡ map (λ e. field_of header e Id) before
    → rows_fault header before rows ≡ None → AllSmall os → length os ≡ length rows
    → AllThere header (before2 ++ rows_with rows os) rows
all_there header before before2 [] os g same e small even = tt
all_there header before before2 (row ∷ rows) [] g same e small even = absurd (omega arith)
all_there header before before2 (row ∷ rows) (o ∷ os) g same e small even =
    let (here, later) = neither (row_fault header before row) (rows_fault header (before ++ row ∷ []) rows) e in
    let id_good = (row_parts header before row here).0 in
    let id = field_of header row Id in
    let (fine, id_is, value) = row-good (id ∷ []) header before before2 row o g same id_good small.0
    (rw (text_same id) refl) in
    let row2 = row_with row o in
    let rest = all_there header (before ++ row ∷ []) (before2 ++ row2 ∷ []) rows os g
    (same_more header before before2 row row2 same id_is) later small.1 (omega arith) in (
      any_after (is_of (with_offset header) id) before2 row2 (rows_with rows os) (rw id_is (text_same id)),
      rw (append_assoc before2 (row2 ∷ []) (rows_with rows os)) at rest,
    )

none_missing : (header : Record) (rows2 rows : List Record) (i : ℕ) → AllThere header rows2 rows
    → position_from (λ id. not (list_any (is_of (with_offset header) id) rows2)) i
    (map (λ row. field_of header row Id) rows) ≡ None
none_missing header rows2 [] i h = refl
none_missing header rows2 (row ∷ rows) i h = rw h.0 (none_missing header rows2 rows (i + 1) h.1)

-- the offsets of the records of a layout are those that it was made of
pub offsets-back : (header : Record) (rows : List Record) (os : List ℕ) → header_fault header ≡ None
    → rows_fault header [] rows ≡ None → AllSmall os → length os ≡ length rows
    → parsed_offsets (ids_of (header ∷ rows)) (layout_records (header ∷ rows) os) ≡ Ok os
offsets-back header rows os h r small even =
    let g = good header h in
    let ids = ids_of (header ∷ rows) in
    let top = header-good header g in
    let body = rows-good ids header [] [] rows os g refl r small (all_in header [] rows) in
    let there = position_from-zero (λ id. not (list_any (is_of (with_offset header) id) (rows_with rows os))) ids
    ∙ none_missing header (rows_with rows os) rows 0 (all_there header [] [] rows os g refl r small even) in
    let are = offsets-are header [] [] rows os g refl r small even in
    let mapped : map (offset_of (with_offset header) (rows_with rows os)) ids ≡ os =
    sym (map-map (offset_of (with_offset header) (rows_with rows os)) (λ row. field_of header row Id) rows) ∙ are in
    rw (top, body, there) (ap Ok mapped)

parsed : {F B : Type 0} (o : Option F) (x : B) (b : B) → option_map_or Err o (Ok x) ≡ Ok b → o ≡ None
parsed None x b e = refl
parsed (Some f) x b e = cc e

-- what is written of a table that parses gives the offsets back
pub layout-back : (table : List Record) (b : List Buffer) (os : List ℕ) → parse table ≡ Ok b → AreOffsets os
    → length table ≡ length os + 1
    → parsed_offsets (ids_of table) (table_of (layout_text table os)) ≡ Ok os
layout-back [] b os e small even = cc e
layout-back ([] ∷ rows) b os e small even =
    let (h, r) = neither (header_fault []) (rows_fault [] [] rows)
    (parsed (option_or (header_fault []) (rows_fault [] [] rows)) (map (row_buffer []) rows) b e) in
    let g = good [] h in
    cc g.id_there
layout-back ((f ∷ fs) ∷ rows) b os e small even =
    let (h, r) = neither (header_fault (f ∷ fs)) (rows_fault (f ∷ fs) [] rows)
    (parsed (option_or (header_fault (f ∷ fs)) (rows_fault (f ∷ fs) [] rows))
    (map (row_buffer (f ∷ fs)) rows) b e) in
    let n = all_none (header_faults (f ∷ fs)) h in
    ap (parsed_offsets (ids_of ((f ∷ fs) ∷ rows))) (layout-read f fs rows os (not_so _ fault.MarkedHeader n.0))
    ∙ offsets-back (f ∷ fs) rows os h r (all_small os small) (omega arith)
