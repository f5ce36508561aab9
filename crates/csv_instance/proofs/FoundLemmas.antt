-- The offsets that were found, by buffer.
use Rattle.std.proofs.Common.{◌≡◌, ◌∙◌, ◌++◌, ◌+◌, ◌<◌, ℕ, zero, suc, List, [], ◌∷◌, Bool, not, cond, Option, Some, None, Result, Ok, Err, Vec, Global, arith, drop, find, get_or, is_some, length, map, option_and_then, option_map, position, refl, sym, ap, unwrap_or, inl, inr, append_assoc, add-one, length-append}
use Rattle.std.proofs.lemmas.Bool.{cases_Bool}
use Rattle.std.proofs.lemmas.Iterator.Adapters.{position_from-zero}
use Rattle.std.specs.List.{list_any, position_from}
use Rattle.std.specs.Option.{option_or}
use Rattle.std.specs.Str.{bytes_eq}
use Rattle.csv_instance.specs.Columns.{field_of}
use Rattle.csv_instance.specs.Found.{AreFound, AreOf, Entries, by_buffer, found_for}
use Rattle.csv_instance.specs.Offsets.{is_of, layout_header_fault, layout_row_fault, layout_rows_fault, offset_in, offset_of, parsed_offsets}
use Rattle.csv_instance.specs.Records.{Record}
use Rattle.csv_instance.specs.declared.columns.Column.TheVariants.{Id}
use Rattle.csv_instance.specs.declared.fault.OffsetsFault.{OffsetsFault}
use Rattle.csv_instance.specs.declared.fault.OffsetsFault.TheVariants as fault
use Rattle.csv_instance.specs.Found.{AreColumns}
use Rattle.csv_instance.specs.declared.offset_row.OffsetColumns.{OffsetColumns}
use Rattle.dsa_model.specs.Fails.{UnlessNoMemory}
use Rattle.dsa_model.specs.declared.fail.Fail.{Fail}
use Rattle.csv_instance.proofs.FailLemmas.{UnlessNoMemory-map}
use Rattle.csv_instance.proofs.GivesLemmas.{put-first, seen-more}
use Rattle.csv_instance.proofs.OffsetRows.{count_is}
use Rattle.csv_instance.proofs.IdLemmas.{map-map, position-map}
use Rattle.csv_instance.proofs.Basics.{option_or-assoc}
use Rattle.std.proofs.lemmas.List.{append-nil}

-- ---- rows with a fault

-- the first fault of rows is that of the first rows, or else that of the others
layout_rows-append : (ids : List (List ℕ)) (header : Record) (before xs ys : List Record)
    → layout_rows_fault ids header before (xs ++ ys) ≡ option_or (layout_rows_fault ids header before xs)
    (layout_rows_fault ids header (before ++ xs) ys)
layout_rows-append ids header before [] ys = ap (λ (t : List Record). layout_rows_fault ids header t ys)
    (sym (append-nil before))
layout_rows-append ids header before (x ∷ xs) ys =
    ap (λ (t : Option OffsetsFault). option_or (layout_row_fault ids header before x) t)
    (layout_rows-append ids header (before ++ x ∷ []) xs ys
    ∙ ap (λ (t : List Record). option_or (layout_rows_fault ids header (before ++ x ∷ []) xs)
    (layout_rows_fault ids header t ys)) (append_assoc before (x ∷ []) xs))
    ∙ option_or-assoc (layout_row_fault ids header before x) (layout_rows_fault ids header (before ++ x ∷ []) xs)
    (layout_rows_fault ids header (before ++ (x ∷ xs)) ys)

-- one more row without a fault
pub layout_rows-more : (ids : List (List ℕ)) (header : Record) (rows : List Record) (row : Record)
    → layout_rows_fault ids header [] rows ≡ None → layout_row_fault ids header rows row ≡ None
    → layout_rows_fault ids header [] (rows ++ row ∷ []) ≡ None
layout_rows-more ids header rows row r e = layout_rows-append ids header [] rows (row ∷ []) ∙ rw (r, e) refl

-- a header with a fault
pub offsets-header : (ids : List (List ℕ)) (header : Record) (rest : List Record) (f : OffsetsFault)
    → layout_header_fault header ≡ Some f → parsed_offsets ids (header ∷ rest) ≡ Err f
offsets-header ids header rest f h = rw h refl

-- the first row with a fault
pub offsets-fault : (ids : List (List ℕ)) (header : Record) (rows : List Record) (row : Record) (rest : List Record)
    (f : OffsetsFault) → layout_header_fault header ≡ None
    → layout_rows_fault ids header [] rows ≡ None → layout_row_fault ids header rows row ≡ Some f
    → parsed_offsets ids ((header ∷ rows) ++ row ∷ rest) ≡ Err f
offsets-fault ids header rows row rest f h r e =
    let whole : layout_rows_fault ids header [] (rows ++ row ∷ rest) ≡ Some f =
    layout_rows-append ids header [] rows (row ∷ rest) ∙ rw (r, e) refl in
    rw (h, whole) refl

-- the records so far have no fault, these are the ids and the offsets of their rows, and the others are left
pub record IsReading (ids : List (List ℕ)) (table : List Record) (columns : OffsetColumns) (entries : Entries)
    (left : List Record) : Type 0 where
  pub header : Record
  pub before : List Record
  pub records : table ≡ (header ∷ before) ++ left
  pub header_good : layout_header_fault header ≡ None
  pub columns_are : AreColumns header columns
  pub rows_good : layout_rows_fault ids header [] before ≡ None
  pub entries_are : AreOf header before entries

module _ {ids : List (List ℕ)} {table : List Record} {columns : OffsetColumns} {old : Entries} {left : List Record}
    (r : IsReading ids table columns old left) where
  pub reading-more : (row : Record) (more : List Record) (new : Entries) → left ≡ row ∷ more
      → layout_row_fault ids r.header r.before row ≡ None → AreOf r.header (r.before ++ row ∷ []) new
      → IsReading ids table columns new more
  reading-more row more new first fine are = record {
    header = r.header;
    before = r.before ++ row ∷ [];
    records = seen-more table (r.header ∷ r.before) left more row r.records first;
    header_good = r.header_good;
    columns_are = r.columns_are;
    rows_good = layout_rows-more ids r.header r.before row r.rows_good fine;
    entries_are = are;
  }

  pub reading-fault : (row : Record) (more : List Record) (f : OffsetsFault) → left ≡ row ∷ more
      → layout_row_fault ids r.header r.before row ≡ Some f → parsed_offsets ids table ≡ Err f
  reading-fault row more f first bad =
      ap (parsed_offsets ids) (put-first table (r.header ∷ r.before) left more row r.records first)
      ∙ offsets-fault ids r.header r.before row more f r.header_good r.rows_good bad

  pub reading-end : left ≡ [] → AreFound ids table old
  reading-end none = record {
    header = r.header;
    rows = r.before;
    records = r.records ∙ ap (λ (t : List Record). (r.header ∷ r.before) ++ t) none ∙ append-nil (r.header ∷ r.before);
    header_good = r.header_good;
    rows_good = r.rows_good;
    entries_are = r.entries_are;
  }

  pub reading-few : length old < length table
  reading-few = let rows = count_is r.header r.before old r.entries_are in let all = ap length r.records
      ∙ length-append (r.header ∷ r.before) left in omega arith

-- ---- by buffer

head_or : {A : Type 0} → A → List A → A
head_or d [] = d
head_or d (x ∷ xs) = x

tail_of : {A : Type 0} → List A → List A
tail_of [] = []
tail_of (x ∷ xs) = xs

-- it is that of the first row with the id
found_is : (header : Record) (rows : List Record) (entries : Entries) (id : List ℕ) → AreOf header rows entries
    → found_for entries id ≡ option_map (λ row. unwrap_or (offset_in header row) 0) (find (is_of header id) rows)
unfolding head_or tail_of
found_is header [] [] id are = refl
found_is header (row ∷ rows) [] id are = cc are
found_is header [] (e ∷ es) id are = cc are
found_is header (row ∷ rows) (e ∷ es) id are =
    let first : e.0.items ≡ field_of header row Id = ap (λ (l : List (List ℕ × ℕ)). (head_or ([], 0) l).0) are in
    let value : e.1 ≡ unwrap_or (offset_in header row) 0 = ap (λ (l : List (List ℕ × ℕ)). (head_or ([], 0) l).1) are in
    let rest : AreOf header rows es = ap tail_of are in
    elim (cases_Bool (bytes_eq id (field_of header row Id))) [
      | inl same ↦ rw (first, same) (ap Some value)
      | inr other ↦ rw (first, other) (found_is header rows es id rest)
    ]

some_found : {A : Type 0} (p : A → Bool) (xs : List A) → is_some (find p xs) ≡ list_any p xs
some_found p [] = refl
some_found p (x ∷ xs) = elim (cases_Bool (p x)) [
  | inl same ↦ rw same refl
  | inr other ↦ rw other (some_found p xs)
]

some_mapped : {A B : Type 0} (f : A → B) (o : Option A) → is_some (option_map f o) ≡ is_some o
some_mapped f None = refl
some_mapped f (Some x) = refl

of_found : (header : Record) (o : Option Record) → unwrap_or (option_and_then (offset_in header) o) 0
    ≡ unwrap_or (option_map (λ row. unwrap_or (offset_in header row) 0) o) 0
of_found header None = refl
of_found header (Some row) = refl

from_same : {A : Type 0} (p q : A → Bool) (i : ℕ) (xs : List A) → ((x : A) → p x ≡ q x)
    → position_from p i xs ≡ position_from q i xs
from_same p q i [] h = refl
from_same p q i (x ∷ xs) h = rw (h x) (ap (cond (q x) (Some i)) (from_same p q (i + 1) xs h))

map_same_as : {A B : Type 0} (f g : A → B) (xs : List A) → ((x : A) → f x ≡ g x) → map f xs ≡ map g xs
map_same_as f g [] h = refl
map_same_as f g (x ∷ xs) h = rw (h x) (ap (λ t. g x ∷ t) (map_same_as f g xs h))

unwrapped : (os : List ℕ) → map (λ o. unwrap_or o 0) (map Some os) ≡ os
unwrapped [] = refl
unwrapped (o ∷ os) = ap (λ t. o ∷ t) (unwrapped os)

all_are : (i : ℕ) (os : List ℕ) → position_from (λ o. not (is_some o)) i (map Some os) ≡ None
all_are i [] = refl
all_are i (o ∷ os) = all_are (i + 1) os

module _ (keys : List (Vec ℕ Global)) (table : List Record) (entries : Entries)
    (f : AreFound (map (λ k. k.items) keys) table entries) where
  -- the first id without a row is the first without an offset
  missing_is : position (λ id. not (list_any (is_of f.header id) f.rows)) (map (λ k. k.items) keys)
      ≡ position (λ o. not (is_some o)) (by_buffer keys entries)
  missing_is =
      sym (position-map (λ id. not (list_any (is_of f.header id) f.rows)) (λ k. k.items) keys)
      ∙ position_from-zero (λ k. not (list_any (is_of f.header k.items) f.rows)) keys
      ∙ from_same (λ k. not (list_any (is_of f.header k.items) f.rows))
      (λ k. not (is_some (found_for entries k.items))) 0 keys
      (λ k. ap not (sym (ap is_some (found_is f.header f.rows entries k.items f.entries_are)
      ∙ some_mapped (λ row. unwrap_or (offset_in f.header row) 0) _
      ∙ some_found (is_of f.header k.items) f.rows)))
      ∙ sym (position_from-zero (λ k. not (is_some (found_for entries k.items))) keys)
      ∙ position-map (λ o. not (is_some o)) (λ (k : Vec ℕ Global). found_for entries k.items) keys

  -- an id without one
  pub offsets-missing : (g : OffsetsFault)
      → option_map fault.MissingId (position (λ o. not (is_some o)) (by_buffer keys entries)) ≡ Some g
      → parsed_offsets (map (λ k. k.items) keys) table ≡ Err g
  offsets-missing g h = rw (f.records, f.header_good, f.rows_good, missing_is, h) refl

  -- an offset for each
  pub offsets-all : (os : List ℕ) → map Some os ≡ by_buffer keys entries
      → parsed_offsets (map (λ k. k.items) keys) table ≡ Ok os
  offsets-all os h =
      let none : position (λ o. not (is_some o)) (by_buffer keys entries) ≡ None =
      ap (position (λ o. not (is_some o))) (sym h) ∙ position_from-zero (λ o. not (is_some o)) (map Some os)
      ∙ all_are 0 os in
      let each : map (offset_of f.header f.rows) (map (λ k. k.items) keys) ≡ os =
      sym (map-map (offset_of f.header f.rows) (λ k. k.items) keys)
      ∙ map_same_as (λ k. offset_of f.header f.rows k.items) (λ k. unwrap_or (found_for entries k.items) 0) keys
      (λ k. of_found f.header _
      ∙ ap (λ (o : Option ℕ). unwrap_or o 0) (sym (found_is f.header f.rows entries k.items f.entries_are)))
      ∙ map-map (λ o. unwrap_or o 0) (λ (k : Vec ℕ Global). found_for entries k.items) keys
      ∙ ap (map (λ o. unwrap_or o 0)) (sym h) ∙ unwrapped os in
      rw (f.records, f.header_good, f.rows_good, missing_is, none) (ap Ok each)

-- the answer by buffer is that of the file
pub read-all : (keys : List (Vec ℕ Global)) (ids : List (List ℕ)) (table : List Record) (entries : Entries)
    → map (λ k. k.items) keys ≡ ids → AreFound (map (λ k. k.items) keys) table entries
    → (r : Result (Vec ℕ Global) (Fail OffsetsFault))
    → UnlessNoMemory r (λ v. map Some v.items ≡ by_buffer keys entries)
    (λ g. option_map fault.MissingId (position (λ o. not (is_some o)) (by_buffer keys entries)) ≡ Some g)
    → UnlessNoMemory r (λ v. parsed_offsets ids table ≡ Ok v.items) (λ g. parsed_offsets ids table ≡ Err g)
read-all keys ids table entries same f r h =
    rw (← same) (UnlessNoMemory-map r (λ v all. offsets-all keys table entries f v.items all)
    (λ g missing. offsets-missing keys table entries f g missing) h)

-- ---- the loop over the ids

after_all : (i : ℕ) (os : List ℕ) (rest : List (Option ℕ))
    → position_from (λ o. not (is_some o)) i (map Some os ++ None ∷ rest) ≡ Some (i + length os)
after_all i [] rest = ap Some (let z : i ≡ i + 0 = omega arith in z)
after_all i (o ∷ os) rest = after_all (i + 1) os rest
    ∙ ap Some (let z : i + 1 + length os ≡ i + suc (length os) = omega arith in z)

-- the first that is none stands behind those that are not
pub first-missing : (whole : List (Option ℕ)) (os : List ℕ) (rest : List (Option ℕ))
    → whole ≡ map Some os ++ None ∷ rest → position (λ o. not (is_some o)) whole ≡ Some (length os)
first-missing whole os rest h = ap (position (λ o. not (is_some o))) h
    ∙ position_from-zero (λ o. not (is_some o)) (map Some os ++ None ∷ rest) ∙ after_all 0 os rest
    ∙ ap Some (let z : 0 + length os ≡ length os = omega arith in z)

-- the items from a place on
pub map_from-place : {A B : Type 0} (f : A → B) (xs : List A) (k : ℕ) (x : A) → k < length xs → x ≡ get_or xs k x
    → map f (drop k xs) ≡ f x ∷ map f (drop (k + 1) xs)
map_from-place f xs k x h e = rw add-one (go f xs k x h e)
  where
    go : {A B : Type 0} (f : A → B) (xs : List A) (k : ℕ) (x : A) → k < length xs → x ≡ get_or xs k x
        → map f (drop k xs) ≡ f x ∷ map f (drop (suc k) xs)
    go f [] k x h e = absurd (omega arith)
    go f (y ∷ xs) zero x h e = ap (λ z. f z ∷ map f xs) (sym e)
    go f (y ∷ xs) (suc k) x h e = go f xs k x (omega arith) e

-- one more that is some
pub put-some : {A : Type 0} (os : List A) (o : A) (rest : List (Option A))
    → map Some os ++ Some o ∷ rest ≡ map Some (os ++ o ∷ []) ++ rest
put-some [] o rest = refl
put-some (x ∷ os) o rest = ap (λ t. Some x ∷ t) (put-some os o rest)
