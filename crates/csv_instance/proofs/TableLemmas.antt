-- A table row by row.
use Rattle.std.proofs.Common.{zero, suc, get_or, ◌≡◌, ◌≢◌, ◌≤◌, ◌<◌, ◌++◌, ◌∷◌, ◌∙◌, ℕ, List, [], Option, Some, None, Ok, Err, length, map, refl, sym, ap, append_assoc, arith, false}
use Rattle.std.proofs.lemmas.List.{append-nil}
use Rattle.std.specs.Option.{option_map_or, option_or}
use Rattle.csv_instance.specs.Records.{Record}
use Rattle.csv_instance.specs.Parse.{row_buffer, header_fault, row_fault, rows_fault, parse}
use Rattle.std.specs.Prelude.{nat_lt, ◌==◌}
use Rattle.std.proofs.lemmas.Bool.Decides.{nat_tests}
use Rattle.dsa_model.specs.Buffer.{buffer_limit}
use Rattle.dsa_terms.specs.Buffers.{Buffer}
use Rattle.dsa_model.proofs.Faults.{neither, not_so}
use Rattle.csv_instance.specs.Columns.{field_of}
use Rattle.csv_instance.specs.RowSteps.{id_fault, id_faults}
use Rattle.csv_instance.specs.declared.columns.Column.TheVariants.{Id}
use Rattle.csv_instance.specs.declared.fault.InstanceFault.{InstanceFault}
use Rattle.csv_instance.specs.declared.fault.InstanceFault.TheVariants as fault
use Rattle.csv_instance.proofs.Basics.{option_or-assoc}
use Rattle.csv_instance.proofs.IdLemmas.{all_none}
use Rattle.csv_instance.proofs.RowStepLemmas.{row_parts}

-- what is answered where nothing is wrong, or what is wrong
pub parsed : {F B : Type 0} (o : Option F) (x : B) (b : B) → option_map_or Err o (Ok x) ≡ Ok b → o ≡ None
parsed None x b e = refl
parsed (Some f) x b e = cc e

pub answered : {F A : Type 0} (o : Option F) (x y : A) → option_map_or Err o (Ok x) ≡ Ok y → x ≡ y
answered None x y e = cc
answered (Some f) x y e = cc e

pub refused : {F A : Type 0} (o : Option F) (x : A) (f : F) → option_map_or Err o (Ok x) ≡ Err f → o ≡ Some f
refused None x f e = cc e
refused (Some g) x f e = cc

-- the first fault of rows is that of the first rows, or else that of the others
pub rows-append : (header : Record) (before xs ys : List Record)
    → rows_fault header before (xs ++ ys) ≡ option_or (rows_fault header before xs)
    (rows_fault header (before ++ xs) ys)
rows-append header before [] ys = ap (λ (t : List Record). rows_fault header t ys) (sym (append-nil before))
rows-append header before (x ∷ xs) ys =
    ap (λ (t : Option InstanceFault). option_or (row_fault header before x) t)
    (rows-append header (before ++ x ∷ []) xs ys
    ∙ ap (λ (t : List Record). option_or (rows_fault header (before ++ x ∷ []) xs) (rows_fault header t ys))
    (append_assoc before (x ∷ []) xs))
    ∙ option_or-assoc (row_fault header before x) (rows_fault header (before ++ x ∷ []) xs)
    (rows_fault header (before ++ (x ∷ xs)) ys)

-- a table without a fault
pub parse-good : (header : Record) (rows : List Record) → header_fault header ≡ None → rows_fault header [] rows ≡ None
    → parse (header ∷ rows) ≡ Ok (map (row_buffer header) rows)
parse-good header rows h r = rw (h, r) refl

-- one more row without a fault
pub rows-more : (header : Record) (rows : List Record) (row : Record) → rows_fault header [] rows ≡ None
    → row_fault header rows row ≡ None → rows_fault header [] (rows ++ row ∷ []) ≡ None
rows-more header rows row r e = rows-append header [] rows (row ∷ []) ∙ rw (r, e) refl

-- a table that is an instance has no fault
pub faultless : (header : Record) (rows : List Record) (I : List Buffer) → parse (header ∷ rows) ≡ Ok I →
    (header_fault header ≡ None) × (rows_fault header [] rows ≡ None)
faultless header rows I e =
    neither (header_fault header) (rows_fault header [] rows)
    (parsed (option_or (header_fault header) (rows_fault header [] rows)) (map (row_buffer header) rows) I e)

-- the first row with a fault
pub parse-fault : (header : Record) (rows : List Record) (row : Record) (rest : List Record) (f : InstanceFault)
    → header_fault header ≡ None → rows_fault header [] rows ≡ None
    → row_fault header rows row ≡ Some f → parse ((header ∷ rows) ++ row ∷ rest) ≡ Err f
parse-fault header rows row rest f h r e =
    let whole : rows_fault header [] (rows ++ row ∷ rest) ≡ Some f = rows-append header [] rows (row ∷ rest)
    ∙ rw (r, e) refl in
    rw (h, whole) refl

-- there is room for a row that is not one too many
pub room : (header : Record) (rows : List Record) (row : Record) → id_fault header rows row ≡ None →
    length rows ≢ buffer_limit
room header rows row e full = cc (rw full at e)

pub none_left : {A : Type 0} (o : Option A) → ((x : A) → o ≡ Some x → ⊥) → o ≡ None
none_left None n = refl
none_left (Some x) n = absurd (n x refl)

-- the id of a row without a fault
pub id-limits : (header : Record) (before rows : List Record) (b : ℕ) → rows_fault header before rows ≡ None
    → b < length rows
    → (1 ≤ length (field_of header (get_or rows b []) Id)) × (length (field_of header (get_or rows b []) Id) ≤ 255)
id-limits header before [] b e h = absurd (omega arith)
id-limits header before (row ∷ rows) zero e h =
    let here = (neither (row_fault header before row) (rows_fault header (before ++ row ∷ []) rows) e).0 in
    let none = all_none (id_faults header before row) (row_parts header before row here).0 in (
      some_byte _ (not_so _ (fault.EmptyId (length before)) none.1.1.0),
      few_bytes _ (not_so _ (fault.IdTooLong (length before)) none.1.1.1.0),
    )
  where
    some_byte : (n : ℕ) → (n == 0) ≡ false → 1 ≤ n
    some_byte n h = grind (arith, nat_tests)

    few_bytes : (n : ℕ) → nat_lt 255 n ≡ false → n ≤ 255
    few_bytes n h = grind (arith, nat_tests)
id-limits header before (row ∷ rows) (suc b) e h =
    id-limits header (before ++ row ∷ []) rows b
    (neither (row_fault header before row) (rows_fault header (before ++ row ∷ []) rows) e).1 (omega arith)
