-- Rows that can be read, row by row.
use Rattle.std.proofs.Common.{◌≡◌, ◌++◌, ◌∷◌, ◌∙◌, List, [], Option, Some, None, Ok, Err, map, refl, sym, ap, subst, inl, inr, append_assoc}
use Rattle.std.proofs.lemmas.List.{append-nil}
use Rattle.std.specs.Option.{option_or}
use Rattle.csv_instance.specs.Records.{Record}
use Rattle.csv_instance.specs.Parse.{header_fault, parse, row_buffer, rows_fault}
use Rattle.csv_instance.specs.Rows.{parse_rows, row_form_fault, rows_form_fault, values_of}
use Rattle.csv_instance.specs.declared.fault.InstanceFault.{InstanceFault}
use Rattle.dsa_model.specs.Buffer.{buffer_fault}
use Rattle.csv_instance.proofs.Basics.{option_or-assoc}
use Rattle.csv_instance.proofs.TableLemmas.{answered, parse-good, parsed}
use Rattle.dsa_model.proofs.Faults.{neither}
use Rattle.dsa_terms.specs.Buffers.{Buffer}
use Rattle.dsa_terms.specs.Claims.{IsIn}

-- the first fault of rows is that of the first rows, or else that of the others
pub form-append : (header : Record) (before xs ys : List Record)
    → rows_form_fault header before (xs ++ ys) ≡ option_or (rows_form_fault header before xs)
    (rows_form_fault header (before ++ xs) ys)
form-append header before [] ys = ap (λ (t : List Record). rows_form_fault header t ys) (sym (append-nil before))
form-append header before (x ∷ xs) ys =
    ap (λ (t : Option InstanceFault). option_or (row_form_fault header before x) t)
    (form-append header (before ++ x ∷ []) xs ys
    ∙ ap (λ (t : List Record). option_or (rows_form_fault header (before ++ x ∷ []) xs) (rows_form_fault header t ys))
    (append_assoc before (x ∷ []) xs))
    ∙ option_or-assoc (row_form_fault header before x) (rows_form_fault header (before ++ x ∷ []) xs)
    (rows_form_fault header (before ++ (x ∷ xs)) ys)

-- rows without a fault
pub rows-good : (header : Record) (rows : List Record) → header_fault header ≡ None
    → rows_form_fault header [] rows ≡ None
    → parse_rows (header ∷ rows) ≡ Ok (map (row_buffer header) rows)
rows-good header rows h r = rw (h, r) refl

-- a header that has a fault, and one that has none
pub bad_header : (header : Record) (rows : List Record) (f : InstanceFault) → header_fault header ≡ Some f →
    (parse (header ∷ rows) ≡ Err f) × (parse_rows (header ∷ rows) ≡ Err f)
bad_header header rows f e = rw e (refl, refl)

pub no_rows : (header : Record) → header_fault header ≡ None → parse (header ∷ []) ≡ Ok []
no_rows header e = parse-good header [] e refl

-- rows that are read have no fault
pub readable : (header : Record) (rows : List Record) (bs : List Buffer) → parse_rows (header ∷ rows) ≡ Ok bs →
    (header_fault header ≡ None) × (rows_form_fault header [] rows ≡ None)
readable header rows bs e =
    neither (header_fault header) (rows_form_fault header [] rows)
    (parsed (option_or (header_fault header) (rows_form_fault header [] rows)) (map (row_buffer header) rows) bs e)

-- one more row without a fault
pub form-more : (header : Record) (rows : List Record) (row : Record) → rows_form_fault header [] rows ≡ None
    → row_form_fault header rows row ≡ None → rows_form_fault header [] (rows ++ row ∷ []) ≡ None
form-more header rows row r e = form-append header [] rows (row ∷ []) ∙ rw (r, e) refl

-- the first row with a fault
pub rows-fault : (header : Record) (rows : List Record) (row : Record) (rest : List Record) (f : InstanceFault)
    → header_fault header ≡ None → rows_form_fault header [] rows ≡ None
    → row_form_fault header rows row ≡ Some f → parse_rows ((header ∷ rows) ++ row ∷ rest) ≡ Err f
rows-fault header rows row rest f h r e =
    let whole : rows_form_fault header [] (rows ++ row ∷ rest) ≡ Some f = form-append header [] rows (row ∷ rest)
    ∙ rw (r, e) refl in
    rw (h, whole) refl

-- rows that can be read and are all buffers have no fault
buffers-good : (header : Record) (before rows : List Record) → rows_form_fault header before rows ≡ None
    → ((b : Buffer) → IsIn b (map (row_buffer header) rows) → buffer_fault b ≡ None)
    → rows_fault header before rows ≡ None
buffers-good header before [] e sound = refl
buffers-good header before (row ∷ rows) e sound =
    let (here, later) = neither (row_form_fault header before row)
    (rows_form_fault header (before ++ row ∷ []) rows) e in
    let rest = buffers-good header (before ++ row ∷ []) rows later (λ b i. sound b (inr i)) in
    rw (here, sound (row_buffer header row) (inl refl)) rest

-- a table whose rows are all buffers is an instance
pub rows-parse : (table : List Record) (I : List Buffer) → parse_rows table ≡ Ok I
    → ((b : Buffer) → IsIn b I → buffer_fault b ≡ None) → parse table ≡ Ok I
rows-parse [] I e sound = cc e
rows-parse (header ∷ rows) I e sound =
    let (good, fine) = readable header rows I e in
    let is : map (row_buffer header) rows ≡ I = answered _ (map (row_buffer header) rows) I e in
    parse-good header rows good (buffers-good header [] rows fine
    (λ b i. sound b (subst (λ (J : List Buffer). IsIn b J) is i)))
    ∙ ap Ok is

-- what rows say is what is read of them
pub values-are : (table : List Record) (rows : List Buffer) → parse_rows table ≡ Ok rows → values_of table ≡ rows
values-are [] rows e = cc e
values-are (header ∷ rs) rows e = answered _ (map (row_buffer header) rs) rows e
