-- A table that is an instance, with one more row.
use Rattle.std.proofs.Common.{◌≡◌, ◌++◌, ◌∷◌, ◌∙◌, ℕ, List, [], Option, Some, None, Ok, Err, get_or, length, map, refl, sym, ap, subst}
use Rattle.std.proofs.lemmas.List.{length-map, map-append}
use Rattle.std.specs.Option.{option_or}
use Rattle.dsa_terms.specs.Buffers.{Buffer, buffer, no_buffer}
use Rattle.dsa_model.specs.Buffer.{buffer_fault}
use Rattle.dsa_model.specs.declared.buffer_fault.BufferFault.{BufferFault}
use Rattle.dsa_model.proofs.Faults.{neither}
use Rattle.csv_instance.specs.Parse.{header_fault, parse, row_buffer, row_fault, rows_fault}
use Rattle.csv_instance.specs.Records.{Record}
use Rattle.csv_instance.specs.RowSteps.{form_fault, id_fault}
use Rattle.csv_instance.specs.Rows.{parse_rows, row_form_fault, rows_form_fault, values_of}
use Rattle.csv_instance.specs.declared.fault.InstanceFault.{InstanceFault}
use Rattle.csv_instance.specs.declared.fault.InstanceFault.TheVariants as fault
use Rattle.csv_instance.proofs.OffsetLemmas.{get-last}
use Rattle.csv_instance.proofs.RowLemmas.{form-append, readable}
use Rattle.csv_instance.proofs.RowStepLemmas.{content-buffer, content-none, form_parts, row-content}
use Rattle.csv_instance.proofs.TableLemmas.{answered, faultless, parse-fault, parse-good, refused, rows-more}

-- ---- the last row
-- what the last row says
last_told : (header : Record) (rows : List Record) (row : Record) (n : ℕ) → n ≡ length rows →
    buffer (values_of ((header ∷ rows) ++ row ∷ [])) n ≡ row_buffer header row
unfolding buffer
last_told header rows row n is =
    let at : n ≡ length (map (row_buffer header) rows) = is ∙ sym (length-map rows (row_buffer header)) in
    ap (λ (bs : List Buffer). get_or bs n no_buffer) (map-append (row_buffer header) rows (row ∷ []))
    ∙ rw at (get-last (map (row_buffer header) rows) (row_buffer header row) no_buffer)

-- it has no fault where all rows can be read
last_read : (header : Record) (rows : List Record) (row : Record) (bs : List Buffer) →
    parse_rows ((header ∷ rows) ++ row ∷ []) ≡ Ok bs →
    (id_fault header rows row ≡ None) × (form_fault header (length rows) row ≡ None)
last_read header rows row bs e =
    let all = (readable header (rows ++ row ∷ []) bs e).1 in
    let here = (neither (rows_form_fault header [] rows) (rows_form_fault header rows (row ∷ []))
    (sym (form-append header [] rows (row ∷ [])) ∙ all)).1 in
    form_parts header rows row (neither (row_form_fault header rows row) None here).0

row_count : (header : Record) (rows : List Record) (I : List Buffer) → parse (header ∷ rows) ≡ Ok I →
    length I ≡ length rows
row_count header rows I e =
    sym (ap length (answered _ (map (row_buffer header) rows) I e)) ∙ length-map rows (row_buffer header)

-- ---- it tells of a buffer
pub one_more : (table : List Record) (row : Record) (I bs : List Buffer) → parse table ≡ Ok I →
    parse_rows (table ++ row ∷ []) ≡ Ok bs →
    buffer_fault (buffer (values_of (table ++ row ∷ [])) (length I)) ≡ None →
    parse (table ++ row ∷ []) ≡ Ok (I ++ buffer (values_of (table ++ row ∷ [])) (length I) ∷ [])
one_more [] row I bs e r b = cc e
one_more (header ∷ rows) row I bs e r b =
    let (good, fine) = faultless header rows I e in
    let (id, form) = last_read header rows row bs r in
    let last = last_told header rows row (length I) (row_count header rows I e) in
    let content = content-none header (length rows) row form (subst (λ (t : Buffer). buffer_fault t ≡ None) last b) in
    parse-good header (rows ++ row ∷ []) good
    (rows-more header rows row fine (row-content header rows row None id content))
    ∙ ap Ok (map-append (row_buffer header) rows (row ∷ [])
    ∙ ap (λ (t : List Buffer). t ++ row_buffer header row ∷ []) (answered _ (map (row_buffer header) rows) I e)
    ∙ ap (λ (t : Buffer). I ++ t ∷ []) (sym last))

-- ---- it has a fault
pub no_buffer_more : (table : List Record) (row : Record) (I bs : List Buffer) (f : BufferFault) → parse table ≡ Ok I →
    parse_rows (table ++ row ∷ []) ≡ Ok bs →
    buffer_fault (buffer (values_of (table ++ row ∷ [])) (length I)) ≡ Some f → (rest : List Record) →
    parse (table ++ row ∷ rest) ≡ Err (fault.BadBuffer (length I) f)
no_buffer_more [] row I bs f e r b rest = cc e
no_buffer_more (header ∷ rows) row I bs f e r b rest =
    let (good, fine) = faultless header rows I e in
    let (id, form) = last_read header rows row bs r in
    let count = row_count header rows I e in
    let told = subst (λ (t : Buffer). buffer_fault t ≡ Some f) (last_told header rows row (length I) count) b in
    let content = content-buffer header (length rows) row f form told in
    rw count (parse-fault header rows row rest (fault.BadBuffer (length rows) f) good fine
    (row-content header rows row (Some (fault.BadBuffer (length rows) f)) id content))

-- rows without a fault can be read
all_read : (header : Record) (before rows : List Record) → rows_fault header before rows ≡ None →
    rows_form_fault header before rows ≡ None
all_read header before [] e = refl
all_read header before (row ∷ rows) e =
    let (here, later) = neither (row_fault header before row) (rows_fault header (before ++ row ∷ []) rows) e in
    let form = (neither (row_form_fault header before row) _ here).0 in
    rw form (all_read header (before ++ row ∷ []) rows later)

-- a row that can't be read has that fault
unread_row : (header : Record) (rows : List Record) (row : Record) (f : InstanceFault) →
    row_form_fault header rows row ≡ Some f → row_fault header rows row ≡ Some f
unread_row header rows row f e = rw e refl

or_none : {A : Type 0} (o : Option A) → option_or o None ≡ o
or_none None = refl
or_none (Some x) = refl

pub unread_more : (table : List Record) (row : Record) (I : List Buffer) (f : InstanceFault) → parse table ≡ Ok I →
    ((rest : List Record) → parse_rows (table ++ row ∷ rest) ≡ Err f) → (rest : List Record) →
    parse (table ++ row ∷ rest) ≡ Err f
unread_more [] row I f e r rest = cc e
unread_more (header ∷ rows) row I f e r rest =
    let (good, fine) = faultless header rows I e in
    let whole : option_or (header_fault header) (rows_form_fault header [] (rows ++ row ∷ [])) ≡ Some f =
    refused _ (map (row_buffer header) (rows ++ row ∷ [])) f (r []) in
    let later : rows_form_fault header [] (rows ++ row ∷ []) ≡ Some f =
    sym (ap (λ (o : Option InstanceFault). option_or o (rows_form_fault header [] (rows ++ row ∷ []))) good) ∙ whole in
    let here : row_form_fault header rows row ≡ Some f = sym (or_none (row_form_fault header rows row))
    ∙ sym (ap (λ (o : Option InstanceFault). option_or o (option_or (row_form_fault header rows row) None))
    (all_read header [] rows fine))
    ∙ sym (form-append header [] rows (row ∷ [])) ∙ later in
    parse-fault header rows row rest f good fine (unread_row header rows row f here)
