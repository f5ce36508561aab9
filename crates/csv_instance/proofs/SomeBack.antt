-- Some rows of a table that is an instance read back as they are, under its header.
use Rattle.std.proofs.Common.{◌≡◌, ◌+◌, ◌<◌, ◌≤◌, ◌∷◌, ◌++◌, ◌∙◌, ℕ, zero, suc, List, [], true, false, not, None, Ok, length, map, drop, slice_index_or, All, inl, inr, refl, sym, ap, subst, arith, nat_eq}
use Rattle.std.proofs.lemmas.Bool.{cases_Bool, eqb-true}
use Rattle.std.proofs.lemmas.List.{drop_more, length-map}
use Rattle.std.proofs.lemmas.Slice.Eq.{bytes_eq-Decides}
use Rattle.std.specs.List.{starts_with}
use Rattle.std.specs.Str.{bytes_eq}
use Rattle.csv.specs.Reading.{default_config, records}
use Rattle.csv.specs.Writing.{default_writer, read_back, row_text}
use Rattle.dsa_terms.specs.Buffers.{Buffer}
use Rattle.dsa_terms.specs.Claims.{IsIn, Rises}
use Rattle.dsa_terms.proofs.Places.{in_from_all}
use Rattle.dsa_model.specs.Chosen.{some_of}
use Rattle.dsa_model.proofs.Faults.{map_none, neither, not_so}
use Rattle.csv_instance.specs.Chosen.{chosen_records, chosen_text, rows_at}
use Rattle.csv_instance.specs.Columns.{has_column, name_of}
use Rattle.csv_instance.specs.Layout.{text_of}
use Rattle.csv_instance.specs.Parse.{header_fault, header_faults, parse, row_buffer, row_fault, rows_fault}
use Rattle.csv_instance.specs.Records.{Record, table_of}
use Rattle.csv_instance.specs.RowSteps.{id_faults}
use Rattle.csv_instance.specs.declared.columns.Column.{Column}
use Rattle.csv_instance.specs.declared.columns.Column.TheVariants.{Id, Lower, Upper, Size}
use Rattle.csv_instance.specs.declared.fault.InstanceFault.TheVariants as fault
use Rattle.csv_instance.proofs.Basics.{find_none, not_false}
use Rattle.csv_instance.proofs.IdLemmas.{all_none}
use Rattle.csv_instance.proofs.LayoutLaw.{good}
use Rattle.csv_instance.proofs.Mark.{mark, no_mark}
use Rattle.csv_instance.proofs.ReadBack.{AllReadBack, text-read}
use Rattle.csv_instance.proofs.RowStepLemmas.{row_parts}
use Rattle.csv_instance.proofs.SomeRows.{some_parse}
use Rattle.csv_instance.proofs.TableLemmas.{answered, faultless}

-- ---- the text row by row
pub chosen_text-at : (rows : List Record) (members : List ℕ) (p : ℕ) → p < length members →
    text_of (rows_at rows (drop p members))
    ≡ row_text default_writer (slice_index_or rows (slice_index_or members p 0) [])
    ++ text_of (rows_at rows (drop (p + 1) members))
chosen_text-at rows members p lt = ap (λ ms. text_of (rows_at rows ms)) (drop_more members p 0 lt)

-- ---- rows without a fault have fields
pub reads_back : (row : Record) → 1 ≤ length row → read_back row ≡ row
reads_back [] some = absurd (omega arith)
reads_back (x ∷ xs) some = refl

-- each row has as many fields as the header
pub even_rows : (header : Record) (before rows : List Record) (k : ℕ) → rows_fault header before rows ≡ None →
    k < length rows → length (slice_index_or rows k []) ≡ length header
even_rows header before [] k e lt = absurd (omega arith)
even_rows header before (row ∷ rows) zero e lt =
    let here = (neither (row_fault header before row) (rows_fault header (before ++ row ∷ []) rows) e).0 in
    let none = all_none (id_faults header before row) (row_parts header before row here).0 in
    eqb-true _ _ (not_false _ (not_so _ (fault.FieldCount (length before)) none.1.0))
even_rows header before (row ∷ rows) (suc k) e lt =
    even_rows header (before ++ row ∷ []) rows k
    (neither (row_fault header before row) (rows_fault header (before ++ row ∷ []) rows) e).1 (omega arith)

rows_read : (header : Record) (rows : List Record) (members : List ℕ) → 1 ≤ length header →
    rows_fault header [] rows ≡ None → ((b : ℕ) → IsIn b members → b < length rows) → AllReadBack (rows_at rows members)
rows_read header rows [] some e h = tt
rows_read header rows (k ∷ ks) some e h = (
  reads_back (slice_index_or rows k []) (rw (even_rows header [] rows k e (h k (inl refl))) some),
  rows_read header rows ks some e (λ j i. h j (inr i)),
)

-- ---- a header without a fault has two fields
one_field : (f : List ℕ) → has_column (f ∷ []) Id ≡ true → has_column (f ∷ []) Lower ≡ true → ⊥
one_field f i l = elim (cases_Bool (bytes_eq (name_of Id) f)) [
  | inl same ↦
      let e = (bytes_eq-Decides (name_of Id) f).0 same in
      cc (subst (λ g. has_column (g ∷ []) Lower ≡ true) (sym e) l)
  | inr other ↦ cc (rw other at i)
]

has_columns : (header : Record) → header_fault header ≡ None →
    (has_column header Id ≡ true) × (has_column header Lower ≡ true)
has_columns header e =
    let n = all_none (header_faults header) e in
    let missing = find_none (λ (c : Column). not (has_column header c)) Id (Lower ∷ Upper ∷ Size ∷ [])
    (map_none fault.MissingColumn _ n.1.1.1.0) in
    let later = find_none (λ (c : Column). not (has_column header c)) Lower (Upper ∷ Size ∷ []) missing.1 in
    (not_false _ missing.0, not_false _ later.0)

-- ---- the text reads back
-- records under a header without a fault read back, where each has a field
pub records_read : (header : Record) (rows : List Record) → header_fault header ≡ None → AllReadBack rows →
    table_of (text_of (header ∷ rows)) ≡ header ∷ rows
records_read [] rows e r = let g = good [] e in cc g.id_there
records_read (f ∷ []) rows e r = let both = has_columns (f ∷ []) e in absurd (one_field f both.0 both.1)
records_read (f ∷ g ∷ fs) rows e r =
    ap (records default_config) (no_mark f g fs (text_of rows) plain)
    ∙ text-read ((f ∷ g ∷ fs) ∷ rows) (refl, r)
  where
    plain : starts_with nat_eq f mark ≡ false
    plain = not_so _ fault.MarkedHeader (all_none (header_faults (f ∷ g ∷ fs)) e).0

-- a header without a fault has a field
pub some_columns : (header : Record) → header_fault header ≡ None → 1 ≤ length header
some_columns [] e = let g = good [] e in cc g.id_there
some_columns (f ∷ fs) e = omega arith

read_chosen : (header : Record) (rows : List Record) (members : List ℕ) → header_fault header ≡ None →
    rows_fault header [] rows ≡ None → ((b : ℕ) → IsIn b members → b < length rows) →
    table_of (chosen_text (header ∷ rows) members) ≡ header ∷ rows_at rows members
read_chosen header rows members e r h =
    records_read header (rows_at rows members) e (rows_read header rows members (some_columns header e) r h)

below_count : (table : List Record) (members : List ℕ) → All (λ b. b + 1 < length table) members → (b : ℕ) →
    IsIn b members → b + 1 < length table
below_count table members all b i = in_from_all (λ b. b + 1 < length table) members all b i

pub chosen_back : (table : List Record) (I : List Buffer) (members : List ℕ) → parse table ≡ Ok I →
    All (λ b. b + 1 < length table) members → table_of (chosen_text table members) ≡ chosen_records table members
chosen_back [] I members e all = cc e
chosen_back (header ∷ rows) I members e all =
    let none = faultless header rows I e in
    read_chosen header rows members none.0 none.1
    (λ b i. let lt = below_count (header ∷ rows) members all b i in omega arith)

pub chosen_parse : (table : List Record) (I : List Buffer) (members : List ℕ) → parse table ≡ Ok I → Rises members →
    All (λ b. b + 1 < length table) members → parse (table_of (chosen_text table members)) ≡ Ok (some_of I members)
chosen_parse [] I members e rises all = cc e
chosen_parse (header ∷ rows) I members e rises all =
    ap parse (chosen_back (header ∷ rows) I members e all)
    ∙ some_parse header rows I members e rises
    (λ b i. let lt = below_count (header ∷ rows) members all b i in let n = count in omega arith)
  where
    count : length I ≡ length rows
    count =
        sym (ap length (answered _ (map (row_buffer header) rows) I e)) ∙ length-map rows (row_buffer header)
