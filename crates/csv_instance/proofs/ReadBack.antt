-- What is written reads back as it was.
use Rattle.std.proofs.Common.{◌≡◌, ◌++◌, ◌∷◌, ◌∙◌, ℕ, List, [], false, refl, sym, ap, nat_eq}
use Rattle.std.specs.Prelude.{⊤}
use Rattle.std.specs.List.{starts_with}
use Rattle.csv.specs.Reading.{default_config, records}
use Rattle.csv.specs.Writing.{read_back}
use Rattle.csv.specs.declared.parser.State.TheVariants as st
use Rattle.csv.proofs.RoundTrip.{read-write}
use Rattle.csv_instance.specs.Gives.{records_left}
use Rattle.csv_instance.specs.Layout.{layout_records, layout_text, rows_with, text_of}
use Rattle.csv_instance.specs.Records.{Record, table_of}
use Rattle.csv_instance.proofs.Mark.{mark, no_mark}
use Rattle.csv_instance.proofs.Left.{at_end, left-first}

-- each record reads back as it was
abbrev pub AllReadBack : List Record → Type 0
AllReadBack [] = ⊤
AllReadBack (r ∷ rs) = (read_back r ≡ r) × AllReadBack rs

pub text-read : (rs : List Record) → AllReadBack rs → records_left default_config st.StartRecord (text_of rs) ≡ rs
text-read [] h = at_end default_config 1
text-read (r ∷ rs) h =
    left-first default_config st.StartRecord st.StartRecord (text_of (r ∷ rs)) (text_of rs) r
    (read_back r, st.StartRecord, text_of rs) (read-write r (text_of rs)) (sym h.0) refl refl
    ∙ ap (λ t. r ∷ t) (text-read rs h.1)

last_reads : (row : Record) (x : List ℕ) → read_back (row ++ x ∷ []) ≡ row ++ x ∷ []
last_reads [] x = refl
last_reads (f ∷ fs) x = refl

rows_read : (rows : List Record) (offsets : List ℕ) → AllReadBack (rows_with rows offsets)
rows_read [] offsets = tt
rows_read (row ∷ rows) [] = tt
rows_read (row ∷ rows) (o ∷ offsets) = (last_reads row _, rows_read rows offsets)

pub layout_reads : (table : List Record) (offsets : List ℕ) → AllReadBack (layout_records table offsets)
layout_reads [] offsets = tt
layout_reads (header ∷ rows) offsets = (last_reads header _, rows_read rows offsets)

-- what is written of a table reads back as its records with the offsets
pub layout-read : (f : List ℕ) (fs : Record) (rows : List Record) (offsets : List ℕ) → starts_with nat_eq f mark ≡ false
    → table_of (layout_text ((f ∷ fs) ∷ rows) offsets) ≡ layout_records ((f ∷ fs) ∷ rows) offsets
layout-read f [] rows offsets h = ap (records default_config) (no_mark f _ [] _ h)
    ∙ text-read (layout_records ((f ∷ []) ∷ rows) offsets) (layout_reads ((f ∷ []) ∷ rows) offsets)
layout-read f (g ∷ gs) rows offsets h = ap (records default_config) (no_mark f g _ _ h)
    ∙ text-read (layout_records ((f ∷ g ∷ gs) ∷ rows) offsets) (layout_reads ((f ∷ g ∷ gs) ∷ rows) offsets)
