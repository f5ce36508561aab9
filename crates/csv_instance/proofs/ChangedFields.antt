-- The fields of rows that are written again.
use Rattle.std.proofs.Common.{◌≡◌, ◌≢◌, ◌+◌, ◌++◌, ◌∷◌, ◌∙◌, ℕ, List, [], Bool, false, Option, Some, None, get_or, set, length, refl, sym, ap, subst, arith, inl, inr, length-append}
use Rattle.std.proofs.lemmas.Bool.{cases_Bool}
use Rattle.std.proofs.lemmas.Iterator.Adapters.{position_from-zero}
use Rattle.std.proofs.lemmas.List.{get_or-set_other, get_or-set_same, length-set}
use Rattle.std.proofs.lemmas.List.Quantifiers.{position-Some}
use Rattle.std.proofs.lemmas.Slice.Eq.{bytes_eq-Decides}
use Rattle.std.specs.Fmt.{decimal}
use Rattle.std.specs.List.{position_from}
use Rattle.std.specs.Option.{option_map_or}
use Rattle.std.specs.Str.{bytes_eq}
use Rattle.csv_instance.specs.Changed.{Change, changed_header, changed_row, gap_added, with_field, with_gaps}
use Rattle.csv_instance.specs.Columns.{column_place, field_of, name_of}
use Rattle.csv_instance.specs.Records.{Record}
use Rattle.csv_instance.specs.declared.columns.Column.{Column}
use Rattle.csv_instance.specs.declared.columns.Column.TheVariants.{Id, Lower, Upper, Size, Alignment, Gaps, Lowest}
use Rattle.csv_instance.proofs.Basics.{text_same}
use Rattle.csv_instance.proofs.OffsetLemmas.{get-append, get-last, position-last}

-- ---- places of columns
-- the names of two columns differ
abbrev pub AreOther : Column → Column → Type 0
AreOther c d = bytes_eq (name_of c) (name_of d) ≡ false

-- columns of other names stand at other places
places_differ : (header : Record) (c d : Column) (i j : ℕ) → AreOther c d → column_place header c ≡ Some i →
    column_place header d ≡ Some j → i ≢ j
places_differ header c d i j other e h same =
    let at_i = (bytes_eq-Decides (name_of c) (get_or header i [])).0
    (position-Some (bytes_eq (name_of c)) header i [] e).1 in
    let at_j = (bytes_eq-Decides (name_of d) (get_or header j [])).0
    (position-Some (bytes_eq (name_of d)) header j [] h).1 in
    let names : name_of c ≡ name_of d =
    at_i ∙ ap (λ (k : ℕ). get_or header k []) same ∙ sym at_j in
    let told : bytes_eq (name_of d) (name_of d) ≡ false =
    subst (λ (n : List ℕ). bytes_eq n (name_of d) ≡ false) names other in
    cc (text_same (name_of d))

from_miss : {A : Type 0} (p : A → Bool) (i : ℕ) (xs : List A) (y : A) → p y ≡ false →
    position_from p i (xs ++ y ∷ []) ≡ position_from p i xs
from_miss p i [] y h = rw h refl
from_miss p i (x ∷ xs) y h = elim (cases_Bool (p x)) [
  | inl same ↦ rw same refl
  | inr other ↦ rw other (from_miss p (i + 1) xs y h)
]

-- what is put last changes no place of a column of another name
pub place-miss : (header : Record) (c d : Column) → AreOther c d →
    column_place (header ++ name_of d ∷ []) c ≡ column_place header c
place-miss header c d other =
    position_from-zero (bytes_eq (name_of c)) (header ++ name_of d ∷ [])
    ∙ from_miss (bytes_eq (name_of c)) 0 header (name_of d) other
    ∙ sym (position_from-zero (bytes_eq (name_of c)) header)

-- ---- one field set
field_other : (header row : Record) (c d : Column) (f : List ℕ) → AreOther c d →
    field_of header (with_field header d f row) c ≡ field_of header row c
field_other header row c d f other = go (column_place header c) (column_place header d) refl refl
  where
    go : (o q : Option ℕ) → column_place header c ≡ o → column_place header d ≡ q →
        option_map_or (λ i. get_or (option_map_or (λ j. set row j f) q row) i []) o []
        ≡ option_map_or (λ i. get_or row i []) o []
    go None q e h = refl
    go (Some i) None e h = refl
    go (Some i) (Some j) e h = get_or-set_other row j i f [] (places_differ header c d i j other e h)

field_same : (header row : Record) (d : Column) (j : ℕ) (f : List ℕ) → column_place header d ≡ Some j →
    length row ≡ length header → field_of header (with_field header d f row) d ≡ f
field_same header row d j f e even =
    let within = (position-Some (bytes_eq (name_of d)) header j [] e).0 in
    rw e (get_or-set_same row j f [] (omega arith))

length_with : (header row : Record) (d : Column) (f : List ℕ) → length (with_field header d f row) ≡ length row
length_with header row d f = go (column_place header d)
  where
    go : (q : Option ℕ) → length (option_map_or (λ j. set row j f) q row) ≡ length row
    go None = refl
    go (Some j) = length-set row j f

-- ---- one field put last
grown_other : (header row : Record) (c : Column) (f : List ℕ) → AreOther c Gaps → length row ≡ length header →
    field_of (header ++ name_of Gaps ∷ []) (row ++ f ∷ []) c ≡ field_of header row c
grown_other header row c f other even = rw (place-miss header c Gaps other) (go (column_place header c) refl)
  where
    go : (o : Option ℕ) → column_place header c ≡ o →
        option_map_or (λ i. get_or (row ++ f ∷ []) i []) o [] ≡ option_map_or (λ i. get_or row i []) o []
    go None e = refl
    go (Some i) e =
        let within = (position-Some (bytes_eq (name_of c)) header i [] e).0 in
        get-append row (f ∷ []) i [] (omega arith)

grown_gaps : (header row : Record) (f : List ℕ) → column_place header Gaps ≡ None → length row ≡ length header →
    field_of (header ++ name_of Gaps ∷ []) (row ++ f ∷ []) Gaps ≡ f
grown_gaps header row f none even =
    let there = position-last (bytes_eq (name_of Gaps)) header (name_of Gaps) none refl in
    rw there (rw (sym even) (get-last row f []))

-- ---- rows
-- the row has these fields under the columns of its header, and as many fields as that
pub record HasFields (header row : Record) (id lower upper size alignment gaps lowest : List ℕ) : Type 0 where
  pub even : length row ≡ length header
  pub id_is : field_of header row Id ≡ id
  pub lower_is : field_of header row Lower ≡ lower
  pub upper_is : field_of header row Upper ≡ upper
  pub size_is : field_of header row Size ≡ size
  pub alignment_is : field_of header row Alignment ≡ alignment
  pub gaps_is : field_of header row Gaps ≡ gaps
  pub lowest_is : field_of header row Lowest ≡ lowest

-- the row with this field of gaps has its other fields
gaps_set : (header row : Record) (id lower upper size alignment gaps lowest f : List ℕ) →
    HasFields header row id lower upper size alignment gaps lowest →
    HasFields (changed_header header) (with_gaps header f row) id lower upper size alignment f lowest
gaps_set header row id lower upper size alignment gaps lowest f h = go (column_place header Gaps) refl
  where
    go : (o : Option ℕ) → column_place header Gaps ≡ o →
        HasFields (option_map_or (λ _. header) o (header ++ name_of Gaps ∷ []))
        (option_map_or (λ i. set row i f) o (row ++ f ∷ [])) id lower upper size alignment f lowest
    go None e = record {
      even = (let k = h.even in omega (arith, length-append row (f ∷ []), length-append header (name_of Gaps ∷ [])));
      id_is = grown_other header row Id f refl h.even ∙ h.id_is;
      lower_is = grown_other header row Lower f refl h.even ∙ h.lower_is;
      upper_is = grown_other header row Upper f refl h.even ∙ h.upper_is;
      size_is = grown_other header row Size f refl h.even ∙ h.size_is;
      alignment_is = grown_other header row Alignment f refl h.even ∙ h.alignment_is;
      lowest_is = grown_other header row Lowest f refl h.even ∙ h.lowest_is;
      gaps_is = grown_gaps header row f e h.even;
    }
    go (Some j) e =
        let set_is : with_field header Gaps f row ≡ set row j f = rw e refl in
        subst (λ (r : Record). HasFields header r id lower upper size alignment f lowest) set_is (record {
          even = length_with header row Gaps f ∙ h.even;
          id_is = field_other header row Id Gaps f refl ∙ h.id_is;
          lower_is = field_other header row Lower Gaps f refl ∙ h.lower_is;
          upper_is = field_other header row Upper Gaps f refl ∙ h.upper_is;
          size_is = field_other header row Size Gaps f refl ∙ h.size_is;
          alignment_is = field_other header row Alignment Gaps f refl ∙ h.alignment_is;
          lowest_is = field_other header row Lowest Gaps f refl ∙ h.lowest_is;
          gaps_is = field_same header row Gaps j f e h.even;
        })

-- the row as it is, under the header with a column of gaps
pub row_carried : (header row : Record) (id lower upper size alignment gaps lowest : List ℕ) →
    HasFields header row id lower upper size alignment gaps lowest →
    HasFields (changed_header header) (changed_row header None row) id lower upper size alignment gaps lowest
row_carried header row id lower upper size alignment gaps lowest h = go (column_place header Gaps) refl
  where
    absent : column_place header Gaps ≡ None → [] ≡ gaps
    absent e = rw e at h.gaps_is

    go : (o : Option ℕ) → column_place header Gaps ≡ o →
        HasFields (option_map_or (λ _. header) o (header ++ name_of Gaps ∷ []))
        (option_map_or (λ _. row) o (row ++ [] ∷ [])) id lower upper size alignment gaps lowest
    go None e = record {
      even = (let k = h.even in omega (arith, length-append row ([] ∷ []), length-append header (name_of Gaps ∷ [])));
      id_is = grown_other header row Id [] refl h.even ∙ h.id_is;
      lower_is = grown_other header row Lower [] refl h.even ∙ h.lower_is;
      upper_is = grown_other header row Upper [] refl h.even ∙ h.upper_is;
      size_is = grown_other header row Size [] refl h.even ∙ h.size_is;
      alignment_is = grown_other header row Alignment [] refl h.even ∙ h.alignment_is;
      lowest_is = grown_other header row Lowest [] refl h.even ∙ h.lowest_is;
      gaps_is = grown_gaps header row [] e h.even ∙ absent e;
    }
    go (Some j) e = h

-- the row after its change
pub row_changed : (header row : Record) (id lower upper size alignment gaps lowest : List ℕ) (i j : ℕ) (c : Change) →
    column_place header Lower ≡ Some i → column_place header Upper ≡ Some j →
    HasFields header row id lower upper size alignment gaps lowest →
    HasFields (changed_header header) (changed_row header (Some c) row) id (decimal c.1) (decimal c.2) size alignment
    (gap_added gaps c.3 c.4) lowest
row_changed header row id lower upper size alignment gaps lowest i j c at_lower at_upper h =
    rw h.gaps_is
    (gaps_set header row2 id (decimal c.1) (decimal c.2) size alignment gaps lowest (gap_added gaps c.3 c.4) (record {
      even = length_with header row1 Upper (decimal c.2) ∙ even1;
      id_is = field_other header row1 Id Upper (decimal c.2) refl
          ∙ field_other header row Id Lower (decimal c.1) refl ∙ h.id_is;
      lower_is = field_other header row1 Lower Upper (decimal c.2) refl
          ∙ field_same header row Lower i (decimal c.1) at_lower h.even;
      upper_is = field_same header row1 Upper j (decimal c.2) at_upper even1;
      size_is = field_other header row1 Size Upper (decimal c.2) refl
          ∙ field_other header row Size Lower (decimal c.1) refl ∙ h.size_is;
      alignment_is = field_other header row1 Alignment Upper (decimal c.2) refl
          ∙ field_other header row Alignment Lower (decimal c.1) refl ∙ h.alignment_is;
      lowest_is = field_other header row1 Lowest Upper (decimal c.2) refl
          ∙ field_other header row Lowest Lower (decimal c.1) refl ∙ h.lowest_is;
      gaps_is = field_other header row1 Gaps Upper (decimal c.2) refl
          ∙ field_other header row Gaps Lower (decimal c.1) refl ∙ h.gaps_is;
    }))
  where
    row1 : Record
    row1 = with_field header Lower (decimal c.1) row

    row2 : Record
    row2 = with_field header Upper (decimal c.2) row1

    even1 : length row1 ≡ length header
    even1 = length_with header row Lower (decimal c.1) ∙ h.even
