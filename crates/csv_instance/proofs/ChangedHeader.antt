-- A header without a fault has none with the column of gaps put last.
use Rattle.std.proofs.Common.{◌≡◌, ◌≤◌, ◌+◌, ◌++◌, ◌∷◌, ◌∙◌, ℕ, List, [], Bool, false, not, Option, Some, None, count_by, find, get_or, is_some, length, nat_le, nat_eq, refl, ap, arith}
use Rattle.std.specs.List.{starts_with}
use Rattle.std.specs.Option.{option_map_or}
use Rattle.std.specs.Str.{bytes_eq}
use Rattle.dsa_model.proofs.Faults.{map_none, not_so}
use Rattle.csv_instance.specs.Changed.{changed_header}
use Rattle.csv_instance.specs.Columns.{column_place, has_column, name_of, named_columns, needed_columns, stands_twice}
use Rattle.csv_instance.specs.Parse.{header_fault, header_faults}
use Rattle.csv_instance.specs.Records.{Record}
use Rattle.csv_instance.specs.declared.columns.Column.{Column}
use Rattle.csv_instance.specs.declared.columns.Column.TheVariants.{Id, Lower, Upper, Size, Alignment, Gaps, Offset, Lowest}
use Rattle.csv_instance.specs.declared.fault.InstanceFault.TheVariants as fault
use Rattle.csv_instance.proofs.Basics.{counted_last, find_none, none_counted, not_false, some_if}
use Rattle.csv_instance.proofs.ChangedFields.{AreOther, place-miss}
use Rattle.csv_instance.proofs.Mark.{mark}
use Rattle.csv_instance.proofs.IdLemmas.{all_none, none_any, none_first, none_mapped, none_when}
use Rattle.csv_instance.proofs.SomeBack.{some_columns}

-- what passes nowhere passes nowhere by a test that is no laxer
none_through : {A : Type 0} (p q : A → Bool) (xs : List A) → ((x : A) → p x ≡ false → q x ≡ false) → find p xs ≡ None →
    find q xs ≡ None
none_through p q [] h e = refl
none_through p q (x ∷ xs) h e =
    let both = find_none p x xs e in
    rw (h x both.0) (none_through p q xs h both.1)

-- the header with the name of gaps put last
abbrev grown : Record → Record
grown header = header ++ name_of Gaps ∷ []

twice_stays : (header : Record) (c : Column) → AreOther c Gaps → stands_twice header c ≡ false →
    stands_twice (grown header) c ≡ false
twice_stays header c other once =
    let count : count_by (bytes_eq (name_of c)) (grown header) ≡ count_by (bytes_eq (name_of c)) header =
    counted_last (bytes_eq (name_of c)) header (name_of Gaps)
    ∙ rw other (let z : count_by (bytes_eq (name_of c)) header + 0
    ≡ count_by (bytes_eq (name_of c)) header = omega arith in z) in
    ap (nat_le 2) count ∙ once

gaps_once : (header : Record) → column_place header Gaps ≡ None → stands_twice (grown header) Gaps ≡ false
gaps_once header none =
    let count : count_by (bytes_eq (name_of Gaps)) (grown header) ≡ 1 =
    counted_last (bytes_eq (name_of Gaps)) header (name_of Gaps)
    ∙ ap (λ n. n + 1) (none_counted (bytes_eq (name_of Gaps)) header
    (none_any (bytes_eq (name_of Gaps)) header none)) in
    ap (nat_le 2) count

column_stays : (header : Record) (c : Column) → AreOther c Gaps → has_column (grown header) c ≡ has_column header c
column_stays header c other = ap is_some (place-miss header c Gaps other)

no_mark_still : (header : Record) → 1 ≤ length header → starts_with nat_eq (get_or header 0 []) mark ≡ false →
    starts_with nat_eq (get_or (grown header) 0 []) mark ≡ false
no_mark_still [] some e = absurd (omega arith)
no_mark_still (f ∷ fs) some e = e

-- no column stands twice then
still_once : (header : Record) → column_place header Gaps ≡ None → (c : Column) → stands_twice header c ≡ false →
    stands_twice (grown header) c ≡ false
still_once header none Id once = twice_stays header Id refl once
still_once header none Lower once = twice_stays header Lower refl once
still_once header none Upper once = twice_stays header Upper refl once
still_once header none Size once = twice_stays header Size refl once
still_once header none Alignment once = twice_stays header Alignment refl once
still_once header none Gaps once = gaps_once header none
still_once header none Offset once = twice_stays header Offset refl once
still_once header none Lowest once = twice_stays header Lowest refl once

-- and none is lacking
still_there : (header : Record) → column_place header Gaps ≡ None → (c : Column) → not (has_column header c) ≡ false →
    not (has_column (grown header) c) ≡ false
still_there header none Id there = ap not (column_stays header Id refl) ∙ there
still_there header none Lower there = ap not (column_stays header Lower refl) ∙ there
still_there header none Upper there = ap not (column_stays header Upper refl) ∙ there
still_there header none Size there = ap not (column_stays header Size refl) ∙ there
still_there header none Alignment there = ap not (column_stays header Alignment refl) ∙ there
still_there header none Gaps there = cc (rw none at there)
still_there header none Offset there = ap not (column_stays header Offset refl) ∙ there
still_there header none Lowest there = ap not (column_stays header Lowest refl) ∙ there

header_grows : (header : Record) → header_fault header ≡ None → column_place header Gaps ≡ None →
    header_fault (grown header) ≡ None
header_grows header e none =
    let n = all_none (header_faults header) e in
    let no_twice : find (stands_twice (grown header)) named_columns ≡ None =
    none_through (stands_twice header) (stands_twice (grown header)) named_columns (still_once header none)
    (map_none fault.DuplicateColumn _ n.1.0) in
    let no_lack : find (λ c. not (has_column (grown header) c)) needed_columns ≡ None =
    none_through (λ c. not (has_column header c)) (λ c. not (has_column (grown header) c)) needed_columns
    (still_there header none) (map_none fault.MissingColumn _ n.1.1.1.0) in
    let offset : has_column (grown header) Offset ≡ false =
    column_stays header Offset refl ∙ not_so _ fault.OffsetColumn n.1.1.0 in
    let unmarked = no_mark_still header (some_columns header e) (not_so _ fault.MarkedHeader n.0) in
    none_first (header_faults (grown header)) (
      none_when fault.MarkedHeader _ unmarked,
      (
        none_mapped fault.DuplicateColumn _ no_twice,
        (none_when fault.OffsetColumn _ offset, (none_mapped fault.MissingColumn _ no_lack, tt)),
      ),
    )

pub header_still : (header : Record) → header_fault header ≡ None → header_fault (changed_header header) ≡ None
header_still header e = go (column_place header Gaps) refl
  where
    go : (o : Option ℕ) → column_place header Gaps ≡ o →
        header_fault (option_map_or (λ _. header) o (header ++ name_of Gaps ∷ [])) ≡ None
    go None none = header_grows header e none
    go (Some i) at = e

-- a header without a fault has these columns
pub moments_there : (header : Record) → header_fault header ≡ None →
    ((i : ℕ) × (column_place header Lower ≡ Some i)) × ((j : ℕ) × (column_place header Upper ≡ Some j))
moments_there header e =
    let n = all_none (header_faults header) e in
    let missing = λ (c : Column). not (has_column header c) in
    let m1 = find_none missing Id (Lower ∷ Upper ∷ Size ∷ []) (map_none fault.MissingColumn _ n.1.1.1.0) in
    let m2 = find_none missing Lower (Upper ∷ Size ∷ []) m1.1 in
    let m3 = find_none missing Upper (Size ∷ []) m2.1 in
    (some_if (column_place header Lower) (not_false _ m2.0), some_if (column_place header Upper) (not_false _ m3.0))
