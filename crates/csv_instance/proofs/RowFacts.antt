-- What rows say as they are read, and what they are written as after changes.
use Rattle.std.proofs.Common.{◌≡◌, ℕ, zero, suc, [], ◌∷◌, Vec, Global, codes, Some, None, Ok, Err, refl, lit≤, lit<, arith}
use Rattle.std.specs.Fmt.{digits}
use Rattle.std.specs.List.{All}
use Rattle.csv.specs.Machine.{next_record}
use Rattle.csv.specs.Reading.{records_from, strip_bom}
use Rattle.csv.specs.Records.{Row, fields_of}
use Rattle.csv.specs.Writing.{fields_text, is_blank}
use Rattle.dsa_terms.proofs.Examples.{plain}
use Rattle.csv_instance.specs.Changed.{AreFrom, AreMoments, Change, change_of, changed_text, changed_values, gap_added}
use Rattle.csv_instance.specs.KeptRows.{IsKeptRows}
use Rattle.csv_instance.specs.Places.{column_places}
use Rattle.csv_instance.specs.Records.{Record, table_of}
use Rattle.csv_instance.specs.Rows.{AreKeptValues, parse_rows, value_of}
use Rattle.csv_instance.specs.declared.columns.Column.TheVariants.{Size}
use Rattle.csv_instance.specs.declared.fault.InstanceFault.TheVariants as fault
use Rattle.csv_instance.specs.declared.row.RowValues.{RowValues}
use Rattle.csv_instance.specs.declared.row_list.Rows.TheInside.{Inside}

-- ---- rows that are read
-- a lifetime that ends before it begins, and one that is empty, are rows all the same
any_lifetime : parse_rows (table_of (codes "id,lower,upper,size\nA,8,2,4\nB,3,3,4\n"))
    ≡ Ok (plain 8 2 4 1 ∷ plain 3 3 4 1 ∷ [])
unfolding records_from strip_bom next_record
any_lifetime = refl

-- and so are numbers and gaps that no buffer has
any_numbers : parse_rows (table_of (codes "id,gaps,lower,upper,size,alignment\nA,9-3 5-5,0,2,0,0\n"))
    ≡ Ok (record { lower = 0; upper = 2; size = 0; alignment = 0; gaps = (9, 3) ∷ (5, 5) ∷ []; lowest = 0 } ∷ [])
unfolding records_from strip_bom next_record
any_numbers = refl

-- the first fault of all rows that is none of a buffer
later_row_refused : parse_rows (table_of (codes "id,lower,upper,size\nA,3,3,0\nA,1,2,4\n"))
    ≡ Err (fault.DuplicateId 1 0)
unfolding records_from strip_bom next_record
later_row_refused = refl

number_refused : parse_rows (table_of (codes "id,lower,upper,size\nA,3,3,x\n")) ≡ Err (fault.BadNumber 0 Size)
unfolding records_from strip_bom next_record
number_refused = refl

gap_refused : parse_rows (table_of (codes "id,lower,upper,size,gaps\nA,3,5,1,4\n")) ≡ Err (fault.BadGap 0)
unfolding records_from strip_bom next_record
gap_refused = refl

no_header : parse_rows (table_of []) ≡ Err fault.NoHeader
unfolding records_from strip_bom next_record
no_header = refl

header_alone : parse_rows ((codes "id" ∷ codes "lower" ∷ codes "upper" ∷ codes "size" ∷ []) ∷ []) ≡ Ok []
header_alone = refl

-- ---- rows that are kept
abbrev columns : Record
columns = codes "id" ∷ codes "lower" ∷ codes "upper" ∷ codes "size" ∷ []

abbrev wrapped_row : Record
wrapped_row = codes "A" ∷ codes "8" ∷ codes "2" ∷ codes "4" ∷ []

module _ (v : RowValues) (numbers : v.numbers ≡ record { lower = 8; upper = 2; size = 4; alignment = 1; lowest = 0 })
    (gaps : v.gaps.items ≡ []) where
  value_is : value_of v ≡ plain 8 2 4 1
  value_is = rw (numbers, gaps) refl

  values_kept : AreKeptValues v
  values_kept = record {
    lower = rw numbers (lit≤ tt);
    upper = rw numbers (lit≤ tt);
    few_gaps = rw gaps (lit< tt);
  }

late_not_kept : (v : RowValues) → v.numbers.lower ≡ 4611686018427387904 → AreKeptValues v → ⊥
late_not_kept v late k = let h = k.lower in omega arith

module _ (a : Inside) (r : Row) (k : Vec ℕ Global) (v : RowValues) where
  one_row_kept : fields_of a.header ≡ columns → fields_of r ≡ wrapped_row → k.items ≡ codes "A" →
      a.rows.items ≡ r ∷ [] → a.ids.keys ≡ k ∷ [] → a.values.items ≡ v ∷ [] → a.places ≡ column_places columns →
      value_of v ≡ plain 8 2 4 1 → AreKeptValues v → IsKeptRows a
  one_row_kept header row id rows ids values places value limits = record {
    places = rw header places;
    header_good = rw header refl;
    rows_good = rw (header, rows, row) refl;
    few = rw rows (lit≤ tt);
    values = rw (header, rows, row, values) (rw value refl);
    limits = rw values one;
    ids = rw (header, rows, ids, row, id) refl;
  }
    where
      one : All AreKeptValues (v ∷ [])
      one zero d lt = limits
      one (suc i) d lt = absurd (omega arith)

  no_value_kept : a.rows.items ≡ r ∷ [] → a.values.items ≡ [] → IsKeptRows a → ⊥
  no_value_kept rows values kept = cc (rw (rows, values) at kept.values)

-- ---- rows that change
abbrev change : Change
change = (0, 0, 10, 2, 8)

found_by_number : change_of (change ∷ (3, 1, 2, 4, 5) ∷ []) 3 ≡ Some (3, 1, 2, 4, 5)
found_by_number = refl

none_of_that_number : change_of (change ∷ []) 1 ≡ None
none_of_that_number = refl

rising_from_0 : AreFrom 0 (change ∷ (3, 1, 2, 4, 5) ∷ [])
rising_from_0 = (lit≤ tt, (lit≤ tt, tt))

not_twice : AreFrom 0 (change ∷ change ∷ []) → ⊥
not_twice h = let k = h.1.0 in omega arith

moments_of_change : AreMoments (change ∷ [])
moments_of_change zero d lt = (lit≤ tt, lit≤ tt, lit≤ tt, lit≤ tt)
moments_of_change (suc i) d lt = absurd (omega arith)

too_late_to_change : AreMoments ((0, 0, 4611686018427387904, 2, 8) ∷ []) → ⊥
too_late_to_change all = let h = all 0 change (lit< tt) in let k = h.1 in omega arith

one_value_changes : changed_values (change ∷ []) (plain 8 2 4 1 ∷ plain 2 8 4 1 ∷ [])
    ≡ record { lower = 0; upper = 10; size = 4; alignment = 1; gaps = (2, 8) ∷ []; lowest = 0 } ∷ plain 2 8 4 1 ∷ []
one_value_changes = refl

a_first_gap : gap_added [] 2 8 ≡ codes "2-8"
unfolding digits
a_first_gap = refl

a_gap_after_others : gap_added (codes "9-10 4-5") 2 8 ≡ codes "9-10 4-5 2-8"
unfolding digits
a_gap_after_others = refl

-- a column of gaps is put last where there is none, with an empty field in a row that does not change
column_put_last : changed_text (table_of (codes "id,lower,upper,size\nA,8,2,4\nB,2,8,4\n")) (change ∷ [])
    ≡ codes "id,lower,upper,size,gaps\nA,0,10,4,2-8\nB,2,8,4,\n"
unfolding records_from strip_bom next_record fields_text is_blank digits
column_put_last = refl

-- the gap stands after the row's own, and all other fields as they were read
others_carried : changed_text (table_of (codes "note,gaps,upper,id,lower,size\nx,9-10,02,A,8,04\n,,08,B,2,4\n"))
    (change ∷ [])
    ≡ codes "note,gaps,upper,id,lower,size\nx,9-10 2-8,10,A,0,04\n,,08,B,2,4\n"
unfolding records_from strip_bom next_record fields_text is_blank digits
others_carried = refl

nothing_changes : changed_text (table_of (codes "id,lower,upper,size\nB,2,8,4\n")) []
    ≡ codes "id,lower,upper,size,gaps\nB,2,8,4,\n"
unfolding records_from strip_bom next_record fields_text is_blank digits
nothing_changes = refl
