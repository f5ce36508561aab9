-- Fields of small rows: where columns stand, what numbers and gaps they write, and rows that are picked and changed.
use Rattle.std.proofs.Common.{◌≡◌, ℕ, List, [], ◌∷◌, true, false, Some, None, Ok, Err, codes, refl}
use Rattle.std.specs.Fmt.{digits}
use Rattle.csv.specs.Records.{Row, fields_of}
use Rattle.csv.specs.Writing.{escaped, fields_text, is_blank}
use Rattle.csv.specs.declared.error.Error.{Error}
use Rattle.dsa_model.specs.declared.buffer_fault.BufferFault.TheVariants as buffer
use Rattle.dsa_terms.proofs.Examples.{plain}
use Rattle.csv.specs.declared.iter.ByteRecordsIntoIter.{ByteRecordsIntoIter}
use Rattle.std.specs.Borrow.{Bor}
use Rattle.csv_instance.specs.Changed.{Change, changed_header, changed_numbers, changed_records, changed_row, changed_value, changed_values}
use Rattle.csv_instance.specs.Chosen.{chosen_records, rows_at}
use Rattle.csv_instance.specs.Columns.{column_named, column_place, field_of, has_column, stands_twice}
use Rattle.csv_instance.specs.Gaps.{gap_of, gap_pair_text, gaps_of}
use Rattle.csv_instance.specs.Gives.{GaveRecord, GivesFirst}
use Rattle.csv_instance.specs.Layout.{layout_records, rows_with, text_of}
use Rattle.csv_instance.specs.Offsets.{is_of, layout_row_fault, layout_rows_fault, offset_in, offset_of}
use Rattle.csv_instance.specs.Parse.{bad_column, id_limit, number_under, row_buffer, row_fault, rows_fault}
use Rattle.csv_instance.specs.Records.{Record}
use Rattle.csv_instance.specs.RowSteps.{content_fault, form_fault}
use Rattle.csv_instance.specs.Rows.{row_form_fault, rows_form_fault, values_of}
use Rattle.csv_instance.specs.declared.columns.Column.TheVariants.{Alignment, Gaps, Id, Lower, Lowest, Offset, Size, Upper}
use Rattle.csv_instance.specs.declared.fault.InstanceFault.TheVariants as fault
use Rattle.csv_instance.specs.declared.fault.OffsetsFault.TheVariants as offsets

-- ---- columns
-- of two columns of one name the first
the_first_place : column_place (codes "note" ∷ codes "id" ∷ codes "id" ∷ []) Id ≡ Some 1
the_first_place = refl

no_place : (column_place (codes "ID" ∷ []) Id ≡ None) × (has_column (codes "ID" ∷ []) Id ≡ false)
no_place = (refl, refl)

-- only its own name counts
one_of_each : (stands_twice (codes "id" ∷ codes "size" ∷ codes "id" ∷ []) Id ≡ true)
    × (stands_twice (codes "id" ∷ codes "size" ∷ codes "id" ∷ []) Size ≡ false)
one_of_each = (refl, refl)

-- an offset is a column of its own, though an instance file must not have it
names_of_offsets : (column_named (codes "offset") ≡ Some Offset) × (column_named (codes "alignment") ≡ Some Alignment)
names_of_offsets = (refl, refl)

-- a field is found by its column's place, and is empty where the row ends before it or there is no such column
fields_by_place : (field_of (codes "size" ∷ codes "id" ∷ []) (codes "4" ∷ codes "A" ∷ []) Id ≡ codes "A")
    × (field_of (codes "size" ∷ codes "id" ∷ []) (codes "4" ∷ []) Id ≡ [])
    × (field_of (codes "size" ∷ codes "id" ∷ []) (codes "4" ∷ codes "A" ∷ []) Gaps ≡ [])
fields_by_place = (refl, refl, refl)

-- ---- gaps
-- the first hyphen divides a piece
a_gap : gap_of (codes "12-345") ≡ Some (12, 345)
a_gap = refl

two_hyphens : gap_of (codes "1-2-3") ≡ None
two_hyphens = refl

no_hyphen : gap_of (codes "12") ≡ None
no_hyphen = refl

half_a_gap : (gap_of (codes "-2") ≡ None) × (gap_of (codes "1-") ≡ None)
half_a_gap = (refl, refl)

-- each end is at most the greatest moment
ends_of_gaps : (gap_of (codes "0-4611686018427387903") ≡ Some (0, 4611686018427387903))
    × (gap_of (codes "0-4611686018427387904") ≡ None)
ends_of_gaps = (refl, refl)

-- one piece that is no gap spoils them all
one_bad_piece : gaps_of (codes "1-2 x 4-6") ≡ None
one_bad_piece = refl

written_as_read : gap_pair_text 4 12 ≡ codes "4-12"
unfolding digits
written_as_read = refl

-- ---- numbers under columns
abbrev full : Record
full = codes "id" ∷ codes "lower" ∷ codes "upper" ∷ codes "size" ∷ codes "alignment" ∷ codes "lowest" ∷ []

abbrev empty : Record
empty = codes "A" ∷ [] ∷ [] ∷ [] ∷ [] ∷ [] ∷ []

-- of an empty row the alignment is 1 and the lowest 0, and no other number is given
numbers_of_empty : (number_under full empty Alignment ≡ Some 1) × (number_under full empty Lowest ≡ Some 0)
    × (number_under full empty Lower ≡ None) × (number_under full empty Size ≡ None)
numbers_of_empty = (refl, refl, refl, refl)

-- the columns are asked in their own order, the lowest last
bad_columns : (bad_column full empty ≡ Some Lower)
    × (bad_column full (codes "A" ∷ codes "0" ∷ codes "2" ∷ codes "4" ∷ codes "x" ∷ codes "x" ∷ []) ≡ Some Alignment)
    × (bad_column full (codes "A" ∷ codes "0" ∷ codes "2" ∷ codes "4" ∷ codes "8" ∷ codes "x" ∷ []) ≡ Some Lowest)
bad_columns = (refl, refl, refl)

its_buffer : row_buffer full (codes "A" ∷ codes "0" ∷ codes "2" ∷ codes "4" ∷ codes "8" ∷ codes "6" ∷ [])
    ≡ record { lower = 0; upper = 2; size = 4; alignment = 8; gaps = []; lowest = 6 }
its_buffer = refl

-- ---- faults of rows
longest_id : id_limit ≡ 255
longest_id = refl

abbrev columns : Record
columns = codes "id" ∷ codes "lower" ∷ codes "upper" ∷ codes "size" ∷ []

abbrev good : Record
good = codes "A" ∷ codes "0" ∷ codes "2" ∷ codes "4" ∷ []

-- a row with an empty lifetime
abbrev still : Record
still = codes "B" ∷ codes "2" ∷ codes "2" ∷ codes "4" ∷ []

-- the form of a row asks nothing of its lifetime, and the row is refused for it by its own number
still_refused : (row_form_fault columns (good ∷ []) still ≡ None)
    × (row_fault columns (good ∷ []) still ≡ Some (fault.BadBuffer 1 buffer.EmptyLifetime))
    × (content_fault columns 1 still ≡ Some (fault.BadBuffer 1 buffer.EmptyLifetime))
still_refused = (refl, refl, refl)

-- the id of the row before comes before what the row says
same_id_first : row_fault columns (good ∷ []) (codes "A" ∷ codes "2" ∷ codes "2" ∷ codes "x" ∷ [])
    ≡ Some (fault.DuplicateId 1 0)
same_id_first = refl

-- a number comes before the gaps, and a row's id is no part of what it writes
number_before_gaps : form_fault (codes "id" ∷ codes "gaps" ∷ columns) 3
    (codes "A" ∷ codes "x" ∷ codes "A" ∷ codes "0" ∷ [] ∷ codes "4" ∷ []) ≡ Some (fault.BadNumber 3 Upper)
number_before_gaps = refl

id_is_no_form : form_fault columns 3 ([] ∷ codes "0" ∷ codes "2" ∷ codes "4" ∷ []) ≡ None
id_is_no_form = refl

-- of two rows that are wrong the first is told
the_first_row : rows_fault columns [] (still ∷ [] ∷ []) ≡ Some (fault.BadBuffer 0 buffer.EmptyLifetime)
the_first_row = refl

-- where lifetimes are not asked, it is the second
the_second_row : rows_form_fault columns [] (still ∷ [] ∷ []) ≡ Some (fault.FieldCount 1)
the_second_row = refl

-- each row after the header gives a buffer
values_after_the_header : values_of (columns ∷ good ∷ still ∷ []) ≡ plain 0 2 4 1 ∷ plain 2 2 4 1 ∷ []
values_after_the_header = refl

-- ---- layout files
abbrev solution : Record
solution = codes "offset" ∷ codes "id" ∷ []

greatest_offset : (offset_in solution (codes "1152921504606846976" ∷ codes "A" ∷ []) ≡ Some 1152921504606846976)
    × (offset_in solution (codes "1152921504606846977" ∷ codes "A" ∷ []) ≡ None)
    × (offset_in solution ([] ∷ codes "A" ∷ []) ≡ None)
greatest_offset = (refl, refl, refl)

-- ids are compared byte for byte
of_its_id : (is_of solution (codes "A") (codes "7" ∷ codes "A" ∷ []) ≡ true)
    × (is_of solution (codes "A") (codes "7" ∷ codes "a" ∷ []) ≡ false)
of_its_id = (refl, refl)

-- an id is asked for before its offset, and an earlier row of that id as well
before_offsets : (layout_row_fault (codes "A" ∷ []) solution [] (codes "x" ∷ codes "B" ∷ [])
    ≡ Some (offsets.UnknownId 0))
    × (layout_row_fault (codes "A" ∷ []) solution ((codes "7" ∷ codes "A" ∷ []) ∷ []) (codes "x" ∷ codes "A" ∷ [])
    ≡ Some (offsets.DuplicateId 1 0))
before_offsets = (refl, refl)

-- rows are told in turn, each by its number
the_second_offset : layout_rows_fault (codes "A" ∷ codes "B" ∷ []) solution []
    ((codes "7" ∷ codes "A" ∷ []) ∷ ([] ∷ codes "B" ∷ []) ∷ ([] ∷ []) ∷ []) ≡ Some (offsets.BadNumber 1)
the_second_offset = refl

-- the offset stands with its id, whichever row comes first
the_offset_of_an_id : offset_of solution ((codes "7" ∷ codes "B" ∷ []) ∷ (codes "2" ∷ codes "A" ∷ []) ∷ []) (codes "A")
    ≡ 2
the_offset_of_an_id = refl

-- the column of offsets is put last, and each row gets its own
abbrev table : List Record
table = (codes "id" ∷ codes "note" ∷ []) ∷ (codes "A" ∷ codes "x" ∷ []) ∷ (codes "B" ∷ [] ∷ []) ∷ []

offsets_put_last : layout_records table (12 ∷ 0 ∷ []) ≡ (codes "id" ∷ codes "note" ∷ codes "offset" ∷ [])
    ∷ (codes "A" ∷ codes "x" ∷ codes "12" ∷ []) ∷ (codes "B" ∷ [] ∷ codes "0" ∷ []) ∷ []
unfolding digits
offsets_put_last = refl

a_row_with_its_offset : rows_with ((codes "A" ∷ []) ∷ []) (7 ∷ []) ≡ (codes "A" ∷ codes "7" ∷ []) ∷ []
unfolding digits
a_row_with_its_offset = refl

-- a record is a line, and a field with a comma is quoted
text_of_records : text_of ((codes "a" ∷ codes "b,c" ∷ []) ∷ (codes "d" ∷ []) ∷ []) ≡ codes "a,\"b,c\"\nd\n"
unfolding escaped fields_text is_blank
text_of_records = refl

-- ---- some rows
-- in the order that is asked for, and a row as often as it is asked for
in_that_order : chosen_records table (1 ∷ 0 ∷ 1 ∷ []) ≡ (codes "id" ∷ codes "note" ∷ []) ∷ (codes "B" ∷ [] ∷ [])
    ∷ (codes "A" ∷ codes "x" ∷ []) ∷ (codes "B" ∷ [] ∷ []) ∷ []
in_that_order = refl

no_such_row : rows_at ((codes "A" ∷ []) ∷ []) (1 ∷ []) ≡ [] ∷ []
no_such_row = refl

-- ---- rows that change
abbrev change : Change
change = (1, 0, 10, 2, 8)

numbers_that_change : changed_numbers (change ∷ (3, 1, 2, 4, 5) ∷ []) ≡ 1 ∷ 3 ∷ []
numbers_that_change = refl

-- the gap is put after the others, and size, alignment and lowest stay
value_after : changed_value (Some change)
    (record { lower = 8; upper = 2; size = 4; alignment = 2; gaps = (9, 10) ∷ []; lowest = 6 })
    ≡ record { lower = 0; upper = 10; size = 4; alignment = 2; gaps = (9, 10) ∷ (2, 8) ∷ []; lowest = 6 }
value_after = refl

-- a row changes by its number
the_second_changes : changed_values (change ∷ []) (plain 2 8 4 1 ∷ plain 8 2 4 1 ∷ [])
    ≡ plain 2 8 4 1 ∷ record { lower = 0; upper = 10; size = 4; alignment = 1; gaps = (2, 8) ∷ []; lowest = 0 } ∷ []
the_second_changes = refl

-- lower and upper go under their own columns
fields_after : changed_row (codes "upper" ∷ codes "gaps" ∷ codes "lower" ∷ []) (Some change)
    (codes "2" ∷ [] ∷ codes "8" ∷ []) ≡ codes "10" ∷ codes "2-8" ∷ codes "0" ∷ []
unfolding digits
fields_after = refl

-- a row that does not change keeps its gaps
fields_that_stay : changed_row (codes "upper" ∷ codes "gaps" ∷ codes "lower" ∷ []) None
    (codes "2" ∷ codes "4-6" ∷ codes "8" ∷ []) ≡ codes "2" ∷ codes "4-6" ∷ codes "8" ∷ []
fields_that_stay = refl

headers_after : (changed_header (codes "id" ∷ codes "gaps" ∷ codes "size" ∷ [])
    ≡ codes "id" ∷ codes "gaps" ∷ codes "size" ∷ [])
    × (changed_header (codes "id" ∷ codes "size" ∷ []) ≡ codes "id" ∷ codes "size" ∷ codes "gaps" ∷ [])
headers_after = (refl, refl)

-- row 0 is the first after the header
records_after : changed_records ((codes "lower" ∷ codes "upper" ∷ []) ∷ (codes "2" ∷ codes "8" ∷ [])
    ∷ (codes "8" ∷ codes "2" ∷ []) ∷ []) (change ∷ [])
    ≡ (codes "lower" ∷ codes "upper" ∷ codes "gaps" ∷ []) ∷ (codes "2" ∷ codes "8" ∷ [] ∷ [])
    ∷ (codes "0" ∷ codes "10" ∷ codes "2-8" ∷ []) ∷ []
unfolding digits
records_after = refl

-- ---- what an iterator gives
-- it ends where nothing is left
not_before_the_end : (after : ByteRecordsIntoIter (Bor (List ℕ))) → GivesFirst ((codes "a" ∷ []) ∷ []) after None → ⊥
not_before_the_end after h = cc h

-- it never fails, and the property is of the fields of what it gives
no_failure : (e : Error) → GaveRecord (Err e) (λ fields. Unit {0}) → ⊥
no_failure e h = h

its_fields : (row : Row) → GaveRecord (Ok row) (λ fields. fields ≡ fields_of row)
its_fields row = refl
