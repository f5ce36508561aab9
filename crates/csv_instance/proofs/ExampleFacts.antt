-- Small tables, and what the definitions say of them.
use Rattle.std.proofs.Common.{◌≡◌, ◌++◌, List, ℕ, [], ◌∷◌, Some, None, Ok, Err, codes, refl}
use Rattle.csv.specs.Machine.{next_record}
use Rattle.std.specs.Fmt.{digits}
use Rattle.csv.specs.Writing.{escaped, fields_text, is_blank}
use Rattle.csv.specs.Reading.{records_from, strip_bom}
use Rattle.dsa_model.specs.Buffer.{is_ever_live}
use Rattle.dsa_terms.specs.Buffers.{is_live, some_before}
use Rattle.dsa_model.specs.declared.buffer_fault.BufferFault.TheVariants as buffer
use Rattle.dsa_model.specs.Numbers.{written_number}
use Rattle.dsa_model.specs.Limits.{time_limit}
use Rattle.csv_instance.specs.Chosen.{chosen_records, chosen_text}
use Rattle.csv_instance.specs.Columns.{column_named}
use Rattle.csv_instance.specs.Gaps.{gaps_of}
use Rattle.csv_instance.specs.Layout.{layout_text}
use Rattle.csv_instance.specs.Offsets.{ids_of, layout_header_fault, parsed_offsets}
use Rattle.csv_instance.specs.Parse.{number_or, header_fault, parse}
use Rattle.csv_instance.specs.Records.{Record, header_of, table_of}
use Rattle.csv_instance.specs.declared.columns.Column.TheVariants.{Id, Lower, Upper, Gaps, Offset, Lowest}
use Rattle.csv_instance.specs.declared.fault.InstanceFault.TheVariants as fault
use Rattle.csv_instance.specs.declared.fault.OffsetsFault.TheVariants as offsets

-- ---- fields

greatest_moment : written_number time_limit (codes "4611686018427387903") ≡ Some 4611686018427387903
greatest_moment = refl

too_late : written_number time_limit (codes "4611686018427387904") ≡ None
too_late = refl

no_alignment : number_or 1 [] ≡ Some 1
no_alignment = refl

no_lowest : number_or 0 [] ≡ Some 0
no_lowest = refl

two_gaps : gaps_of (codes "4-6 1-2") ≡ Some ((4, 6) ∷ (1, 2) ∷ [])
two_gaps = refl

no_gaps : gaps_of [] ≡ Some []
no_gaps = refl

two_spaces : gaps_of (codes "1-2  4-6") ≡ None
two_spaces = refl

a_space_at_the_end : gaps_of (codes "1-2 ") ≡ None
a_space_at_the_end = refl

a_window : gaps_of (codes "1-2@4") ≡ None
a_window = refl

-- ---- records

-- empty lines give no record, a record may be shorter than the first, and the last needs no line's end
lines : table_of (codes "a,b" ++ 10 ∷ 13 ∷ 10 ∷ codes "\"c,\"\"d\"") ≡ (codes "a" ∷ codes "b" ∷ []) ∷
    (codes "c,\"d" ∷ []) ∷ []
unfolding strip_bom records_from next_record
lines = refl

-- one byte order mark is taken off
marks : table_of (239 ∷ 187 ∷ 191 ∷ 239 ∷ 187 ∷ 191 ∷ codes "a") ≡ ((239 ∷ 187 ∷ 191 ∷ codes "a") ∷ []) ∷ []
unfolding strip_bom records_from next_record
marks = refl

-- ---- headers

plain : Record
plain = codes "id" ∷ codes "lower" ∷ codes "upper" ∷ codes "size" ∷ []

no_records : parse [] ≡ Err fault.NoHeader
no_records = refl

no_rows : parse (plain ∷ []) ≡ Ok []
unfolding plain
no_rows = refl

-- a mark comes before all else that is wrong with a header
marked : header_fault ((239 ∷ 187 ∷ 191 ∷ codes "id") ∷ codes "offset" ∷ codes "offset" ∷ []) ≡ Some fault.MarkedHeader
marked = refl

-- of two columns that stand twice the one that comes first in the list of columns, wherever they stand
twice : header_fault (codes "lower" ∷ codes "lower" ∷ codes "offset" ∷ codes "id" ∷ codes "id" ∷ [])
    ≡ Some (fault.DuplicateColumn Id)
twice = refl

offset_twice : header_fault (codes "offset" ∷ codes "offset" ∷ []) ≡ Some (fault.DuplicateColumn Offset)
offset_twice = refl

solved : header_fault (codes "id" ∷ codes "offset" ∷ []) ≡ Some fault.OffsetColumn
solved = refl

missing : header_fault (codes "size" ∷ codes "Lower" ∷ codes "id" ∷ []) ≡ Some (fault.MissingColumn Lower)
missing = refl

carried : header_fault (codes "note" ∷ codes "size" ∷ codes "id" ∷ codes "note" ∷ codes "upper" ∷ codes "lower" ∷ [])
    ≡ None
carried = refl

-- a name is that of a column byte for byte
named : column_named (codes "gaps") ≡ Some Gaps
named = refl

misspelt : column_named (codes "Gaps") ≡ None
misspelt = refl

first_record : header_of (plain ∷ ([] ∷ []) ∷ []) ≡ plain
first_record = refl

no_header : header_of [] ≡ []
no_header = refl

-- ---- rows

full : Record
full = codes "size" ∷ codes "gaps" ∷ codes "id" ∷ codes "upper" ∷ codes "alignment" ∷ codes "lower" ∷ codes "note" ∷ []

-- columns come in any order, and an empty alignment is 1
read : parse (full ∷ (codes "4" ∷ codes "5-6 1-2" ∷ codes "A" ∷ codes "9" ∷ [] ∷ codes "00" ∷ codes "x" ∷ []) ∷ [])
    ≡ Ok (record { lower = 0; upper = 9; size = 4; alignment = 1; gaps = (5, 6) ∷ (1, 2) ∷ []; lowest = 0 } ∷ [])
unfolding full is_live some_before is_ever_live
read = refl

-- a lowest that is given, and an empty one, which is 0
abbrev lowered : Record
lowered = codes "id" ∷ codes "lower" ∷ codes "upper" ∷ codes "size" ∷ codes "lowest" ∷ []

low_read : parse (lowered ∷ (codes "A" ∷ codes "0" ∷ codes "1" ∷ codes "4" ∷ codes "6" ∷ [])
    ∷ (codes "B" ∷ codes "0" ∷ codes "1" ∷ codes "4" ∷ [] ∷ []) ∷ [])
    ≡ Ok (record { lower = 0; upper = 1; size = 4; alignment = 1; gaps = []; lowest = 6 }
    ∷ record { lower = 0; upper = 1; size = 4; alignment = 1; gaps = []; lowest = 0 } ∷ [])
unfolding is_live some_before is_ever_live
low_read = refl

lowest_too_large : parse (lowered ∷ (codes "A" ∷ codes "0" ∷ codes "1" ∷ codes "4" ∷ codes "1099511627777" ∷ []) ∷ [])
    ≡ Err (fault.BadBuffer 0 buffer.LowestTooLarge)
unfolding is_live some_before is_ever_live
lowest_too_large = refl

lowest_is_no_number : parse (lowered ∷ (codes "A" ∷ codes "0" ∷ codes "0" ∷ codes "0" ∷ codes "4K" ∷ []) ∷ [])
    ≡ Err (fault.BadNumber 0 Lowest)
lowest_is_no_number = refl

-- a column that stands twice comes before one of offsets
lowest_twice : header_fault (codes "lowest" ∷ codes "offset" ∷ codes "lowest" ∷ [])
    ≡ Some (fault.DuplicateColumn Lowest)
lowest_twice = refl

-- all faults of a row come before those of the next
row_by_row : parse (plain ∷ (codes "A" ∷ codes "0" ∷ codes "0" ∷ codes "1" ∷ []) ∷ ([] ∷ []) ∷ [])
    ≡ Err (fault.BadBuffer 0 buffer.EmptyLifetime)
unfolding plain
row_by_row = refl

few_fields : parse (plain ∷ ([] ∷ []) ∷ []) ≡ Err (fault.FieldCount 0)
unfolding plain
few_fields = refl

no_id : parse (plain ∷ ([] ∷ codes "x" ∷ [] ∷ [] ∷ []) ∷ []) ≡ Err (fault.EmptyId 0)
unfolding plain
no_id = refl

same_id : parse (plain ∷ (codes "A" ∷ codes "0" ∷ codes "1" ∷ codes "1" ∷ []) ∷ (codes "A" ∷ [] ∷ [] ∷ [] ∷ []) ∷ [])
    ≡ Err (fault.DuplicateId 1 0)
unfolding plain is_live some_before is_ever_live
same_id = refl

-- the first bad number in the order of the columns, wherever they stand
bad_numbers : parse (full ∷ ([] ∷ codes "x" ∷ codes "A" ∷ [] ∷ [] ∷ codes "0" ∷ [] ∷ []) ∷ [])
    ≡ Err (fault.BadNumber 0 Upper)
unfolding full
bad_numbers = refl

bad_gap : parse (full ∷ (codes "0" ∷ codes "1 2" ∷ codes "A" ∷ codes "0" ∷ codes "0" ∷ codes "0" ∷ [] ∷ []) ∷ [])
    ≡ Err (fault.BadGap 0)
unfolding full
bad_gap = refl

never_live : parse (full ∷ (codes "4" ∷ codes "0-2 1-3" ∷ codes "A" ∷ codes "3" ∷ codes "1" ∷ codes "0" ∷ [] ∷ []) ∷ [])
    ≡ Err (fault.BadBuffer 0 buffer.NeverLive)
unfolding full is_live some_before is_ever_live
never_live = refl

-- ---- layouts

two : List Record
two = (codes "id" ∷ codes "note" ∷ []) ∷ (codes "A" ∷ codes "x,y" ∷ []) ∷ (codes "B" ∷ [] ∷ []) ∷ []

written : layout_text two (12 ∷ 0 ∷ []) ≡ codes "id,note,offset" ++ 10 ∷ codes "A,\"x,y\",12" ++ 10 ∷ codes "B,,0"
    ++ 10 ∷ []
unfolding two digits escaped fields_text is_blank
written = refl

-- ---- some rows
last_row : chosen_records two (1 ∷ []) ≡ (codes "id" ∷ codes "note" ∷ []) ∷ (codes "B" ∷ [] ∷ []) ∷ []
unfolding two
last_row = refl

first_row_written : chosen_text two (0 ∷ []) ≡ codes "id,note" ++ 10 ∷ codes "A,\"x,y\"" ++ 10 ∷ []
unfolding two escaped fields_text is_blank
first_row_written = refl

header_alone_stays : chosen_records two [] ≡ (codes "id" ∷ codes "note" ∷ []) ∷ []
unfolding two
header_alone_stays = refl

known : List (List ℕ)
known = codes "A" ∷ codes "B" ∷ []

ids : ids_of two ≡ known
unfolding two known
ids = refl

-- rows come in any order, and other columns may stand twice
by_buffer : parsed_offsets known
    ((codes "x" ∷ codes "offset" ∷ codes "x" ∷ codes "id" ∷ []) ∷ ([] ∷ codes "07" ∷ [] ∷ codes "B" ∷ []) ∷
    ([] ∷ codes "2" ∷ [] ∷ codes "A" ∷ []) ∷ [])
    ≡ Ok (2 ∷ 7 ∷ [])
unfolding known
by_buffer = refl

solution : Record
solution = codes "id" ∷ codes "offset" ∷ []

nothing : parsed_offsets [] [] ≡ Err offsets.NoHeader
nothing = refl

both_twice : layout_header_fault (codes "offset" ∷ codes "offset" ∷ codes "id" ∷ codes "id" ∷ [])
    ≡ Some (offsets.DuplicateColumn Id)
both_twice = refl

both_missing : layout_header_fault [] ≡ Some (offsets.MissingColumn Id)
both_missing = refl

-- an unknown id comes before its bad offset
unknown : parsed_offsets known (solution ∷ (codes "C" ∷ codes "x" ∷ []) ∷ []) ≡ Err (offsets.UnknownId 0)
unfolding known solution
unknown = refl

-- the earlier row is one of the layout file
again : parsed_offsets known (solution ∷ (codes "B" ∷ codes "0" ∷ []) ∷ (codes "B" ∷ codes "x" ∷ []) ∷ [])
    ≡ Err (offsets.DuplicateId 1 0)
unfolding known solution
again = refl

too_high : parsed_offsets known (solution ∷ (codes "B" ∷ codes "1152921504606846977" ∷ []) ∷ [])
    ≡ Err (offsets.BadNumber 0)
unfolding known solution
too_high = refl

-- a missing id comes after all faults of rows, and is the least
not_there : parsed_offsets (codes "C" ∷ known) (solution ∷ (codes "A" ∷ codes "0" ∷ []) ∷ [])
    ≡ Err (offsets.MissingId 0)
unfolding known solution
not_there = refl
