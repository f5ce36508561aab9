-- Small instance files, and what is told of how they are read.
use Rattle.std.proofs.Common.{◌≡◌, ◌++◌, List, [], ◌∷◌, Ok, codes, refl}
use Rattle.std.specs.Fmt.{digits}
use Rattle.csv.specs.Writing.{escaped, fields_text, is_blank}
use Rattle.dsa_model.specs.Buffer.{is_ever_live}
use Rattle.dsa_terms.specs.Buffers.{Instance, is_live, some_before}
use Rattle.csv_instance.specs.Parse.{parse}
use Rattle.csv_instance.specs.Records.{Record}
use Rattle.csv_instance.proofs.FileFacts.{two, two_rows}
use Rattle.column_report.specs.Columns.{column_row, columns_text, meaning_of}
use Rattle.column_report.specs.Counts.{counts_line, counts_of}
use Rattle.column_report.specs.Report.{inspect_text}

-- ---- columns

a_lowest : meaning_of (codes "lowest") ≡ codes "lowest"
a_lowest = refl

an_offset : meaning_of (codes "offset") ≡ codes "offset"
an_offset = refl

-- names are compared byte for byte
misspelt : meaning_of (codes "gap") ≡ codes "carried"
misspelt = refl

no_name : meaning_of [] ≡ codes "carried"
no_name = refl

-- the name as it stands in the file, and behind it what it means
a_read_row : column_row (codes "gaps") ≡ codes "gaps" ∷ codes "gaps" ∷ []
a_read_row = refl

a_carried_row : column_row (codes "Gaps") ≡ codes "Gaps" ∷ codes "carried" ∷ []
a_carried_row = refl

-- a name is quoted as the `csv` writer does
quoted : columns_text (codes "id" ∷ codes "a,\"b\"" ∷ []) ≡ codes "column,meaning\nid,id\n\"a,\"\"b\"\"\",carried\n"
unfolding escaped fields_text is_blank
quoted = refl

-- ---- a column `Alignment` is carried, so no buffer is aligned

misspelt_table : List Record
misspelt_table =
    (codes "id" ∷ codes "lower" ∷ codes "upper" ∷ codes "size" ∷ codes "Alignment" ∷ [])
    ∷ (codes "A" ∷ codes "0" ∷ codes "2" ∷ codes "4" ∷ codes "8" ∷ []) ∷ []

abbrev unaligned : Instance
unaligned = record { lower = 0; upper = 2; size = 4; alignment = 1; gaps = []; lowest = 0 } ∷ []

misspelt_read : parse misspelt_table ≡ Ok unaligned
unfolding misspelt_table is_live some_before is_ever_live
misspelt_read = refl

misspelt_told : inspect_text misspelt_table unaligned
    ≡ codes "buffers 1 of 4096 aligned 0 gaps 0 lowest 0\n"
    ++ codes "column,meaning\nid,id\nlower,lower\nupper,upper\nsize,size\nAlignment,carried\n"
unfolding misspelt_table digits escaped fields_text is_blank
misspelt_told = refl

-- ---- all columns, in another order

full_table : List Record
full_table =
    (codes "lowest" ∷ codes "gaps" ∷ codes "alignment" ∷ codes "size" ∷ codes "upper" ∷ codes "lower" ∷ codes "id" ∷ [])
    ∷ (codes "6" ∷ [] ∷ codes "4" ∷ codes "4" ∷ codes "9" ∷ codes "0" ∷ codes "A" ∷ [])
    ∷ ([] ∷ codes "1-2" ∷ codes "2" ∷ codes "1" ∷ codes "9" ∷ codes "0" ∷ codes "B" ∷ [])
    ∷ (codes "0" ∷ [] ∷ [] ∷ codes "1" ∷ codes "9" ∷ codes "0" ∷ codes "C" ∷ []) ∷ []

abbrev full : Instance
full =
    record { lower = 0; upper = 9; size = 4; alignment = 4; gaps = []; lowest = 6 }
    ∷ record { lower = 0; upper = 9; size = 1; alignment = 2; gaps = (1, 2) ∷ []; lowest = 0 }
    ∷ record { lower = 0; upper = 9; size = 1; alignment = 1; gaps = []; lowest = 0 } ∷ []

full_read : parse full_table ≡ Ok full
unfolding full_table is_live some_before is_ever_live
full_read = refl

full_told : inspect_text full_table full
    ≡ codes "buffers 3 of 4096 aligned 2 gaps 1 lowest 1\ncolumn,meaning\nlowest,lowest\ngaps,gaps\n"
    ++ codes "alignment,alignment\nsize,size\nupper,upper\nlower,lower\nid,id\n"
unfolding full_table digits escaped fields_text is_blank
full_told = refl

-- ---- an alignment of 1 is none

pub two_told : inspect_text two_rows two
    ≡ codes "buffers 2 of 4096 aligned 0 gaps 0 lowest 0\ncolumn,meaning\nid,id\nlower,lower\nupper,upper\n"
    ++ codes "size,size\nalignment,alignment\n"
unfolding digits fields_text is_blank
two_told = refl

-- ---- no buffers

none : counts_line (counts_of []) ≡ codes "buffers 0 of 4096 aligned 0 gaps 0 lowest 0\n"
unfolding digits
none = refl
