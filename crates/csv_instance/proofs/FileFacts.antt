-- Small files, and what they read as.
use Rattle.std.proofs.Common.{◌≡◌, List, ℕ, [], ◌∷◌, Ok, Err, codes, refl}
use Rattle.csv.specs.Machine.{next_record}
use Rattle.csv.specs.Reading.{records_from, strip_bom}
use Rattle.dsa_terms.specs.Buffers.{Instance, is_live, some_before}
use Rattle.dsa_terms.proofs.Examples.{five, plain}
use Rattle.dsa_model.specs.Buffer.{is_ever_live}
use Rattle.csv_instance.specs.Offsets.{ids_of, parsed_offsets}
use Rattle.csv_instance.specs.Parse.{parse}
use Rattle.csv_instance.specs.Records.{Record, table_of}
use Rattle.csv_instance.specs.declared.fault.InstanceFault.TheVariants as instance
use Rattle.csv_instance.specs.declared.fault.OffsetsFault.TheVariants as offsets

-- ---- five buffers
abbrev pub five_file : List ℕ
five_file = codes "id,lower,upper,size\nb1,0,3,4\nb2,3,9,4\nb3,0,9,4\nb4,9,21,4\nb5,0,21,4\n"

abbrev pub five_rows : List Record
five_rows =
    (codes "id" ∷ codes "lower" ∷ codes "upper" ∷ codes "size" ∷ [])
    ∷ (codes "b1" ∷ codes "0" ∷ codes "3" ∷ codes "4" ∷ [])
    ∷ (codes "b2" ∷ codes "3" ∷ codes "9" ∷ codes "4" ∷ [])
    ∷ (codes "b3" ∷ codes "0" ∷ codes "9" ∷ codes "4" ∷ [])
    ∷ (codes "b4" ∷ codes "9" ∷ codes "21" ∷ codes "4" ∷ [])
    ∷ (codes "b5" ∷ codes "0" ∷ codes "21" ∷ codes "4" ∷ []) ∷ []

pub five_reads : table_of five_file ≡ five_rows
unfolding strip_bom records_from next_record
five_reads = refl

pub five_parse : parse five_rows ≡ Ok five
unfolding is_live some_before is_ever_live
five_parse = refl

pub no_bytes : parse (table_of []) ≡ Err instance.NoHeader
unfolding strip_bom records_from next_record
no_bytes = refl

-- ---- two buffers that are both live at 4
abbrev pub two_file : List ℕ
two_file = codes "id,lower,upper,size,alignment\nX,0,5,4,1\nY,4,8,4,1\n"

abbrev pub two_rows : List Record
two_rows =
    (codes "id" ∷ codes "lower" ∷ codes "upper" ∷ codes "size" ∷ codes "alignment" ∷ [])
    ∷ (codes "X" ∷ codes "0" ∷ codes "5" ∷ codes "4" ∷ codes "1" ∷ [])
    ∷ (codes "Y" ∷ codes "4" ∷ codes "8" ∷ codes "4" ∷ codes "1" ∷ []) ∷ []

abbrev pub two : Instance
two = plain 0 5 4 1 ∷ plain 4 8 4 1 ∷ []

pub two_reads : table_of two_file ≡ two_rows
unfolding strip_bom records_from next_record
two_reads = refl

pub two_parse : parse two_rows ≡ Ok two
unfolding is_live some_before is_ever_live
two_parse = refl

-- ---- layout files of the two
abbrev pub low_file : List ℕ
low_file = codes "id,offset\nY,2\nX,0\n"

abbrev pub high_file : List ℕ
high_file = codes "id,offset\nY,4\nX,0\n"

abbrev pub short_file : List ℕ
short_file = codes "id,offset\nX,0\n"

pub low_offsets : parsed_offsets (ids_of two_rows) (table_of low_file) ≡ Ok (0 ∷ 2 ∷ [])
unfolding strip_bom records_from next_record
low_offsets = refl

pub high_offsets : parsed_offsets (ids_of two_rows) (table_of high_file) ≡ Ok (0 ∷ 4 ∷ [])
unfolding strip_bom records_from next_record
high_offsets = refl

pub without_y : parsed_offsets (ids_of two_rows) (table_of short_file) ≡ Err (offsets.MissingId 1)
unfolding strip_bom records_from next_record
without_y = refl
