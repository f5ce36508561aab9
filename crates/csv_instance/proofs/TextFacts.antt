-- What is printed of the faults of instance files and layout files.
use Rattle.std.proofs.Common.{◌≡◌, codes, refl}
use Rattle.std.specs.Fmt.{digits}
use Rattle.dsa_model.specs.declared.buffer_fault.BufferFault.TheVariants as buffer
use Rattle.csv_instance.specs.FaultTexts.{instance_text, offsets_text, row_fault_text}
use Rattle.csv_instance.specs.declared.columns.Column.TheVariants as column
use Rattle.csv_instance.specs.declared.fault.InstanceFault.TheVariants as instance
use Rattle.csv_instance.specs.declared.fault.OffsetsFault.TheVariants as offsets

-- ---- instance files
a_row : row_fault_text 12 (codes "zero size") ≡ codes "row 12 zero size"
unfolding digits
a_row = refl

no_header : instance_text instance.NoHeader ≡ codes "no header"
no_header = refl

duplicate_column : instance_text (instance.DuplicateColumn column.Lower) ≡ codes "duplicate column lower"
duplicate_column = refl

missing_column : instance_text (instance.MissingColumn column.Size) ≡ codes "missing column size"
missing_column = refl

duplicate_id : instance_text (instance.DuplicateId 4 1) ≡ codes "row 4 duplicate id 1"
unfolding digits
duplicate_id = refl

bad_number : instance_text (instance.BadNumber 0 column.Upper) ≡ codes "row 0 bad number upper"
unfolding digits
bad_number = refl

bad_buffer : instance_text (instance.BadBuffer 3 buffer.ZeroSize) ≡ codes "row 3 zero size"
unfolding digits
bad_buffer = refl

headers : (instance_text instance.MarkedHeader ≡ codes "marked header")
    × (instance_text instance.OffsetColumn ≡ codes "offset column")
    × (instance_text instance.TooManyBuffers ≡ codes "too many buffers")
headers = (refl, refl, refl)

rows : (instance_text (instance.FieldCount 1) ≡ codes "row 1 field count")
    × (instance_text (instance.EmptyId 2) ≡ codes "row 2 empty id")
    × (instance_text (instance.IdTooLong 3) ≡ codes "row 3 id too long")
    × (instance_text (instance.BadGap 4) ≡ codes "row 4 bad gap")
unfolding digits
rows = (refl, refl, refl, refl)

-- ---- layout files
unknown_id : offsets_text (offsets.UnknownId 2) ≡ codes "row 2 unknown id"
unfolding digits
unknown_id = refl

bad_offset : offsets_text (offsets.BadNumber 0) ≡ codes "row 0 bad number offset"
unfolding digits
bad_offset = refl

missing_id : offsets_text (offsets.MissingId 5) ≡ codes "missing id 5"
unfolding digits
missing_id = refl

headers_of_layouts : (offsets_text offsets.NoHeader ≡ codes "no header")
    × (offsets_text (offsets.DuplicateColumn column.Offset) ≡ codes "duplicate column offset")
    × (offsets_text (offsets.MissingColumn column.Id) ≡ codes "missing column id")
headers_of_layouts = (refl, refl, refl)

rows_of_layouts : (offsets_text (offsets.FieldCount 1) ≡ codes "row 1 field count")
    × (offsets_text (offsets.DuplicateId 4 1) ≡ codes "row 4 duplicate id 1")
unfolding digits
rows_of_layouts = (refl, refl)
