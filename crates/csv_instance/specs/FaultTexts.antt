-- The texts of faults of instance files and layout files, as they are printed.
use Rattle.std.specs.Prelude.{ℕ, List, ◌++◌, codes, decimal}
use Rattle.dsa_model.specs.FaultTexts.{buffer_text}
use Rattle.csv_instance.specs.Columns.{name_of}
use Rattle.csv_instance.specs.declared.fault.InstanceFault.{InstanceFault}
use Rattle.csv_instance.specs.declared.fault.InstanceFault.TheVariants as instance
use Rattle.csv_instance.specs.declared.fault.OffsetsFault.{OffsetsFault}
use Rattle.csv_instance.specs.declared.fault.OffsetsFault.TheVariants as offsets

-- a row and what is wrong with it
abbrev pub row_fault_text : ℕ → List ℕ → List ℕ
row_fault_text row text = codes "row " ++ decimal row ++ codes " " ++ text

-- what is wrong with an instance file
abbrev pub instance_text : InstanceFault → List ℕ
instance_text instance.NoHeader = codes "no header"
instance_text instance.MarkedHeader = codes "marked header"
instance_text (instance.DuplicateColumn column) = codes "duplicate column " ++ name_of column
instance_text instance.OffsetColumn = codes "offset column"
instance_text (instance.MissingColumn column) = codes "missing column " ++ name_of column
instance_text instance.TooManyBuffers = codes "too many buffers"
instance_text (instance.FieldCount row) = row_fault_text row (codes "field count")
instance_text (instance.EmptyId row) = row_fault_text row (codes "empty id")
instance_text (instance.IdTooLong row) = row_fault_text row (codes "id too long")
instance_text (instance.DuplicateId row earlier) = row_fault_text row (codes "duplicate id " ++ decimal earlier)
instance_text (instance.BadNumber row column) = row_fault_text row (codes "bad number " ++ name_of column)
instance_text (instance.BadGap row) = row_fault_text row (codes "bad gap")
instance_text (instance.BadBuffer row fault) = row_fault_text row (buffer_text fault)

-- what is wrong with a layout file
abbrev pub offsets_text : OffsetsFault → List ℕ
offsets_text offsets.NoHeader = codes "no header"
offsets_text (offsets.DuplicateColumn column) = codes "duplicate column " ++ name_of column
offsets_text (offsets.MissingColumn column) = codes "missing column " ++ name_of column
offsets_text (offsets.FieldCount row) = row_fault_text row (codes "field count")
offsets_text (offsets.UnknownId row) = row_fault_text row (codes "unknown id")
offsets_text (offsets.DuplicateId row earlier) = row_fault_text row (codes "duplicate id " ++ decimal earlier)
offsets_text (offsets.BadNumber row) = row_fault_text row (codes "bad number offset")
offsets_text (offsets.MissingId buffer) = codes "missing id " ++ decimal buffer
