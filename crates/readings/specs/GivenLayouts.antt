-- What a layout file comes to: a layout, or a status that ends the run.
use Rattle.std.specs.Prelude.{◌≡◌, ◌⊎◌, ℕ, List, Some, Ok, Err}
use Rattle.dsa_terms.specs.Buffers.{Instance}
use Rattle.dsa_terms.specs.Layouts.{IsLayout}
use Rattle.dsa_model.specs.LayoutFaults.{layout_fault}
use Rattle.dsa_model.specs.declared.layout.LayoutFault.{LayoutFault}
use Rattle.csv_instance.specs.Records.{Record, table_of}
use Rattle.csv_instance.specs.Parse.{parse}
use Rattle.csv_instance.specs.Offsets.{ids_of, parsed_offsets}
use Rattle.csv_instance.specs.declared.fault.OffsetsFault.{OffsetsFault}
use Rattle.command_words.specs.Options.{Word}
use Rattle.command_words.specs.declared.role.Role.TheVariants as role
use Rattle.run_status.specs.declared.status.Status.{Status}
use Rattle.run_status.specs.declared.status.Status.TheVariants.{Wrong}
use Rattle.run_status.specs.declared.status.WrongCause.TheVariants as wrong
use Rattle.dsa_outside.specs.Seen.{FilesSeen}
use Rattle.run_course.specs.Readings.{IsWholeFile}
use Rattle.run_course.specs.Course.{IsUnreadable}
use Rattle.readings.specs.declared.layout_file.Judged.{Judged}
use Rattle.readings.specs.declared.layout_file.Judged.TheVariants as judged

-- the file gives offsets, which are a layout at the capacity
pub record GivesLayout (files : FilesSeen) (name : Word) (table : List Record) (I : Instance) (C : ℕ)
    (offsets : List ℕ) : Type 0 where
  pub bytes : List ℕ
  pub whole : IsWholeFile files role.Layout name bytes
  pub parsed : parsed_offsets (ids_of table) (table_of bytes) ≡ Ok offsets
  pub layout : IsLayout I C offsets

-- the file gives no offsets, for its first fault
pub record GivesNoOffsets (files : FilesSeen) (name : Word) (table : List Record) (s : Status) : Type 0 where
  pub bytes : List ℕ
  pub fault : OffsetsFault
  pub told : s ≡ Wrong (wrong.Offsets fault)
  pub whole : IsWholeFile files role.Layout name bytes
  pub refused : parsed_offsets (ids_of table) (table_of bytes) ≡ Err fault

-- the file gives offsets, which are no layout at the capacity, for their first fault
pub record GivesWrongOffsets (files : FilesSeen) (name : Word) (table : List Record) (I : Instance) (C : ℕ)
    (s : Status) : Type 0 where
  pub bytes : List ℕ
  pub offsets : List ℕ
  pub fault : LayoutFault
  pub told : s ≡ Wrong (wrong.Layout fault)
  pub whole : IsWholeFile files role.Layout name bytes
  pub parsed : parsed_offsets (ids_of table) (table_of bytes) ≡ Ok offsets
  pub refused : layout_fault I C offsets ≡ Some fault

-- the layout, or why there is none
abbrev pub JudgesAt : FilesSeen → FilesSeen → Word → List Record → Instance → ℕ → Judged → Type 0
JudgesAt old new name table I C (judged.Layout offsets) = GivesLayout old name table I C offsets.items
JudgesAt old new name table I C (judged.NoLayout s) = IsUnreadable old new role.Layout name s
    ⊎ GivesNoOffsets old name table s ⊎ GivesWrongOffsets old name table I C s

-- what the file comes to for the table's instance
pub record JudgesTable (old new : FilesSeen) (name : Word) (table : List Record) (C : ℕ) (found : Judged) :
    Type 0 where
  pub instance : Instance
  pub parsed : parse table ≡ Ok instance
  pub judged : JudgesAt old new name table instance C found
