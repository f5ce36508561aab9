-- What reading the input comes to: its table, or a status that ends the run.
use Rattle.std.specs.Prelude.{◌≡◌, ◌⊎◌, ℕ, List, Ok, Err}
use Rattle.dsa_terms.specs.Buffers.{Instance}
use Rattle.csv_instance.specs.Records.{Record, table_of}
use Rattle.csv_instance.specs.Parse.{parse}
use Rattle.csv_instance.specs.declared.fault.InstanceFault.{InstanceFault}
use Rattle.command_words.specs.Options.{Word}
use Rattle.command_words.specs.declared.role.Role.TheVariants as role
use Rattle.run_status.specs.declared.status.Status.TheVariants.{Malformed}
use Rattle.dsa_outside.specs.Seen.{FilesSeen}
use Rattle.run_course.specs.Readings.{IsWholeFile}
use Rattle.run_course.specs.Course.{IsUnreadable}
use Rattle.readings.specs.declared.input.Input.{Input}
use Rattle.readings.specs.declared.input.Input.TheVariants as input

-- the input holds this table, which is this instance
pub record IsInput (files : FilesSeen) (name : Word) (table : List Record) (I : Instance) : Type 0 where
  pub bytes : List ℕ
  pub whole : IsWholeFile files role.Input name bytes
  pub records : table ≡ table_of bytes
  pub parsed : parse table ≡ Ok I

-- the input's bytes are no instance, for their first fault
pub record IsMalformed (files : FilesSeen) (name : Word) (fault : InstanceFault) : Type 0 where
  pub bytes : List ℕ
  pub whole : IsWholeFile files role.Input name bytes
  pub refused : parse (table_of bytes) ≡ Err fault

-- the input's table with its instance, or why there is none
abbrev pub OpensInput : FilesSeen → FilesSeen → Word → Input → Type 0
OpensInput old new name (input.Table table) = (I : Instance) × IsInput old name table I
OpensInput old new name (input.Missing status) = IsUnreadable old new role.Input name status
    ⊎ ((fault : InstanceFault) × (status ≡ Malformed fault) × IsMalformed old name fault)
