-- The numbers of a row, once read, and what is wrong with how long it and its id are.
use Rattle.std.specs.Prelude.{◌≡◌, ◌==◌, ◌∷◌, [], ℕ, Option, Some, nat_lt, not}
use Rattle.dsa_model.specs.Buffer.{first_fault, when, buffer_limit}
use Rattle.csv_instance.specs.Parse.{id_limit, number_under}
use Rattle.csv_instance.specs.Records.{Record}
use Rattle.csv_instance.specs.declared.columns.Column.TheVariants.{Lower, Upper, Size, Alignment, Lowest}
use Rattle.csv_instance.specs.declared.fault.InstanceFault.{InstanceFault}
use Rattle.csv_instance.specs.declared.fault.InstanceFault.TheVariants as fault
use Rattle.csv_instance.specs.declared.row.Numbers.{Numbers}

-- these are the numbers under the row's columns
pub record AreNumbers (header row : Record) (n : Numbers) : Type 0 where
  pub lower : number_under header row Lower ≡ Some n.lower
  pub upper : number_under header row Upper ≡ Some n.upper
  pub size : number_under header row Size ≡ Some n.size
  pub alignment : number_under header row Alignment ≡ Some n.alignment
  pub lowest : number_under header row Lowest ≡ Some n.lowest

-- what is wrong with a row of this number, with this many fields and this many bytes of id, under a header of this many
abbrev pub length_fault : ℕ → ℕ → ℕ → ℕ → Option InstanceFault
length_fault number header row id = first_fault (
    when (number == buffer_limit) fault.TooManyBuffers
    ∷ when (not (row == header)) (fault.FieldCount number)
    ∷ when (id == 0) (fault.EmptyId number)
    ∷ when (nat_lt id_limit id) (fault.IdTooLong number)
    ∷ [])
