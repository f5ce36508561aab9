-- The faults of a row by the steps in which it is read: its length and id, its numbers and gaps, and its buffer.
use Rattle.std.specs.Prelude.{ℕ, List, [], ◌∷◌, not, ◌==◌, Option, option_map, length, nat_lt, position, is_some}
use Rattle.std.specs.Option.{option_or}
use Rattle.std.specs.Str.{bytes_eq}
use Rattle.dsa_model.specs.Buffer.{first_fault, when, buffer_fault, buffer_limit}
use Rattle.csv_instance.specs.Records.{Record}
use Rattle.csv_instance.specs.Gaps.{gaps_of}
use Rattle.csv_instance.specs.Columns.{field_of}
use Rattle.csv_instance.specs.Parse.{bad_column, id_limit, row_buffer}
use Rattle.csv_instance.specs.declared.columns.Column.TheVariants.{Id, Gaps}
use Rattle.csv_instance.specs.declared.fault.InstanceFault.{InstanceFault}
use Rattle.csv_instance.specs.declared.fault.InstanceFault.TheVariants as fault

-- what can be wrong with a row's length and id, given the rows before it
abbrev pub id_faults : Record → List Record → Record → List (Option InstanceFault)
id_faults header before row =
    let number = length before in
    let id = field_of header row Id in
    when (number == buffer_limit) fault.TooManyBuffers
    ∷ when (not (length row == length header)) (fault.FieldCount number)
    ∷ when (length id == 0) (fault.EmptyId number)
    ∷ when (nat_lt id_limit (length id)) (fault.IdTooLong number)
    ∷ option_map (fault.DuplicateId number) (position (λ earlier. bytes_eq id (field_of header earlier Id)) before)
    ∷ []

-- the first of these
abbrev pub id_fault : Record → List Record → Record → Option InstanceFault
id_fault header before row = first_fault (id_faults header before row)

-- what can be wrong with the numbers and the gaps that a row of this number writes
abbrev pub form_faults : Record → ℕ → Record → List (Option InstanceFault)
form_faults header number row =
    option_map (fault.BadNumber number) (bad_column header row)
    ∷ when (not (is_some (gaps_of (field_of header row Gaps)))) (fault.BadGap number)
    ∷ []

-- the first of these
abbrev pub form_fault : Record → ℕ → Record → Option InstanceFault
form_fault header number row = first_fault (form_faults header number row)

-- the first fault of what a row says of its buffer
abbrev pub content_fault : Record → ℕ → Record → Option InstanceFault
content_fault header number row = option_or (form_fault header number row)
    (option_map (fault.BadBuffer number) (buffer_fault (row_buffer header row)))
