-- Lines as they are read.
use Rattle.std.specs.Prelude.{◌≡◌, ℕ, List, true, is_some, if◌then◌else◌, Option, Some, None}
use Rattle.std.specs.Str.Parse.{digits_value}
use Rattle.trace_import.specs.Faults.{is_to, number_fault}
use Rattle.trace_import.specs.Lines.{event_in, event_of, is_id, number_of}
use Rattle.trace_import.specs.Traces.{Event, Alloc, Free}
use Rattle.trace_import.specs.declared.request.Request.{Request}
use Rattle.trace_import.specs.declared.request.Request.TheVariants as request
use Rattle.trace_import.specs.declared.request.Words.{Words}
use Rattle.trace_import.specs.declared.request.Words.TheVariants as written

-- the number, where it is 1 to that limit
abbrev pub within_range : ℕ → ℕ → Option ℕ
within_range most n = if is_to most n then Some n else None

-- these are the words of an allocation of the form
pub record AreAllocWords (words : List (List ℕ)) (id size alignment : List ℕ) : Type 0 where
  pub writes : event_of words ≡ Some (Alloc id (digits_value 10 size) (digits_value 10 alignment))
  pub identifies : is_id id ≡ true
  pub sized : is_some (number_of size) ≡ true
  pub aligned : is_some (number_of alignment) ≡ true

-- these are the words of a line that frees
pub record AreFreeWords (words : List (List ℕ)) (id : List ℕ) : Type 0 where
  pub writes : event_of words ≡ Some (Free id)
  pub identifies : is_id id ≡ true

-- these are the words of a line that has its form
abbrev pub AreWords : List (List ℕ) → Words → Type 0
AreWords words (written.Alloc id size alignment) = AreAllocWords words id.now size.now alignment.now
AreWords words (written.Free id) = AreFreeWords words id.now

-- the line that was read
abbrev pub event_value : Request → Event
event_value (request.Alloc id size alignment) = Alloc id.now size alignment
event_value (request.Free id) = Free id.now

-- the identifier of a line
abbrev pub id_of : Event → List ℕ
id_of (Alloc id size alignment) = id
id_of (Free id) = id

-- the bytes write this line, and nothing is wrong with its numbers
pub record IsRead (bytes : List ℕ) (line : ℕ) (event : Event) : Type 0 where
  pub writes : event_in bytes ≡ Some event
  pub good : number_fault line event ≡ None
  pub identifies : is_id (id_of event) ≡ true
