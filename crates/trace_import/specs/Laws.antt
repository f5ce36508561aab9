-- What faults say of what is held.
use Rattle.std.specs.Prelude.{◌≡◌, ℕ, ◌-◌, List, Some, length, map, slice_get, take}
use Rattle.trace_import.specs.Faults.{pieces_of}
use Rattle.trace_import.specs.Lines.{event_in}
use Rattle.trace_import.specs.Traces.{Event, Alloc, Free, IsHeld, Trace}

-- the line holds the identifier after these lines
pub record HoldsAfter (before : Trace) (line : ℕ) (id : List ℕ) : Type 0 where
  pub size : ℕ
  pub alignment : ℕ
  pub held : IsHeld before (length before - 1) line size alignment
  pub its_id : held.id ≡ id

-- the bytes begin with these lines, and the next, which has its form, is that one
pub record Reaches (bytes : List ℕ) (before : Trace) (event : Event) : Type 0 where
  pub piece : List ℕ
  pub lines : map event_in (take (length before) (pieces_of bytes)) ≡ map Some before
  pub next : slice_get (pieces_of bytes) (length before) ≡ Some piece
  pub writes : event_in piece ≡ Some event

-- the bytes come to an allocation at the line whose identifier the line `earlier`, and no other, holds there
pub record IsStillLive (bytes : List ℕ) (line earlier : ℕ) : Type 0 where
  pub before : Trace
  pub count : length before ≡ line
  pub id : List ℕ
  pub size : ℕ
  pub alignment : ℕ
  pub reaches : Reaches bytes before (Alloc id size alignment)
  pub holds : HoldsAfter before earlier id
  pub alone : (other : ℕ) → HoldsAfter before other id → other ≡ earlier

-- the bytes come to a line that frees an identifier that no line holds there
pub record IsNotLive (bytes : List ℕ) (line : ℕ) : Type 0 where
  pub before : Trace
  pub count : length before ≡ line
  pub id : List ℕ
  pub reaches : Reaches bytes before (Free id)
  pub none : (other : ℕ) → HoldsAfter before other id → ⊥
