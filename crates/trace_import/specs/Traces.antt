-- Recorded runs of allocations, and their instances.
use Rattle.std.specs.Prelude.{◌≡◌, ◌↔◌, ℕ, ◌+◌, ◌<◌, ◌≤◌, Bool, true, false, List, [], ◌∷◌, length, map, slice_get}
use Rattle.std.specs.declared.option.Option.TheVariants.{Some}
use Rattle.std.specs.List.{position_or_len}
use Rattle.std.specs.Str.{bytes_eq}
use Rattle.dsa_terms.specs.Buffers.{Buffer, Instance, IsLive}
use Rattle.dsa_terms.specs.Claims.{IsIn, Rises}
use Rattle.dsa_model.specs.Buffer.{buffer_of}

-- a line of a trace: an identifier is allocated, or freed
pub data Event : Type 0 where
  Alloc : (id : List ℕ) (size alignment : ℕ) → Event
  Free : (id : List ℕ) → Event

-- a trace, whose lines are numbered from 0
abbrev pub Trace : Type 0
Trace = List Event

-- the line allocates
abbrev pub is_alloc : Event → Bool
is_alloc (Alloc id size alignment) = true
is_alloc (Free id) = false

-- the line frees the identifier
abbrev pub frees : List ℕ → Event → Bool
frees id (Alloc other size alignment) = false
frees id (Free other) = bytes_eq id other

-- after line t what that line allocated is held: it stands at or before t, and no line after it, at or before t, frees
-- its identifier
pub record IsHeld (trace : Trace) (t line size alignment : ℕ) : Type 0 where
  pub id : List ℕ
  pub allocates : slice_get trace line ≡ Some (Alloc id size alignment)
  pub started : line ≤ t
  pub unfreed : (f : ℕ) → line < f → f ≤ t → slice_get trace f ≡ Some (Free id) → ⊥

-- the number of the line that ends what a line holds, with the lines after it: the first of them that frees the
-- identifier, or else the count of all lines
abbrev pub end_of : (line : ℕ) (id : List ℕ) (after : List Event) → ℕ
end_of line id after = line + 1 + position_or_len (frees id) after

-- the buffer of an allocation at that line, with the lines after it
abbrev pub allocated : (line : ℕ) (id : List ℕ) (size alignment : ℕ) (after : List Event) → Buffer
allocated line id size alignment after = buffer_of line (end_of line id after) size alignment [] 0

-- the buffers of lines that begin with that number
abbrev pub imported_from : ℕ → List Event → List Buffer
imported_from line [] = []
imported_from line (Alloc id size alignment ∷ after) =
    allocated line id size alignment after ∷ imported_from (line + 1) after
imported_from line (Free id ∷ after) = imported_from (line + 1) after

-- the instance of a trace: one buffer for each allocation, in order, whose moments are the numbers of lines
unfoldable pub imported : Trace → Instance
imported trace = imported_from 0 trace

-- some buffer from that line on is live at t, with that size and alignment
pub record HasLive (I : Instance) (t line size alignment : ℕ) : Type 0 where
  pub buffer : Buffer
  pub among : IsIn buffer I
  pub its_line : buffer.lower ≡ line
  pub its_size : buffer.size ≡ size
  pub its_alignment : buffer.alignment ≡ alignment
  pub live : IsLive buffer t

-- the instance holds at each moment what the trace does: at a moment before the count of lines just what is held after
-- the line of that number, with its size and alignment; no two of its buffers are of one line; and nothing later
pub record IsTraced (trace : Trace) (I : Instance) : Type 0 where
  pub held : (t line size alignment : ℕ) → t < length trace →
      IsHeld trace t line size alignment ↔ HasLive I t line size alignment
  pub one_each : Rises (map (λ (b : Buffer). b.lower) I)
  pub over : (t : ℕ) (b : Buffer) → length trace ≤ t → IsIn b I → IsLive b t → ⊥

-- each size and each alignment is at least 1
abbrev pub AreSound : Trace → Type 0
AreSound trace =
    (id : List ℕ) (size alignment : ℕ) → IsIn (Alloc id size alignment) trace → (1 ≤ size) × (1 ≤ alignment)
