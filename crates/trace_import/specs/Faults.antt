-- The trace that bytes write, or their first fault.
use Rattle.std.specs.Prelude.{ℕ, ◌+◌, Bool, not, ◌==◌, ◌&&◌, nat_le, List, [], ◌∷◌, ◌++◌, length, Option, Some, None, option_map, is_some, Result, Ok, Err}
use Rattle.std.specs.List.{list_any, slice_split, count_by}
use Rattle.std.specs.Option.{option_or, option_map_or}
use Rattle.std.specs.Str.{bytes_eq}
use Rattle.dsa_model.specs.Buffer.{alignment_limit, first_fault, size_limit, when, buffer_limit}
use Rattle.trace_import.specs.Lines.{event_in}
use Rattle.trace_import.specs.Traces.{Event, Alloc, Free, Trace, frees, is_alloc}
use Rattle.trace_import.specs.declared.fault.TraceFault.{TraceFault}
use Rattle.trace_import.specs.declared.fault.TraceFault.TheVariants as fault

-- ---- what is held
-- the number of the line, of lines that begin with that number, that allocates the identifier and that none after it
-- frees; the last such
abbrev pub holder_from : ℕ → List ℕ → List Event → Option ℕ
holder_from line id [] = None
holder_from line id (Alloc other size alignment ∷ after) =
    option_or (holder_from (line + 1) id after)
    (when (bytes_eq id other && not (list_any (frees id) after)) line)
holder_from line id (Free other ∷ after) = holder_from (line + 1) id after

-- the line that holds the identifier after these lines
unfoldable pub holder : List Event → List ℕ → Option ℕ
holder before id = holder_from 0 id before

-- ---- faults
-- it is 1 to that limit
abbrev pub is_to : ℕ → ℕ → Bool
is_to most n = nat_le 1 n && nat_le n most

-- what is wrong with the numbers of a line, by its own number
abbrev pub number_fault : ℕ → Event → Option TraceFault
number_fault line (Alloc id size alignment) = first_fault (
    when (not (is_to size_limit size)) (fault.BadSize line)
    ∷ when (not (is_to alignment_limit alignment)) (fault.BadAlignment line)
    ∷ [])
number_fault line (Free id) = None

-- what is wrong with a line beside those before it
abbrev pub place_fault : List Event → Event → Option TraceFault
place_fault before (Alloc id size alignment) = first_fault (
    option_map (fault.StillLive (length before)) (holder before id)
    ∷ when (nat_le buffer_limit (count_by is_alloc before)) (fault.TooManyBuffers (length before))
    ∷ [])
place_fault before (Free id) = when (not (is_some (holder before id))) (fault.NotLive (length before))

-- the first fault of a line that has its form, given those before it
abbrev pub event_fault : List Event → Event → Option TraceFault
event_fault before event = option_or (number_fault (length before) event) (place_fault before event)

-- the lines before and this one, or its fault
abbrev pub with_event : List Event → Option Event → Result (List Event) TraceFault
with_event before None = Err (fault.BadLine (length before))
with_event before (Some event) = option_map_or Err (event_fault before event) (Ok (before ++ event ∷ []))

-- ---- bytes
-- the lines before, where nothing follows the last NL
abbrev pub at_end : List Event → List ℕ → Result (List Event) TraceFault
at_end before [] = Ok before
at_end before bytes = Err (fault.BadLine (length before))

-- what stands between NLs and after the last of them, after the lines before; the first fault is that of the first line
-- that has one
abbrev pub read_from : Result (List Event) TraceFault → List (List ℕ) → Result (List Event) TraceFault
read_from (Err f) pieces = Err f
read_from (Ok before) [] = Ok before
read_from (Ok before) (last ∷ []) = at_end before last
read_from (Ok before) (piece ∷ next ∷ pieces) = read_from (with_event before (event_in piece)) (next ∷ pieces)

-- what stands between NLs, and after the last of them
abbrev pub pieces_of : List ℕ → List (List ℕ)
pieces_of bytes = slice_split (λ c. c == 10) bytes

-- the trace that bytes write, or their first fault
unfoldable pub trace_of : List ℕ → Result Trace TraceFault
trace_of bytes = read_from (Ok []) (pieces_of bytes)
