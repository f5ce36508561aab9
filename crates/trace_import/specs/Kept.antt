-- What every trace that was read keeps.
use Rattle.std.specs.Prelude.{◌≡◌, ◌≤◌, length, map}
use Rattle.std.specs.List.{count_by}
use Rattle.dsa_model.specs.Buffer.{buffer_limit}
use Rattle.dsa_model.specs.Limits.{file_limit}
use Rattle.trace_import.specs.Limits.{AreWithin}
use Rattle.trace_import.specs.Traces.{Event, Alloc, Free, Trace, is_alloc}
use Rattle.trace_import.specs.declared.line.Line.{Line}
use Rattle.trace_import.specs.declared.line.Line.TheVariants as line
use Rattle.trace_import.specs.declared.trace.Trace.TheInside.{Inside}

-- the line that is kept
abbrev pub line_value : Line → Event
line_value (line.Alloc id size alignment) = Alloc id.items size alignment
line_value (line.Free id) = Free id.items

-- the lines of a trace
abbrev pub events_of : Inside → Trace
events_of a = map line_value a.lines.items

-- its allocations are within their limits, there are no more of them than an instance has buffers, and the count of
-- them is noted; there are no more lines than a file has bytes
pub record IsKeptTrace (a : Inside) : Type 0 where
  pub within : AreWithin (events_of a)
  pub few : a.buffers ≤ buffer_limit
  pub counted : a.buffers ≡ count_by is_alloc (events_of a)
  pub short : length (events_of a) ≤ file_limit
