-- The texts of a trace's faults, as they are printed.
use Rattle.std.specs.Prelude.{ℕ, List, ◌++◌, codes, decimal}
use Rattle.trace_import.specs.declared.fault.TraceFault.{TraceFault}
use Rattle.trace_import.specs.declared.fault.TraceFault.TheVariants as fault

-- what is wrong with a trace
abbrev pub trace_fault_text : TraceFault → List ℕ
trace_fault_text (fault.BadLine line) = codes "bad line " ++ decimal line
trace_fault_text (fault.BadSize line) = codes "bad size " ++ decimal line
trace_fault_text (fault.BadAlignment line) = codes "bad alignment " ++ decimal line
trace_fault_text (fault.StillLive line earlier) = codes "still live " ++ decimal line ++ codes " " ++ decimal earlier
trace_fault_text (fault.NotLive line) = codes "not live " ++ decimal line
trace_fault_text (fault.TooManyBuffers line) = codes "too many buffers " ++ decimal line
