-- The exit codes of the statuses.
use Rattle.std.specs.Prelude.{ℕ}
use Rattle.run_status.specs.declared.status.Status.{Status}
use Rattle.run_status.specs.declared.status.Status.TheVariants.{Feasible, Infeasible, Least, Open, Right, Wrong, Accepted, LogRefused, Trimmed, Upgraded, Drawn, Imported, TraceRefused, Unrolled, CycleRefused, Classed, NotPlain, Core, NoCore, Shown, Usage, Malformed, ReadFault, TooLong, WriteFault, PrintFault, TooMany, NoMemory}

-- the exit code of a status
abbrev pub code_of : Status → ℕ
code_of (Feasible capacity) = 0
code_of (Infeasible capacity) = 1
code_of (Least capacity) = 0
code_of (Open low high) = 2
code_of Right = 0
code_of (Wrong cause) = 1
code_of (Accepted capacity) = 0
code_of (LogRefused cause) = 1
code_of (Trimmed before after) = 0
code_of (Upgraded lines) = 0
code_of (Drawn rectangles) = 0
code_of (Imported buffers) = 0
code_of (TraceRefused fault) = 4
code_of (Unrolled buffers) = 0
code_of (CycleRefused fault) = 4
code_of (Classed height load) = 0
code_of (NotPlain buffer) = 4
code_of (Core members) = 1
code_of (NoCore capacity) = 0
code_of Shown = 0
code_of (Usage fault) = 3
code_of (Malformed fault) = 4
code_of (ReadFault role) = 5
code_of (TooLong role) = 7
code_of (WriteFault role) = 5
code_of PrintFault = 5
code_of (TooMany count) = 3
code_of NoMemory = 6
