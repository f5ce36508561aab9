-- How the command goes that imports a recorded run of allocations.
use Rattle.std.specs.Prelude.{◌≡◌, [], ◌∷◌, length, Result, Ok, Err}
use Rattle.std.specs.List.{count_by}
use Rattle.csv_instance.specs.Parse.{parse}
use Rattle.csv_instance.specs.Records.{table_of}
use Rattle.trace_import.specs.Faults.{trace_of}
use Rattle.trace_import.specs.ImportText.{import_text}
use Rattle.trace_import.specs.Traces.{IsTraced, Trace, imported, is_alloc}
use Rattle.trace_import.specs.declared.fault.TraceFault.{TraceFault}
use Rattle.command_words.specs.Options.{Word}
use Rattle.command_words.specs.declared.role.Role.TheVariants as role
use Rattle.run_status.specs.declared.status.Status.TheVariants.{Imported, TraceRefused}
use Rattle.run_course.specs.Course.{Concludes, Course, Outcome, Reads, says, writes}

-- the text of the trace's instance is read as that instance, which has a buffer for each line that allocates, and at
-- each moment just the buffers that the trace holds after that line
pub record IsImported (trace : Trace) : Type 0 where
  pub parsed : parse (table_of (import_text trace)) ≡ Ok (imported trace)
  pub each : length (imported trace) ≡ count_by is_alloc trace
  pub traced : IsTraced trace (imported trace)

-- the text of the trace's instance is written, and how many buffers it has is told; or the first fault is
abbrev pub Imports : (output : Word) → Result Trace TraceFault → Outcome → Type 0
Imports output (Ok trace) o = IsImported trace
    × (o ≡ writes (record { role = role.Output; name = output; bytes = import_text trace } ∷ [])
    (Imported (length (imported trace))))
Imports output (Err fault) o = o ≡ says (TraceRefused fault)

-- how `import` goes: it reads the trace
abbrev pub import_course : (trace output : Word) → Course
import_course trace output = Reads role.Trace trace (λ bytes. Concludes (Imports output (trace_of bytes)))
