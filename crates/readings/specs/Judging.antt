-- How a layout file is judged.
use Rattle.std.specs.Prelude.{ℕ, List, Option, Some, None, Result, Ok, Err}
use Rattle.dsa_terms.specs.Buffers.{Instance}
use Rattle.dsa_model.specs.LayoutFaults.{layout_fault}
use Rattle.dsa_model.specs.declared.layout.LayoutFault.{LayoutFault}
use Rattle.csv_instance.specs.Records.{Record, table_of}
use Rattle.csv_instance.specs.Offsets.{ids_of, parsed_offsets}
use Rattle.csv_instance.specs.declared.fault.OffsetsFault.{OffsetsFault}
use Rattle.command_words.specs.Options.{Word}
use Rattle.command_words.specs.declared.role.Role.TheVariants as role
use Rattle.run_status.specs.declared.status.Status.TheVariants.{Wrong}
use Rattle.run_status.specs.declared.status.WrongCause.TheVariants as wrong
use Rattle.run_course.specs.Course.{Course, Reads, Ends, says}

-- goes on where there is no fault
abbrev pub layout_or_fault : Option LayoutFault → Course → Course
layout_or_fault None next = next
layout_or_fault (Some fault) next = Ends (says (Wrong (wrong.Layout fault)))

-- goes on with the offsets where they are a layout at the capacity
abbrev pub offsets_or_fault : Result (List ℕ) OffsetsFault → Instance → ℕ → (List ℕ → Course) → Course
offsets_or_fault (Ok offsets) I C next = layout_or_fault (layout_fault I C offsets) (next offsets)
offsets_or_fault (Err fault) I C next = Ends (says (Wrong (wrong.Offsets fault)))

-- reads a layout file, and goes on with its offsets where they are a layout at the capacity
abbrev pub judged : Word → List Record → Instance → ℕ → (List ℕ → Course) → Course
judged name table I C next = Reads role.Layout name
    (λ bytes. offsets_or_fault (parsed_offsets (ids_of table) (table_of bytes)) I C next)
