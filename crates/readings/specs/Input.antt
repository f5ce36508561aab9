-- How a command begins that reads an instance.
use Rattle.std.specs.Prelude.{List, Result, Ok, Err}
use Rattle.dsa_terms.specs.Buffers.{Instance}
use Rattle.csv_instance.specs.Records.{Record, table_of}
use Rattle.csv_instance.specs.Parse.{parse}
use Rattle.csv_instance.specs.declared.fault.InstanceFault.{InstanceFault}
use Rattle.command_words.specs.Options.{Word}
use Rattle.command_words.specs.declared.role.Role.TheVariants.{Input}
use Rattle.run_status.specs.declared.status.Status.TheVariants.{Malformed}
use Rattle.run_course.specs.Course.{Course, Reads, Ends, says}

-- goes on with the instance, or ends with the first fault
abbrev pub instance_or_fault : Result Instance InstanceFault → (Instance → Course) → Course
instance_or_fault (Ok I) next = next I
instance_or_fault (Err fault) next = Ends (says (Malformed fault))

-- reads the input and goes on with its table and the instance that it is
abbrev pub opened : Word → (List Record → Instance → Course) → Course
opened name next = Reads Input name
    (λ bytes. instance_or_fault (parse (table_of bytes)) (next (table_of bytes)))
