-- What comes of words that are no command.
use Rattle.std.specs.Prelude.{◌≡◌}
use Rattle.command_words.specs.declared.fault.UsageFault.{UsageFault}
use Rattle.run_status.specs.declared.status.Status.{Status}
use Rattle.run_status.specs.declared.status.Status.TheVariants as status

-- the status of words that are no command tells their first fault, or that printing failed or memory ran out
abbrev pub IsMisuse : UsageFault → Status → Type 0
IsMisuse fault (status.Usage told) = told ≡ fault
IsMisuse fault status.PrintFault = Unit {0}
IsMisuse fault status.NoMemory = Unit {0}
IsMisuse fault status = ⊥
