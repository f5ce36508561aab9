-- The statuses that a run prints a text for.
use Rattle.run_status.specs.declared.status.Status.{Status}
use Rattle.run_status.specs.declared.status.Status.TheVariants.{PrintFault, NoMemory}

-- a text is printed for the status: printing did not fail, and memory did not run out
abbrev pub IsSpoken : Status → Type 0
IsSpoken PrintFault = ⊥
IsSpoken NoMemory = ⊥
IsSpoken status = Unit {0}
