-- How the command goes that says why buffers do not fit.
use Rattle.std.specs.Prelude.{◌≡◌, ◌⊎◌, ℕ, List, [], ◌∷◌, length, Ok}
use Rattle.dsa_terms.specs.Buffers.{Instance}
use Rattle.dsa_terms.specs.Claims.{IsIn}
use Rattle.dsa_terms.specs.Layouts.{IsFeasible, IsInfeasible}
use Rattle.dsa_terms.specs.Logs.{Log, IsAccepted}
use Rattle.dsa_model.specs.Chosen.{some_of}
use Rattle.csv_instance.specs.Records.{Record, table_of}
use Rattle.csv_instance.specs.Chosen.{chosen_text}
use Rattle.csv_instance.specs.Parse.{parse}
use Rattle.core_find.specs.Cores.{IsCore, without}
use Rattle.command_words.specs.Options.{Word}
use Rattle.command_words.specs.declared.role.Role.TheVariants as role
use Rattle.run_status.specs.declared.status.Status.TheVariants as status
use Rattle.run_course.specs.Course.{Course, Outcome, Concludes, Write, says, writes}
use Rattle.readings.specs.Input.{opened}
use Rattle.writings.specs.Writings.{Names, ReadsBack, log_file}

-- the header and the rows of some buffers, for the output
abbrev pub rows_file : Word → List Record → List ℕ → Write
rows_file output table members = record { role = role.Output; name = output; bytes = chosen_text table members }

-- that all buffers fit within the capacity is told
abbrev pub FitsAll : (C : ℕ) → Instance → Outcome → Type 0
FitsAll C I o = IsFeasible I C × (o ≡ says (status.NoCore C))

-- the members are the core at the capacity, and their rows are an instance of these buffers; the log is accepted for it
-- at the capacity, so they do not fit; without any one of them the others do
pub record IsExplained (C : ℕ) (table : List Record) (I : Instance) (members : List ℕ) (refutation : Log) : Type 0 where
  pub is_core : IsCore I C members
  pub parsed : parse (table_of (chosen_text table members)) ≡ Ok (some_of I members)
  pub accepted : IsAccepted (some_of I members) refutation
  pub its_capacity : refutation.capacity ≡ C
  pub infeasible : IsInfeasible (some_of I members) C
  pub rests : (b : ℕ) → IsIn b members → IsFeasible (some_of I (without b members)) C
  pub readable : ReadsBack refutation

-- the rows of the core are written, and the log
abbrev pub Explains : (C : ℕ) → Names → List Record → Instance → Outcome → Type 0
Explains C names table I o = (members : List ℕ) × (refutation : Log) × IsExplained C table I members refutation
    × (o ≡ writes (rows_file names.output table members ∷ log_file names.log refutation ∷ [])
    (status.Core (length members)))

-- what `core` concludes of the instance of a table
abbrev pub ExplainsOrFits : (C : ℕ) → Names → List Record → Instance → Outcome → Type 0
ExplainsOrFits C names table I o = Explains C names table I o ⊎ FitsAll C I o

-- how `core` goes: the capacity is in bytes
abbrev pub core : (C : ℕ) → Names → Course
core C names = opened names.input (λ table I. Concludes (ExplainsOrFits C names table I))
