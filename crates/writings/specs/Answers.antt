-- What comes of an answer: a status, with a layout and a log where it has them.
use Rattle.std.specs.Prelude.{◌≡◌, ℕ, List, [], ◌∷◌, ◌++◌, Option, Some, None}
use Rattle.dsa_terms.specs.Logs.{Log}
use Rattle.csv_instance.specs.Records.{Record}
use Rattle.command_words.specs.Options.{Word}
use Rattle.run_status.specs.declared.status.Status.{Status}
use Rattle.run_course.specs.Course.{Outcome, Write, writes}
use Rattle.writings.specs.Writings.{Names, ReadsBack, layout_file, log_file}

-- a layout, where there is one, for the output
abbrev pub layout_files : Word → List Record → Option (List ℕ) → List Write
layout_files output table None = []
layout_files output table (Some offsets) = layout_file output table offsets ∷ []

-- a log, where there is one, for its file
abbrev pub log_files : Word → Option Log → List Write
log_files name None = []
log_files name (Some log) = log_file name log ∷ []

-- the layout and then the log, where there are
abbrev pub answer_files : Names → List Record → Option (List ℕ) → Option Log → List Write
answer_files names table layout log = layout_files names.output table layout ++ log_files names.log log

-- the text of the log, where there is one, reads back
abbrev pub AllReadBack : Option Log → Type 0
AllReadBack None = Unit {0}
AllReadBack (Some log) = ReadsBack log

-- an answer is written, and its status is told
pub record Gives (IsAnswer : Status → Option (List ℕ) → Option Log → Type 0) (names : Names) (table : List Record)
    (o : Outcome) : Type 0 where
  pub status : Status
  pub layout : Option (List ℕ)
  pub log : Option Log
  pub answer : IsAnswer status layout log
  pub readable : AllReadBack log
  pub written : o ≡ writes (answer_files names table layout log) status
