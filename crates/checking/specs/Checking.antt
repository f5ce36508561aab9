-- How the commands go that check a log's file.
use Rattle.std.specs.Prelude.{◌≡◌, [], ◌∷◌, length}
use Rattle.dsa_terms.specs.Buffers.{Instance}
use Rattle.dsa_terms.specs.Logs.{Log, IsAccepted}
use Rattle.dsa_terms.specs.Trims.{IsTrimOf}
use Rattle.log_text.specs.RawTexts.{IsTextOf}
use Rattle.log_text.specs.Says.{Says}
use Rattle.log_text.specs.Spellings.{log_text2}
use Rattle.log_text.specs.Text.{log_text, raw_log_of}
use Rattle.command_words.specs.Options.{Word}
use Rattle.command_words.specs.declared.role.Role.TheVariants as role
use Rattle.run_status.specs.declared.status.Status.TheVariants.{Accepted, Trimmed, Upgraded}
use Rattle.run_course.specs.Course.{Course, Outcome, says, writes}
use Rattle.readings.specs.Input.{opened}
use Rattle.readings.specs.Checking.{checked}

-- how `refute` goes
abbrev pub refute : (input log : Word) → Course
refute input log = opened input (λ table I. checked log I (λ log o. o ≡ says (Accepted log.capacity)))

-- the log of an accepted log's kept lines alone is written to the output; it is accepted too, and its text reads back
pub record Trims (output : Word) (I : Instance) (log : Log) (o : Outcome) : Type 0 where
  pub trim : Log
  pub is_trim : IsTrimOf log trim
  pub accepted : IsAccepted I trim
  pub readable : IsTextOf (log_text trim) (raw_log_of trim)
  pub outcome : o ≡ writes (record { role = role.Output; name = output; bytes = log_text trim } ∷ [])
      (Trimmed (length log.lines) (length trim.lines))

-- how `trim` goes
abbrev pub trim : (input log output : Word) → Course
trim input log output = opened input (λ table I. checked log I (Trims output I))

-- an accepted log is written to the output in version 2
abbrev pub upgrading : Word → Log → Outcome
upgrading output log = writes (record { role = role.Output; name = output; bytes = log_text2 log } ∷ [])
    (Upgraded (length log.lines))

-- the text of version 2 says the log, and is written
pub record Upgrades (output : Word) (log : Log) (o : Outcome) : Type 0 where
  pub readable : Says (log_text2 log) (raw_log_of log)
  pub outcome : o ≡ upgrading output log

-- how `upgrade` goes
abbrev pub upgrade : (input log output : Word) → Course
upgrade input log output = opened input (λ table I. checked log I (Upgrades output))
