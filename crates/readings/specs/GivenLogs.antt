-- What a log's file comes to: an accepted log, or a status that ends the run.
use Rattle.std.specs.Prelude.{◌≡◌, ◌⊎◌, ℕ, List, Some}
use Rattle.dsa_terms.specs.Buffers.{Instance}
use Rattle.dsa_terms.specs.Layouts.{IsInfeasible}
use Rattle.dsa_terms.specs.Logs.{Log, IsAccepted}
use Rattle.log_text.specs.Text.{raw_log_of}
use Rattle.log_text.specs.Faults.{IsFirstFault}
use Rattle.log_text.specs.Says.{Says}
use Rattle.log_text.specs.declared.raw.RawLog.{RawLog}
use Rattle.log_text.specs.declared.fault.TextFault.{TextFault}
use Rattle.log_check.specs.Faults.{check_fault}
use Rattle.log_check.specs.declared.fault.CheckFault.{CheckFault}
use Rattle.command_words.specs.Options.{Word}
use Rattle.command_words.specs.declared.role.Role.TheVariants as role
use Rattle.run_status.specs.declared.status.Status.{Status}
use Rattle.run_status.specs.declared.status.Status.TheVariants.{LogRefused}
use Rattle.run_status.specs.declared.status.LogCause.TheVariants.{Text, Check}
use Rattle.dsa_outside.specs.Seen.{FilesSeen}
use Rattle.run_course.specs.Readings.{IsWholeFile}
use Rattle.run_course.specs.Course.{IsUnreadable}
use Rattle.readings.specs.declared.log_file.Checked.{Checked}
use Rattle.readings.specs.declared.log_file.Checked.TheVariants as checked

-- the file says a log that is accepted for the instance, so no layout fits within its capacity
pub record HoldsAccepted (files : FilesSeen) (name : Word) (I : Instance) (log : Log) : Type 0 where
  pub bytes : List ℕ
  pub whole : IsWholeFile files role.Log name bytes
  pub says : Says bytes (raw_log_of log)
  pub accepted : IsAccepted I log
  pub infeasible : IsInfeasible I log.capacity

-- the file says no log, for its first fault
pub record HoldsNoText (files : FilesSeen) (name : Word) (s : Status) : Type 0 where
  pub bytes : List ℕ
  pub fault : TextFault
  pub told : s ≡ LogRefused (Text fault)
  pub whole : IsWholeFile files role.Log name bytes
  pub refused : IsFirstFault bytes fault

-- the file says a log that is not accepted for the instance, for its first fault
pub record HoldsNoRefutation (files : FilesSeen) (name : Word) (I : Instance) (s : Status) : Type 0 where
  pub bytes : List ℕ
  pub raw : RawLog
  pub fault : CheckFault
  pub told : s ≡ LogRefused (Check fault)
  pub whole : IsWholeFile files role.Log name bytes
  pub says : Says bytes raw
  pub refused : check_fault I raw ≡ Some fault

-- the accepted log, or why there is none
abbrev pub ChecksLog : FilesSeen → FilesSeen → Word → Instance → Checked → Type 0
ChecksLog old new name I (checked.Accepted log) = HoldsAccepted old name I log
ChecksLog old new name I (checked.Unaccepted s) = IsUnreadable old new role.Log name s
    ⊎ HoldsNoText old name s ⊎ HoldsNoRefutation old name I s
