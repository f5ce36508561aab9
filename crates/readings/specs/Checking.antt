-- How a log's file is checked.
use Rattle.std.specs.Prelude.{◌≡◌, ℕ, List, Some}
use Rattle.dsa_terms.specs.Buffers.{Instance}
use Rattle.dsa_terms.specs.Layouts.{IsInfeasible}
use Rattle.dsa_terms.specs.Logs.{Log, IsAccepted}
use Rattle.log_text.specs.Text.{raw_log_of}
use Rattle.log_text.specs.Faults.{IsFirstFault}
use Rattle.log_text.specs.Says.{Says}
use Rattle.log_text.specs.declared.raw.RawLog.{RawLog}
use Rattle.log_text.specs.declared.fault.TextFault.{TextFault}
use Rattle.log_check.specs.Faults.{check_fault}
use Rattle.log_check.specs.declared.fault.CheckFault.{CheckFault}
use Rattle.command_words.specs.Options.{Word}
use Rattle.command_words.specs.declared.role.Role.TheVariants as role
use Rattle.run_status.specs.declared.status.Status.TheVariants.{LogRefused}
use Rattle.run_status.specs.declared.status.LogCause.TheVariants.{Text, Check}
use Rattle.run_course.specs.Course.{Course, Outcome, Reads, Concludes, says}

-- the bytes say no log, or a log that is not accepted for the instance, each told by its first fault; or they say an
-- accepted log, by which no layout fits within its capacity, and which has such an outcome
pub data Checks (I : Instance) (bytes : List ℕ) (accepted : Log → Outcome → Type 0) (o : Outcome) : Type 0 where
  no_text : (fault : TextFault) → IsFirstFault bytes fault → o ≡ says (LogRefused (Text fault)) →
      Checks I bytes accepted o
  not_accepted : (raw : RawLog) (fault : CheckFault) → Says bytes raw → check_fault I raw ≡ Some fault →
      o ≡ says (LogRefused (Check fault)) → Checks I bytes accepted o
  is_accepted : (log : Log) → Says bytes (raw_log_of log) → IsAccepted I log → IsInfeasible I log.capacity →
      accepted log o → Checks I bytes accepted o

-- reads a log's file, and concludes with an outcome of the accepted log that it says
abbrev pub checked : Word → Instance → (Log → Outcome → Type 0) → Course
checked name I accepted = Reads role.Log name (λ bytes. Concludes (Checks I bytes accepted))
