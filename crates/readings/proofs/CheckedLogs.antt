-- From what a log's file comes to, to what a course comes to that checks it.
use Rattle.std.proofs.Common.{◌≡◌, ◌⊎◌, List, Ok, refl, sym, subst, inl, inr, ap}
use Rattle.dsa_terms.specs.Buffers.{Instance}
use Rattle.dsa_terms.specs.Logs.{Log}
use Rattle.command_words.specs.Options.{Word}
use Rattle.command_words.specs.declared.role.Role.TheVariants as role
use Rattle.csv_instance.specs.Records.{Record}
use Rattle.csv_instance.specs.Parse.{parse}
use Rattle.dsa_outside.specs.Faults.{NoneFell}
use Rattle.run_status.specs.declared.status.Status.{Status}
use Rattle.run_status.specs.Spoken.{IsSpoken}
use Rattle.dsa_outside.specs.Seen.{FilesSeen}
use Rattle.run_course.specs.Course.{Comes, Outcome, IsUnreadable, says}
use Rattle.readings.specs.Input.{opened}
use Rattle.readings.specs.Opens.{IsInput}
use Rattle.readings.proofs.Opening.{with_input}
use Rattle.readings.specs.Checking.{checked, no_text, not_accepted, is_accepted}
use Rattle.readings.specs.GivenLogs.{HoldsAccepted, HoldsNoText, HoldsNoRefutation}

-- why the file gives no accepted log
abbrev pub IsNone : FilesSeen → FilesSeen → Word → Instance → Status → Type 0
IsNone old new name I s = IsUnreadable old new role.Log name s
    ⊎ HoldsNoText old name s ⊎ HoldsNoRefutation old name I s

-- the file gives no accepted log, so the course ends here
pub no_log : (old new : FilesSeen) (name : Word) (I : Instance) (s : Status) (accepted : Log → Outcome → Type 0) →
    IsNone old new name I s → Comes old new (checked name I accepted) (says s)
no_log old new name I s accepted (inl failed) = inl (failed, refl)
no_log old new name I s accepted (inr (inl holds)) =
    inr (
      holds.bytes,
      holds.whole,
      (
        subst IsSpoken (sym holds.told) tt,
        no_text holds.fault holds.refused (ap says holds.told),
      ),
    )
no_log old new name I s accepted (inr (inr holds)) =
    inr (
      holds.bytes,
      holds.whole,
      (
        subst IsSpoken (sym holds.told) tt,
        not_accepted holds.raw holds.fault holds.says holds.refused (ap says holds.told),
      ),
    )

-- the file gives an accepted log, by which the course concludes
pub with_log : (old new : FilesSeen) (name : Word) (I : Instance) (g : Log) (accepted : Log → Outcome → Type 0) →
    HoldsAccepted old name I g → (o : Outcome) → IsSpoken o.status → accepted g o →
    Comes old new (checked name I accepted) o
with_log old new name I g accepted holds o spoken is =
    inr (holds.bytes, holds.whole, (spoken, is_accepted g holds.says holds.accepted holds.infeasible is))

-- the input gives an instance, and then the log's file is checked
module _ (old mid new : FilesSeen) (input log : Word) (accepted : Log → Outcome → Type 0)
    (table : List Record) (J : Instance) (given : (I : Instance) × IsInput old input table I)
    (parsed : parse table ≡ Ok J) (same : mid.held ≡ old.held) (none : NoneFell old.faults mid.faults) where
  pub not_checked : (s : Status) → IsNone mid new log J s →
      Comes old new (opened input (λ t I. checked log I accepted)) (says s)
  not_checked s gives = with_input old mid new input table J (λ t I. checked log I accepted) given parsed same none
      (says s) (no_log mid new log J s accepted gives)

  pub then_checked : (g : Log) → HoldsAccepted mid log J g → (o : Outcome) → IsSpoken o.status → accepted g o →
      Comes old new (opened input (λ t I. checked log I accepted)) o
  then_checked g holds o spoken is = with_input old mid new input table J (λ t I. checked log I accepted) given parsed
      same none o (with_log mid new log J g accepted holds o spoken is)
