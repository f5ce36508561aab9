-- What files of logs come to: the sample log, one with an Over line that is too low, and no log.
use Rattle.std.proofs.Common.{◌≡◌, ℕ, List, [], ◌∷◌, Some, refl}
use Rattle.dsa_terms.specs.Buffers.{buffer, is_live}
use Rattle.dsa_terms.specs.Claims.{up}
use Rattle.dsa_terms.specs.Logs.{Log, is_stacked, rounded, rounding}
use Rattle.dsa_terms.proofs.Examples.{evens, sample}
use Rattle.log_check.specs.Faults.{check_fault}
use Rattle.log_check.specs.declared.fault.CheckFault.TheVariants as check
use Rattle.log_text.specs.Faults.{IsFirstFault}
use Rattle.log_text.specs.Faults as fault
use Rattle.log_text.specs.Says.{Says}
use Rattle.log_text.specs.Text.{raw_log_of}
use Rattle.log_text.specs.declared.fault.TextFault.TheVariants as text
use Rattle.log_text.specs.declared.raw.RawLine.TheVariants as raw_line
use Rattle.log_text.specs.declared.raw.RawLog.{RawLog}
use Rattle.refute_log.specs.declared.reason.Reason.TheVariants as reason
use Rattle.run_status.specs.declared.status.LogCause.TheVariants as cause
use Rattle.run_status.specs.declared.status.Status.TheVariants as status
use Rattle.run_course.specs.Course.{Outcome, says}
use Rattle.readings.specs.Checking.{Checks, is_accepted, no_text, not_accepted}
use Rattle.readings.proofs.SampleFacts.{none_at_4, sample_is_accepted}

-- the first line of the sample log, one byte too low
abbrev pub forged : RawLog
forged = record { count = 3; capacity = 4; lines = raw_line.Over 0 2 1 ((2, 3) ∷ []) ∷ []; end = 0 }

pub too_low : check_fault evens forged ≡ Some (check.Illegal 0 reason.NotOver)
unfolding is_stacked rounded rounding up is_live buffer
too_low = refl

pub no_header : IsFirstFault [] text.NotLog
no_header = fault.no_header (λ version count capacity rest h. none h.text)
  where
    none : {x : ℕ} {xs : List ℕ} → [] ≡ x ∷ xs → ⊥
    none e = cc

module _ (bytes : List ℕ) (accepted : Log → Outcome → Type 0) where
  sample_goes_on : (o : Outcome) → Says bytes (raw_log_of sample) → accepted sample o → Checks evens bytes accepted o
  sample_goes_on o is has = is_accepted sample is sample_is_accepted none_at_4 has

  forged_is_refused : Says bytes forged →
      Checks evens bytes accepted (says (status.LogRefused (cause.Check (check.Illegal 0 reason.NotOver))))
  forged_is_refused is = not_accepted forged (check.Illegal 0 reason.NotOver) is too_low refl

  no_bytes_are_no_log : Checks evens [] accepted (says (status.LogRefused (cause.Text text.NotLog)))
  no_bytes_are_no_log = no_text text.NotLog no_header refl
