-- From what is prepared of an accepted log, to what the course comes to that checks the log.
use Rattle.std.proofs.Common.{◌≡◌, Result, Ok, Err, IfOk, subst, sym}
use Rattle.dsa_terms.specs.Buffers.{Instance}
use Rattle.dsa_terms.specs.Logs.{Log}
use Rattle.dsa_model.specs.declared.fail.NoMemory.{NoMemory}
use Rattle.dsa_outside.specs.Seen.{FilesSeen}
use Rattle.command_words.specs.Options.{Word}
use Rattle.run_status.specs.Spoken.{IsSpoken}
use Rattle.run_course.specs.Course.{Comes, Outcome}
use Rattle.run_course.specs.Prepares.{outcome_of}
use Rattle.run_course.specs.declared.prepared.Prepared.{Prepared}
use Rattle.readings.specs.Checking.{checked}
use Rattle.readings.specs.GivenLogs.{HoldsAccepted}
use Rattle.readings.proofs.CheckedLogs.{with_log}

-- what is prepared is an outcome of this kind
pub prepared_as : (kind : Outcome → Type 0) (o : Outcome) (r : Result Prepared NoMemory) →
    IfOk r (λ p. outcome_of p ≡ o) → kind o → IfOk r (λ p. kind (outcome_of p))
prepared_as kind o (Ok p) is holds = subst kind (sym is) holds
prepared_as kind o (Err e) is holds = tt

-- the file gives an accepted log, and so this comes of it
pub log_comes : (old new : FilesSeen) (name : Word) (I : Instance) (g : Log) (accepted : Log → Outcome → Type 0)
    (r : Result Prepared NoMemory) → ((o : Outcome) → accepted g o → IsSpoken o.status) →
    HoldsAccepted old name I g → IfOk r (λ p. accepted g (outcome_of p)) →
    IfOk r (λ p. Comes old new (checked name I accepted) (outcome_of p))
log_comes old new name I g accepted (Ok p) spoken found holds =
    with_log old new name I g accepted found (outcome_of p) (spoken (outcome_of p) holds) holds
log_comes old new name I g accepted (Err e) spoken found holds = tt
