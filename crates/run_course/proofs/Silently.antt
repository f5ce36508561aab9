-- A status that is told alone.
use Rattle.std.proofs.Common.{◌≡◌, Result, Ok, Err, IfOk, sym, subst, inl, inr}
use Rattle.dsa_model.specs.declared.fail.NoMemory.{NoMemory}
use Rattle.command_words.specs.Options.{Word}
use Rattle.command_words.specs.declared.role.Role.{Role}
use Rattle.run_status.specs.Spoken.{IsSpoken}
use Rattle.run_status.specs.declared.status.Status.{Status}
use Rattle.dsa_outside.specs.Seen.{FilesSeen}
use Rattle.run_course.specs.Course.{Course, Concludes, Reads, Comes, Outcome, IsUnreadable, says}
use Rattle.run_course.specs.Prepares.{outcome_of}
use Rattle.run_course.specs.declared.prepared.Prepared.{Prepared}

pub silently : (old new : FilesSeen) (course : Course) (s : Status) (r : Result Prepared NoMemory) →
    IfOk r (λ p. outcome_of p ≡ says s) → Comes old new course (says s) →
    IfOk r (λ p. Comes old new course (outcome_of p))
silently old new course s (Ok p) is comes = subst (λ o. Comes old new course o) (sym is) comes
silently old new course s (Err e) is comes = is

pub unreadable_spoken : (old new : FilesSeen) (role : Role) (name : Word) (s : Status) →
    IsUnreadable old new role name s → IsSpoken s
unreadable_spoken old new role name s (inl is) = subst IsSpoken (sym is.0) tt
unreadable_spoken old new role name s (inr is) = subst IsSpoken (sym is.0) tt

-- an outcome that a course comes to is spoken
pub comes_spoken : (old new : FilesSeen) (course : Course) (o : Outcome) → Comes old new course o → IsSpoken o.status
comes_spoken old new (Concludes allowed) o comes = comes.0
comes_spoken old new (Reads role name next) o (inl failed) =
    unreadable_spoken old new role name o.status failed.0
comes_spoken old new (Reads role name next) o (inr read) = comes_spoken old new (next read.0) o read.2

-- what is prepared is what a course comes to
pub comes_by : (old new : FilesSeen) (course : Course) (p : Prepared) (o : Outcome) → outcome_of p ≡ o →
    Comes old new course o → Comes old new course (outcome_of p)
comes_by old new course p o is comes = subst (λ o. Comes old new course o) (sym is) comes

pub concluded : (old new : FilesSeen) (course : Course) (o : Outcome) (r : Result Prepared NoMemory) →
    IfOk r (λ p. outcome_of p ≡ o) → Comes old new course o → IfOk r (λ p. Comes old new course (outcome_of p))
concluded old new course o (Ok p) is comes = subst (λ o. Comes old new course o) (sym is) comes
concluded old new course o (Err e) is comes = is
