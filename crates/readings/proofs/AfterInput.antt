-- What comes of a command that reads the input.
use Rattle.std.proofs.Common.{◌≡◌, List, Result, Ok, Err, IfOk, subst, sym}
use Rattle.dsa_terms.specs.Buffers.{Instance}
use Rattle.dsa_model.specs.declared.fail.NoMemory.{NoMemory}
use Rattle.csv_instance.specs.Records.{Record}
use Rattle.csv_instance.specs.Parse.{parse}
use Rattle.command_words.specs.Options.{Word}
use Rattle.dsa_outside.specs.Faults.{NoneFell}
use Rattle.dsa_outside.specs.Seen.{FilesSeen}
use Rattle.run_status.specs.Spoken.{IsSpoken}
use Rattle.run_status.specs.declared.status.Status.{Status}
use Rattle.run_course.specs.Course.{Course, Concludes, Comes, Outcome, says}
use Rattle.run_course.specs.Prepares.{outcome_of}
use Rattle.run_course.specs.declared.prepared.Prepared.{Prepared}
use Rattle.run_course.proofs.Silently.{silently}
use Rattle.readings.specs.Input.{opened}
use Rattle.readings.specs.Opens.{IsInput}
use Rattle.readings.proofs.Opening.{IsMissing, no_input, with_input}

-- the input gives no instance, and its status is all that is said
pub missing : (old new : FilesSeen) (name : Word) (s : Status) (next : List Record → Instance → Course)
    (r : Result Prepared NoMemory) → IsMissing old new name s → IfOk r (λ p. outcome_of p ≡ says s) →
    IfOk r (λ p. Comes old new (opened name next) (outcome_of p))
missing old new name s next r none said =
    silently old new (opened name next) s r said (no_input old new name s next none)

-- the input gives an instance, and this is concluded of it
pub concluded : (old new : FilesSeen) (name : Word) (table : List Record) (J : Instance)
    (allowed : List Record → Instance → Outcome → Type 0) → ((I : Instance) × IsInput old name table I) →
    parse table ≡ Ok J → new.held ≡ old.held → NoneFell old.faults new.faults →
    ((o : Outcome) → allowed table J o → IsSpoken o.status) →
    (r : Result Prepared NoMemory) → IfOk r (λ p. allowed table J (outcome_of p)) →
    IfOk r (λ p. Comes old new (opened name (λ t I. Concludes (allowed t I))) (outcome_of p))
concluded old new name table J allowed given parsed same none spoken (Ok p) holds =
    with_input old new new name table J (λ t I. Concludes (allowed t I)) given parsed same none (outcome_of p)
    (spoken (outcome_of p) holds, holds)
concluded old new name table J allowed given parsed same none spoken (Err e) holds = tt

-- the input gives an instance, and this comes of what follows
pub goes_on : (old mid new : FilesSeen) (name : Word) (table : List Record) (J : Instance)
    (next : List Record → Instance → Course) → ((I : Instance) × IsInput old name table I) → parse table ≡ Ok J →
    mid.held ≡ old.held → NoneFell old.faults mid.faults →
    (r : Result Prepared NoMemory) → IfOk r (λ p. Comes mid new (next table J) (outcome_of p)) →
    IfOk r (λ p. Comes old new (opened name next) (outcome_of p))
goes_on old mid new name table J next given parsed same none (Ok p) comes =
    with_input old mid new name table J next given parsed same none (outcome_of p) comes
goes_on old mid new name table J next given parsed same none (Err e) comes = tt

-- the same, where what follows says which instance the table tells of
pub goes_on_told : (old mid new : FilesSeen) (name : Word) (table : List Record)
    (next : List Record → Instance → Course) → ((I : Instance) × IsInput old name table I) →
    mid.held ≡ old.held → NoneFell old.faults mid.faults → (r : Result Prepared NoMemory) →
    IfOk r (λ p. (J : Instance) × (parse table ≡ Ok J) × Comes mid new (next table J) (outcome_of p)) →
    IfOk r (λ p. Comes old new (opened name next) (outcome_of p))
goes_on_told old mid new name table next given same none (Ok p) (J, parsed, comes) =
    with_input old mid new name table J next given parsed same none (outcome_of p) comes
goes_on_told old mid new name table next given same none (Err e) comes = tt

-- this is prepared for the instance that the table tells of
pub prepared_for : (old new : FilesSeen) (table : List Record) (J : Instance) (next : List Record → Instance → Course)
    (o : Outcome) (r : Result Prepared NoMemory) → parse table ≡ Ok J → IfOk r (λ p. outcome_of p ≡ o) →
    Comes old new (next table J) o →
    IfOk r (λ p. (I : Instance) × (parse table ≡ Ok I) × Comes old new (next table I) (outcome_of p))
prepared_for old new table J next o (Ok p) parsed is comes =
    (J, parsed, subst (λ o. Comes old new (next table J) o) (sym is) comes)
prepared_for old new table J next o (Err e) parsed is comes = tt

-- the same, where it is known which instance that is
pub told_by : (old new : FilesSeen) (table : List Record) (J : Instance) (next : List Record → Instance → Course)
    (r : Result Prepared NoMemory) → parse table ≡ Ok J →
    IfOk r (λ p. Comes old new (next table J) (outcome_of p)) →
    IfOk r (λ p. (I : Instance) × (parse table ≡ Ok I) × Comes old new (next table I) (outcome_of p))
told_by old new table J next (Ok p) parsed comes = (J, parsed, comes)
told_by old new table J next (Err e) parsed comes = tt

-- this is concluded of the instance that the table tells of
pub concluded_of : (old new : FilesSeen) (table : List Record) (J : Instance)
    (allowed : List Record → Instance → Outcome → Type 0) → parse table ≡ Ok J →
    ((o : Outcome) → allowed table J o → IsSpoken o.status) →
    (r : Result Prepared NoMemory) → IfOk r (λ p. allowed table J (outcome_of p)) →
    IfOk r (λ p. (I : Instance) × (parse table ≡ Ok I) × Comes old new (Concludes (allowed table I)) (outcome_of p))
concluded_of old new table J allowed parsed spoken (Ok p) holds =
    (J, parsed, (spoken (outcome_of p) holds, holds))
concluded_of old new table J allowed parsed spoken (Err e) holds = tt
