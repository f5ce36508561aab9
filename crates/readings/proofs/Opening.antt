-- From what reading the input comes to, to what a course comes to that begins with it.
use Rattle.std.proofs.Common.{◌≡◌, ◌⊎◌, List, Ok, refl, sym, subst, ap, inl, inr}
use Rattle.dsa_terms.specs.Buffers.{Instance}
use Rattle.csv_instance.specs.Records.{Record, table_of}
use Rattle.csv_instance.specs.Parse.{parse}
use Rattle.csv_instance.specs.declared.fault.InstanceFault.{InstanceFault}
use Rattle.command_words.specs.Options.{Word}
use Rattle.command_words.specs.declared.role.Role.TheVariants as role
use Rattle.dsa_outside.specs.Faults.{NoneFell}
use Rattle.run_status.specs.declared.status.Status.{Status}
use Rattle.run_status.specs.declared.status.Status.TheVariants as status
use Rattle.dsa_outside.specs.Seen.{FilesSeen}
use Rattle.run_course.specs.Course.{Course, Comes, Outcome, IsUnreadable, says}
use Rattle.run_status.specs.Spoken.{IsSpoken}
use Rattle.run_course.proofs.Since.{comes_since}
use Rattle.readings.specs.Input.{opened, instance_or_fault}
use Rattle.readings.specs.Opens.{IsInput, IsMalformed}

-- why the input gives no instance
abbrev pub IsMissing : FilesSeen → FilesSeen → Word → Status → Type 0
IsMissing old new name s = IsUnreadable old new role.Input name s
    ⊎ ((fault : InstanceFault) × (s ≡ status.Malformed fault) × IsMalformed old name fault)

-- the input gives no instance, so the course ends here, whatever stands behind
pub no_input : (old new : FilesSeen) (name : Word) (s : Status) (next : List Record → Instance → Course) →
    IsMissing old new name s → Comes old new (opened name next) (says s)
no_input old new name s next (inl failed) = inl (failed, refl)
no_input old new name s next (inr (fault, told, bad)) =
    inr (
      bad.bytes,
      bad.whole,
      subst (λ r. Comes old new (instance_or_fault r (next (table_of bad.bytes))) (says s)) (sym bad.refused)
          (subst IsSpoken (sym told) tt, ap says told),
    )

-- the input gives an instance, so the course goes on
pub with_input : (old mid new : FilesSeen) (name : Word) (table : List Record) (J : Instance)
    (next : List Record → Instance → Course) → ((I : Instance) × IsInput old name table I) → parse table ≡ Ok J →
    mid.held ≡ old.held → NoneFell old.faults mid.faults →
    (o : Outcome) → Comes mid new (next table J) o → Comes old new (opened name next) o
with_input old mid new name table J next (I, input) parsed same none o comes =
    inr (
      input.bytes,
      input.whole,
      subst (λ t. Comes old new (instance_or_fault (parse t) (next t)) o) input.records
          (subst (λ r. Comes old new (instance_or_fault r (next table)) o) (sym parsed)
          (comes_since old mid new (next table J) o same none comes)),
    )
