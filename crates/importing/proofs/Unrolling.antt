-- From what unrolling an input comes to, to what the course comes to.
use Rattle.std.proofs.Common.{◌≡◌, ◌≤◌, inl, inr, ℕ, List, [], ◌∷◌, length, Result, Ok, Err, IfOk, refl, sym, subst}
use Rattle.dsa_terms.specs.Buffers.{Instance}
use Rattle.dsa_model.specs.declared.fail.NoMemory.{NoMemory}
use Rattle.dsa_model.specs.Limits.{number_limit}
use Rattle.csv_instance.specs.Records.{Record, table_of}
use Rattle.dsa_outside.specs.Seen.{FilesSeen}
use Rattle.cyclic_plan.specs.Unrolled.{unrolled_of, unrolled_text}
use Rattle.cyclic_plan.specs.declared.fault.CycleFault.{CycleFault}
use Rattle.cyclic_plan.proofs.Tables.{unrolled_gives}
use Rattle.command_words.specs.Options.{Word}
use Rattle.command_words.specs.declared.role.Role.TheVariants as role
use Rattle.run_status.specs.Spoken.{IsSpoken}
use Rattle.run_status.specs.declared.status.Status.{Status}
use Rattle.run_status.specs.declared.status.Status.TheVariants.{Unrolled}
use Rattle.run_course.specs.Readings.{IsWholeFile}
use Rattle.run_course.specs.Course.{Comes, IsUnreadable, Outcome, says, writes}
use Rattle.run_course.specs.Prepares.{outcome_of}
use Rattle.run_course.specs.declared.prepared.Prepared.{Prepared}
use Rattle.importing.specs.Unrolling.{Unrolls, unroll_course}

-- this text is written to the output, and the number of buffers is told
abbrev pub unrolled_file : Word → ℕ → List ℕ → Outcome
unrolled_file output count text =
    writes (record { role = role.Output; name = output; bytes = text } ∷ []) (Unrolled count)

-- the table gives an instance of one period, and its text is prepared
pub unrolls_given : (period : ℕ) (output : Word) (table : List Record) (count : ℕ) (text : List ℕ)
    (r : Result Prepared NoMemory) → period ≤ number_limit →
    ((I : Instance) × (unrolled_of period table ≡ Ok I) × (count ≡ length I)) → text ≡ unrolled_text period table →
    IfOk r (λ p. outcome_of p ≡ unrolled_file output count text) →
    IfOk r (λ p. Unrolls period output table (unrolled_of period table) (outcome_of p))
unrolls_given period output table count text (Ok p) within (I, given, its_count) its_text is =
    subst (λ r. Unrolls period output table r (outcome_of p)) (sym given)
    (unrolled_gives period table I within given, rw (its_count, its_text) at is)
unrolls_given period output table count text (Err e) within given its_text is = is

unrolls_spoken : (period : ℕ) (output : Word) (table : List Record) (r : Result Instance CycleFault) (o : Outcome) →
    Unrolls period output table r o → IsSpoken o.status
unrolls_spoken period output table (Ok I) o is = subst (λ (p : Outcome). IsSpoken p.status) (sym is.1) tt
unrolls_spoken period output table (Err fault) o is = subst (λ (p : Outcome). IsSpoken p.status) (sym is) tt

module _ (old new : FilesSeen) (period : ℕ) (input output : Word) where
  -- the input is read whole
  pub comes : (bytes : List ℕ) (r : Result Prepared NoMemory) → IsWholeFile old role.Input input bytes →
      IfOk r (λ p. Unrolls period output (table_of bytes) (unrolled_of period (table_of bytes)) (outcome_of p)) →
      IfOk r (λ p. Comes old new (unroll_course period input output) (outcome_of p))
  comes bytes (Ok p) whole is =
      inr (
        bytes,
        whole,
        (
          unrolls_spoken period output (table_of bytes) (unrolled_of period (table_of bytes)) (outcome_of p) is,
          is,
        ),
      )
  comes bytes (Err e) whole is = tt

  -- the input could not be read
  pub missing : (s : Status) → IsUnreadable old new role.Input input s →
      Comes old new (unroll_course period input output) (says s)
  missing s failed = inl (failed, refl)
