-- From what is prepared to what is concluded.
use Rattle.std.proofs.Common.{◌≡◌, inl, inr, ℕ, List, [], ◌∷◌, length, ap, ◌∙◌, Result, Ok, Err, IfOk, sym, subst}
use Rattle.dsa_terms.specs.Buffers.{Instance}
use Rattle.dsa_terms.specs.Layouts.{IsFeasible}
use Rattle.dsa_terms.specs.Logs.{IsAccepted, Log}
use Rattle.dsa_model.specs.Chosen.{some_of}
use Rattle.dsa_model.specs.declared.fail.NoMemory.{NoMemory}
use Rattle.csv_instance.specs.Records.{Record, table_of}
use Rattle.csv_instance.specs.Chosen.{chosen_text}
use Rattle.csv_instance.specs.Parse.{parse}
use Rattle.core_find.specs.Cores.{IsCore}
use Rattle.core_find.proofs.Left.{core_does_not_fit, core_rest_fits}
use Rattle.run_status.specs.Spoken.{IsSpoken}
use Rattle.run_status.specs.declared.status.Status.TheVariants as status
use Rattle.run_course.specs.Course.{Outcome, Write, says, writes}
use Rattle.run_course.specs.Prepares.{outcome_of}
use Rattle.run_course.specs.declared.prepared.Prepared.{Prepared}
use Rattle.writings.specs.Writings.{Names, ReadsBack, log_file}
use Rattle.explaining.specs.Explaining.{ExplainsOrFits, rows_file}

pub explains_spoken : (C : ℕ) (names : Names) (table : List Record) (I : Instance) (o : Outcome) →
    ExplainsOrFits C names table I o → IsSpoken o.status
explains_spoken C names table I o (inl core) = subst (λ (o : Outcome). IsSpoken o.status) (sym core.3) tt
explains_spoken C names table I o (inr fits) = subst (λ (o : Outcome). IsSpoken o.status) (sym fits.1) tt

-- all buffers fit, and that is said
pub fit : (C : ℕ) (names : Names) (table : List Record) (I : Instance) (r : Result Prepared NoMemory) →
    IsFeasible I C → IfOk r (λ p. outcome_of p ≡ says (status.NoCore C)) →
    IfOk r (λ p. ExplainsOrFits C names table I (outcome_of p))
fit C names table I (Ok p) feasible told = inr (feasible, told)
fit C names table I (Err e) feasible told = tt

-- the core is written
module _ (C : ℕ) (names : Names) (table : List Record) (I : Instance) (members : List ℕ) (refutation : Log)
    (rows log : Write)
    (core : IsCore I C members) (accepted : IsAccepted (some_of I members) refutation)
    (its_capacity : refutation.capacity ≡ C)
    (parsed : parse (table_of (chosen_text table members)) ≡ Ok (some_of I members)) (readable : ReadsBack refutation)
    (its_rows : rows ≡ rows_file names.output table members) (its_log : log ≡ log_file names.log refutation) where
  pub explains : (count : ℕ) (r : Result Prepared NoMemory) → count ≡ length members →
      IfOk r (λ p. outcome_of p ≡ writes (rows ∷ log ∷ []) (status.Core count)) →
      IfOk r (λ p. ExplainsOrFits C names table I (outcome_of p))
  explains count (Ok p) its_count is = inl (
    members,
    refutation,
    record {
      is_core = core;
      parsed = parsed;
      accepted = accepted;
      its_capacity = its_capacity;
      infeasible = core_does_not_fit I C members core;
      rests = λ b among. core_rest_fits I C b members core among;
      readable = readable;
    },
    is
        ∙ ap (λ n. writes (rows ∷ log ∷ []) (status.Core n)) its_count
        ∙ ap (λ (w : Write). writes (w ∷ log ∷ []) (status.Core (length members))) its_rows
        ∙ ap (λ (w : Write). writes (rows_file names.output table members ∷ w ∷ []) (status.Core (length members)))
        its_log,
  )
  explains count (Err e) its_count is = tt
