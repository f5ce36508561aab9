-- From the files and the status that are prepared, to an answer that is given.
use Rattle.std.proofs.Common.{◌≡◌, ℕ, List, Option, Result, Ok, Err, IfOk, sym, ap, ◌∙◌, subst}
use Rattle.dsa_terms.specs.Logs.{Log}
use Rattle.dsa_model.specs.declared.fail.NoMemory.{NoMemory}
use Rattle.csv_instance.specs.Records.{Record}
use Rattle.run_status.specs.Spoken.{IsSpoken}
use Rattle.run_status.specs.declared.status.Status.{Status}
use Rattle.run_status.specs.declared.status.Status.TheVariants.{PrintFault, NoMemory as MemoryRanOut}
use Rattle.run_course.specs.Course.{Outcome, Write, writes}
use Rattle.run_course.specs.Prepares.{outcome_of}
use Rattle.run_course.specs.declared.prepared.Prepared.{Prepared}
use Rattle.writings.specs.Answers.{AllReadBack, Gives, answer_files}
use Rattle.writings.specs.Writings.{Names}

-- what holds, holds of any result
pub of_any : (R : Type 0) (r : Result Prepared NoMemory) → R → IfOk r (λ p. R)
of_any R (Ok p) holds = holds
of_any R (Err e) holds = tt

module _ (IsAnswer : Status → Option (List ℕ) → Option Log → Type 0) (names : Names) (table : List Record) where
  -- an answer is given whose files are prepared
  pub gives : (s : Status) (layout : Option (List ℕ)) (log : Option Log) → IsAnswer s layout log → (ws : List Write) →
      ws ≡ answer_files names table layout log → (r : Result Prepared NoMemory) → IfOk r (λ p. AllReadBack log) →
      IfOk r (λ p. outcome_of p ≡ writes ws s) → IfOk r (λ p. Gives IsAnswer names table (outcome_of p))
  gives s layout log answer ws same (Ok p) readable is = record {
    status = s;
    layout = layout;
    log = log;
    answer = answer;
    readable = readable;
    written = is ∙ ap (λ (files : List Write). writes files s) same;
  }
  gives s layout log answer ws same (Err e) readable is = tt

  -- where neither want of memory nor a text that is not printed is an answer, each is spoken
  module _ (not_unsaid : (layout : Option (List ℕ)) (log : Option Log) → IsAnswer PrintFault layout log → ⊥)
      (not_cut : (layout : Option (List ℕ)) (log : Option Log) → IsAnswer MemoryRanOut layout log → ⊥) where
    spoken : (s : Status) (layout : Option (List ℕ)) (log : Option Log) → IsAnswer s layout log → IsSpoken s
    spoken PrintFault layout log answer = not_unsaid layout log answer
    spoken MemoryRanOut layout log answer = not_cut layout log answer
    spoken s layout log answer = tt

    pub gives_spoken : (o : Outcome) → Gives IsAnswer names table o → IsSpoken o.status
    gives_spoken o given = subst (λ (o : Outcome). IsSpoken o.status) (sym given.written)
        (spoken given.status given.layout given.log given.answer)
