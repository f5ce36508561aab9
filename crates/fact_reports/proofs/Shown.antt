-- Reports that are shown, as what the courses come to.
use Rattle.std.proofs.Common.{◌≡◌, ◌<◌, ◌≤◌, ℕ, List, Ok, Err, Result, IfOk, Bool, true, false, nat_lt, sym, subst, arith}
use Rattle.std.proofs.lemmas.Bool.Decides.{nat_tests}
use Rattle.dsa_terms.specs.Buffers.{Instance}
use Rattle.dsa_model.specs.Buffer.{buffer_limit}
use Rattle.dsa_model.specs.Fails.{IfFault, UnlessNoMemory}
use Rattle.dsa_model.specs.declared.fail.Fail.{Fail}
use Rattle.dsa_model.specs.declared.fail.Fail.TheVariants.{Fault}
use Rattle.dsa_model.specs.declared.fail.NoMemory.{NoMemory}
use Rattle.csv_instance.specs.Records.{Record}
use Rattle.command_words.specs.declared.verb.Verb.{Verb}
use Rattle.dsa_outside.specs.Seen.{FilesSeen}
use Rattle.run_status.specs.Spoken.{IsSpoken}
use Rattle.run_status.specs.declared.status.Status.TheVariants.{TooMany}
use Rattle.run_course.specs.Course.{Comes, Concludes, Outcome, says}
use Rattle.run_course.specs.Prepares.{outcome_of}
use Rattle.run_course.specs.declared.prepared.Prepared.{Prepared}
use Rattle.fact_reports.specs.Reporting.{ShowsReport, ShowsTrial, trial, unless_many}

-- what a clause says of the fault that came
pub fault_gives : {T E : Type 0} (P : T → Type 0) (Q : E → Type 0) (r : Result T (Fail E)) (f : Fail E) (e : E) →
    r ≡ Err f → f ≡ Fault e → UnlessNoMemory r P Q → Q e
fault_gives P Q r f e is f_is said =
    subst (λ x. IfFault Q x) f_is (subst (λ x. UnlessNoMemory x P Q) is said)

-- each report is spoken
pub report_spoken : (v : Verb) (table : List Record) (I : Instance) (o : Outcome) → ShowsReport v table I o →
    IsSpoken o.status
report_spoken v table I o h = subst (λ (o : Outcome). IsSpoken o.status) (sym h.shown) tt

trial_spoken : (seed count steps : ℕ) (o : Outcome) → ShowsTrial seed count steps o → IsSpoken o.status
trial_spoken seed count steps o h = subst (λ (o : Outcome). IsSpoken o.status) (sym h.shown) tt

some_many : (count : ℕ) → buffer_limit < count → nat_lt buffer_limit count ≡ true
some_many count lt = grind (arith, nat_tests, lt)

not_many : (count : ℕ) → count ≤ buffer_limit → nat_lt buffer_limit count ≡ false
not_many count le = grind (arith, nat_tests, le)

module _ (old new : FilesSeen) (seed count steps : ℕ) where
  -- a trial of few buffers is shown
  pub tried : (r : Result Prepared NoMemory) → count ≤ buffer_limit →
      IfOk r (λ p. ShowsTrial seed count steps (outcome_of p)) →
      IfOk r (λ p. Comes old new (trial seed count steps) (outcome_of p))
  tried (Ok p) few shows =
      subst (λ (b : Bool). Comes old new (unless_many b count (Concludes (ShowsTrial seed count steps))) (outcome_of p))
      (sym (not_many count few)) (trial_spoken seed count steps (outcome_of p) shows, shows)
  tried (Err e) few shows = tt

  -- a trial of too many is not
  pub too_many : (r : Result Prepared NoMemory) → buffer_limit < count →
      IfOk r (λ p. outcome_of p ≡ says (TooMany count)) →
      IfOk r (λ p. Comes old new (trial seed count steps) (outcome_of p))
  too_many (Ok p) many is =
      subst (λ (b : Bool). Comes old new (unless_many b count (Concludes (ShowsTrial seed count steps))) (outcome_of p))
      (sym (some_many count many)) (subst (λ (o : Outcome). IsSpoken o.status) (sym is) tt, is)
  too_many (Err e) many is = tt
