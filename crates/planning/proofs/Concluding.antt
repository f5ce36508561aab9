-- From what is prepared to what is concluded.
use Rattle.std.proofs.Common.{◌≡◌, ◌≤◌, inl, inr, ℕ, List, [], ◌∷◌, Result, Ok, Err, IfOk, Some, sym, subst, ap, ◌∙◌}
use Rattle.dsa_terms.specs.Buffers.{Instance}
use Rattle.dsa_terms.specs.Layouts.{IsLayout, IsLeast}
use Rattle.dsa_model.specs.declared.fail.NoMemory.{NoMemory}
use Rattle.csv_instance.specs.Records.{Record}
use Rattle.size_classes.specs.Plain.{IsPlain, first_rough}
use Rattle.size_classes.specs.Plans.{AllOf, IsPeakLoad, class_height, class_plan, power_height}
use Rattle.command_words.specs.Options.{Word}
use Rattle.run_status.specs.Spoken.{IsSpoken}
use Rattle.run_status.specs.declared.status.Status.TheVariants.{Classed, NotPlain}
use Rattle.run_course.specs.Course.{Outcome, Write, says, writes}
use Rattle.run_course.specs.Prepares.{outcome_of}
use Rattle.run_course.specs.declared.prepared.Prepared.{Prepared}
use Rattle.writings.specs.Writings.{layout_file}
use Rattle.planning.specs.Planning.{Plans}

pub plans_spoken : (output : Word) (table : List Record) (I : Instance) (o : Outcome) → Plans output table I o →
    IsSpoken o.status
plans_spoken output table I o (inl plan) = subst (λ (o : Outcome). IsSpoken o.status) (sym plan.2) tt
plans_spoken output table I o (inr rough) = subst (λ (o : Outcome). IsSpoken o.status) (sym rough.2) tt

-- a buffer is not plain, and that is said
pub refused : (output : Word) (table : List Record) (I : Instance) (b : ℕ) (r : Result Prepared NoMemory) →
    first_rough I ≡ Some b → IfOk r (λ p. outcome_of p ≡ says (NotPlain b)) →
    IfOk r (λ p. Plans output table I (outcome_of p))
refused output table I b (Ok p) rough told = inr (b, rough, told)
refused output table I b (Err e) rough told = tt

-- the plan is written
module _ (output : Word) (table : List Record) (I : Instance) (f : Write) (offsets : List ℕ) (height load : ℕ)
    (its_file : f ≡ layout_file output table offsets) (its_plan : offsets ≡ class_plan I)
    (its_height : height ≡ class_height I) (peak : IsPeakLoad I load) (plain : IsPlain I)
    (layout : IsLayout I height offsets) (powers : height ≤ power_height I)
    (least : (size : ℕ) → AllOf I size → IsLeast I height × (height ≡ load)) where
  plan_is : writes (f ∷ []) (Classed height load)
      ≡ writes (layout_file output table (class_plan I) ∷ []) (Classed (class_height I) load)
  plan_is =
      ap (λ (f : Write). writes (f ∷ []) (Classed height load)) its_file
      ∙ ap (λ (xs : List ℕ). writes (layout_file output table xs ∷ []) (Classed height load)) its_plan
      ∙ ap (λ h. writes (layout_file output table (class_plan I) ∷ []) (Classed h load)) its_height

  pub planned : (r : Result Prepared NoMemory) →
      IfOk r (λ p. outcome_of p ≡ writes (f ∷ []) (Classed height load)) →
      IfOk r (λ p. Plans output table I (outcome_of p))
  planned (Ok p) is = inl (
    load,
    record {
      plain = plain;
      peak = peak;
      layout = subst (IsLayout I (class_height I)) its_plan (subst (λ h. IsLayout I h offsets) its_height layout);
      powers = subst (λ h. h ≤ power_height I) its_height powers;
      least = λ size all. subst (λ h. IsLeast I h × (h ≡ load)) its_height (least size all);
    },
    is ∙ plan_is,
  )
  planned (Err e) is = tt
