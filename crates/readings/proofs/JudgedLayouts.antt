-- From what a layout file comes to, to what a course comes to that judges it.
use Rattle.std.proofs.Common.{◌≡◌, ◌⊎◌, ℕ, List, Ok, refl, sym, subst, inl, inr, ap}
use Rattle.dsa_terms.specs.Buffers.{Instance}
use Rattle.dsa_model.proofs.LayoutFaults.{layout_exactly}
use Rattle.csv_instance.specs.Records.{Record}
use Rattle.command_words.specs.Options.{Word}
use Rattle.command_words.specs.declared.role.Role.TheVariants as role
use Rattle.csv_instance.specs.Parse.{parse}
use Rattle.dsa_outside.specs.Faults.{NoneFell}
use Rattle.run_status.specs.declared.status.Status.{Status}
use Rattle.run_status.specs.Spoken.{IsSpoken}
use Rattle.dsa_outside.specs.Seen.{FilesSeen}
use Rattle.run_course.specs.Course.{Course, Comes, Outcome, IsUnreadable, says}
use Rattle.readings.specs.Input.{opened}
use Rattle.readings.specs.Opens.{IsInput}
use Rattle.readings.specs.Judging.{judged, layout_or_fault, offsets_or_fault}
use Rattle.readings.proofs.Opening.{with_input}
use Rattle.readings.specs.GivenLayouts.{GivesLayout, GivesNoOffsets, GivesWrongOffsets}

-- why the file gives no layout
abbrev pub IsNone : FilesSeen → FilesSeen → Word → List Record → Instance → ℕ → Status → Type 0
IsNone old new name table I C s = IsUnreadable old new role.Layout name s
    ⊎ GivesNoOffsets old name table s ⊎ GivesWrongOffsets old name table I C s

-- the file gives no layout, so the course ends here
pub no_layout : (old new : FilesSeen) (name : Word) (table : List Record) (I : Instance) (C : ℕ) (s : Status)
    (next : List ℕ → Course) → IsNone old new name table I C s → Comes old new (judged name table I C next) (says s)
no_layout old new name table I C s next (inl failed) = inl (failed, refl)
no_layout old new name table I C s next (inr (inl gives)) =
    inr (
      gives.bytes,
      gives.whole,
      subst (λ r. Comes old new (offsets_or_fault r I C next) (says s)) (sym gives.refused)
          (subst IsSpoken (sym gives.told) tt, ap says gives.told),
    )
no_layout old new name table I C s next (inr (inr gives)) =
    inr (
      gives.bytes,
      gives.whole,
      subst (λ r. Comes old new (offsets_or_fault r I C next) (says s)) (sym gives.parsed)
          (subst (λ f. Comes old new (layout_or_fault f (next gives.offsets)) (says s)) (sym gives.refused)
          (subst IsSpoken (sym gives.told) tt, ap says gives.told)),
    )

-- the file gives a layout, so the course goes on
pub with_layout : (old new : FilesSeen) (name : Word) (table : List Record) (I : Instance) (C : ℕ) (offsets : List ℕ)
    (next : List ℕ → Course) → GivesLayout old name table I C offsets →
    (o : Outcome) → Comes old new (next offsets) o → Comes old new (judged name table I C next) o
with_layout old new name table I C offsets next gives o comes =
    inr (
      gives.bytes,
      gives.whole,
      subst (λ r. Comes old new (offsets_or_fault r I C next) o) (sym gives.parsed)
          (subst (λ f. Comes old new (layout_or_fault f (next offsets)) o)
          (sym ((layout_exactly I C offsets).1 gives.layout)) comes),
    )

-- the input gives an instance, and then the layout file is judged
module _ (old mid new : FilesSeen) (input layout : Word) (C : ℕ) (next : List Record → Instance → List ℕ → Course)
    (table : List Record) (J : Instance) (given : (I : Instance) × IsInput old input table I)
    (parsed : parse table ≡ Ok J) (same : mid.held ≡ old.held) (none : NoneFell old.faults mid.faults) where
  pub not_judged : (s : Status) → IsNone mid new layout table J C s →
      Comes old new (opened input (λ t I. judged layout t I C (next t I))) (says s)
  not_judged s gives = with_input old mid new input table J (λ t I. judged layout t I C (next t I)) given parsed same
      none (says s) (no_layout mid new layout table J C s (next table J) gives)

  pub then_judged : (offsets : List ℕ) → GivesLayout mid layout table J C offsets → (o : Outcome) →
      Comes mid new (next table J offsets) o → Comes old new (opened input (λ t I. judged layout t I C (next t I))) o
  then_judged offsets gives o comes = with_input old mid new input table J (λ t I. judged layout t I C (next t I)) given
      parsed same none o (with_layout mid new layout table J C offsets (next table J) gives o comes)
