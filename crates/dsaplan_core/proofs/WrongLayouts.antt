-- A layout file that gives no layout is wrong, for its first fault.
use Rattle.std.proofs.Common.{◌≡◌, ◌⊎◌, ◌^◌, ℕ, List, Some, Ok, refl, ap, subst, inl, inr}
use Rattle.dsa_terms.specs.Buffers.{Instance}
use Rattle.dsa_terms.specs.Claims.{IsIn}
use Rattle.dsa_terms.specs.Layouts.{IsLayout}
use Rattle.dsa_model.specs.LayoutFaults.{layout_fault}
use Rattle.dsa_model.proofs.LayoutFaults.{layout_exactly}
use Rattle.dsa_outside.specs.Seen.{FilesSeen, SinkSeen}
use Rattle.csv_instance.specs.Offsets.{ids_of, parsed_offsets}
use Rattle.csv_instance.specs.Records.{Record, table_of}
use Rattle.command_words.specs.Options.{Word}
use Rattle.command_words.specs.Forms.{ReadsInstance, reads_of}
use Rattle.command_words.specs.Pairs.{Pair, name_in, number_at}
use Rattle.command_words.specs.Requests.{Request, request_of}
use Rattle.command_words.specs.declared.option.OptionName.TheVariants as option
use Rattle.command_words.specs.declared.verb.Verb.{Verb}
use Rattle.command_words.specs.declared.verb.Verb.TheVariants as verb
use Rattle.command_words.specs.declared.role.Role.TheVariants as role
use Rattle.run_status.specs.declared.status.Status.{Status}
use Rattle.run_status.specs.declared.status.Status.TheVariants as status
use Rattle.run_status.specs.declared.status.WrongCause.{WrongCause}
use Rattle.run_course.specs.Answers.{Answers}
use Rattle.run_course.specs.Complete.{IsReadable}
use Rattle.run_course.specs.Course.{Comes, Concludes, Course, Outcome}
use Rattle.run_course.specs.Readings.{IsWholeFile}
use Rattle.readings.specs.Input.{opened}
use Rattle.readings.specs.Opens.{IsInput}
use Rattle.readings.specs.Judging.{judged}
use Rattle.readings.specs.GivenLayouts.{GivesLayout, GivesNoOffsets, GivesWrongOffsets}
use Rattle.judging.specs.Judging.{ShowsLayout, TellsRight}
use Rattle.judging.specs.Drawing.{Draws}
use Rattle.dsaplan_core.specs.Causes.{IsJudgedAt}
use Rattle.dsaplan_core.specs.Courses.{course, course_with}
use Rattle.dsaplan_core.specs.Complete.{IsReady, IsUndisturbed, IsWrongFor}
use Rattle.dsaplan_core.proofs.Concluded.{calm_answer}
use Rattle.dsaplan_core.proofs.Gives.{judged_gives}
use Rattle.dsaplan_core.proofs.Served.{opened_read, same_reading, same_table, served}

-- the file gives no offsets, or none that are a layout, for this cause
abbrev GivesNone : FilesSeen → Word → List Record → Instance → ℕ → WrongCause → Type 0
GivesNone old name table I C cause = GivesNoOffsets old name table (status.Wrong cause)
    ⊎ GivesWrongOffsets old name table I C (status.Wrong cause)

module _ (old : FilesSeen) (name : Word) (table : List Record) (I : Instance) (C : ℕ)
    (there : IsReadable old role.Layout name) where
  -- what the file gives is one
  same_given : (a b : List ℕ) → IsWholeFile old role.Layout name a → IsWholeFile old role.Layout name b →
      parsed_offsets (ids_of table) (table_of a) ≡ parsed_offsets (ids_of table) (table_of b)
  same_given a b one other = ap (λ (bytes : List ℕ). parsed_offsets (ids_of table) (table_of bytes))
      (same_reading old role.Layout name there a b one other)

  -- it is wrong for one cause
  same_cause : (c d : WrongCause) → GivesNone old name table I C c → GivesNone old name table I C d → c ≡ d
  same_cause c d (inl a) (inl b) =
      let same = same_given a.bytes b.bytes a.whole b.whole in
      let one = a.refused in
      let two = b.refused in
      let told = a.told in
      let other = b.told in
      cc
  same_cause c d (inl a) (inr b) =
      let same = same_given a.bytes b.bytes a.whole b.whole in
      let one = a.refused in
      let two = b.parsed in
      absurd cc
  same_cause c d (inr a) (inl b) =
      let same = same_given a.bytes b.bytes a.whole b.whole in
      let one = a.parsed in
      let two = b.refused in
      absurd cc
  same_cause c d (inr a) (inr b) =
      let same = same_given a.bytes b.bytes a.whole b.whole in
      let read = a.parsed in
      let again = b.parsed in
      let offsets : a.offsets ≡ b.offsets = cc in
      let one = subst (λ (xs : List ℕ). layout_fault I C xs ≡ Some a.fault) offsets a.refused in
      let two = b.refused in
      let told = a.told in
      let other = b.told in
      cc

  -- and then it gives no layout
  no_layout : (c : WrongCause) → GivesNone old name table I C c → (offsets : List ℕ) →
      GivesLayout old name table I C offsets → ⊥
  no_layout c (inl a) offsets gives =
      let same = same_given a.bytes gives.bytes a.whole gives.whole in
      let one = a.refused in
      let two = gives.parsed in
      absurd cc
  no_layout c (inr a) offsets gives =
      let same = same_given a.bytes gives.bytes a.whole gives.whole in
      let read = a.parsed in
      let again = gives.parsed in
      let its : offsets ≡ a.offsets = cc in
      let none = (layout_exactly I C a.offsets).1 (subst (IsLayout I C) its gives.layout) in
      let some = a.refused in
      absurd cc

module _ (old new : FilesSeen) (before after : SinkSeen) (table : List Record) (I : Instance) (cause : WrongCause) where
  abbrev IsTold : Outcome → Type 0
  IsTold o = IsWrongFor cause o.status

  module _ (r : Request) (ready : IsReady old r I) (calm : IsUndisturbed r old new before after)
      (input : IsInput old (name_in r.pairs role.Input) table I) (C : ℕ)
      (gives : GivesNone old (name_in r.pairs role.Layout) table I C cause) where
    -- a course that judges the layout file ends with that cause, whatever would come then
    ends : ReadsInstance r.verb → IsIn role.Layout (reads_of r.verb) →
        (next : List Record → Instance → List ℕ → Course) → (o : Outcome) →
        Comes old new (opened (name_in r.pairs role.Input)
        (λ t J. judged (name_in r.pairs role.Layout) t J C (next t J))) o → IsTold o
    ends reads among next =
        let name = name_in r.pairs role.Layout in
        let there = ready.files role.Layout among in
        opened_read old new before after I r ready calm reads IsTold (λ t J. judged name t J C (next t J))
        (λ t read.
        let same = same_table old (name_in r.pairs role.Input) I (ready.input reads).file table t input read in
        let none = subst (λ (t : List Record). GivesNone old name t I C cause) same gives in
        judged_gives old new IsTold name t I C (next t I)
        (served old new before after I r ready calm IsTold role.Layout among)
        (λ told wrong. same_cause old name t I C there told cause wrong none)
        (λ offsets layout o comes. absurd (no_layout old name t I C there cause none offsets layout)))

  at_capacity : (name : Word) (C D : ℕ) → C ≡ D → GivesNone old name table I C cause →
      GivesNone old name table I D cause
  at_capacity name C D = subst (λ (c : ℕ). GivesNone old name table I c cause)

  told : (v : Verb) (pairs : List Pair) (C : ℕ) → IsJudgedAt v pairs C →
      IsReady old (record { verb = v; pairs = pairs }) I →
      IsUndisturbed (record { verb = v; pairs = pairs }) old new before after →
      IsInput old (name_in pairs role.Input) table I → GivesNone old (name_in pairs role.Layout) table I C cause →
      (o : Outcome) → Comes old new (course_with v pairs) o → IsTold o
  told verb.Verify pairs C at ready calm input gives =
      let capacity = number_at pairs option.Capacity in
      ends (record { verb = verb.Verify; pairs = pairs }) ready calm input capacity
      (at_capacity (name_in pairs role.Layout) C capacity at gives) (inr (inl refl)) (inr (inl refl))
      (λ t J xs. Concludes (TellsRight J capacity xs))
  told verb.Report pairs C at ready calm input gives =
      ends (record { verb = verb.Report; pairs = pairs }) ready calm input (2 ^ 60)
      (at_capacity (name_in pairs role.Layout) C (2 ^ 60) at gives) (inl refl) (inr (inl refl))
      (λ t J xs. Concludes (ShowsLayout t J xs))
  told verb.Draw pairs C at ready calm input gives =
      ends (record { verb = verb.Draw; pairs = pairs }) ready calm input (2 ^ 60)
      (at_capacity (name_in pairs role.Layout) C (2 ^ 60) at gives) (inl refl) (inr (inl refl))
      (λ t J xs. Concludes (Draws (name_in pairs role.Output) t J xs))
  told v pairs C at ready calm input gives = absurd at

  module _ (words : List Word) (r : Request) (C : ℕ) (is : request_of words ≡ Ok r)
      (judged_at : IsJudgedAt r.verb r.pairs C) (ready : IsReady old r I)
      (calm : IsUndisturbed r old new before after) (input : IsInput old (name_in r.pairs role.Input) table I)
      (gives : GivesNone old (name_in r.pairs role.Layout) table I C cause) where
    -- the answer is that it is wrong for that cause, or memory runs out
    pub wrongs : (s : Status) → Answers (course words) old new before after s → IsWrongFor cause s
    wrongs = calm_answer old new before after words r is calm (IsWrongFor cause) tt
        (told r.verb r.pairs C judged_at ready calm input gives)
