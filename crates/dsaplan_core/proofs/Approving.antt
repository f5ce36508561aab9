-- A layout file that gives a layout is approved of.
use Rattle.std.proofs.Common.{◌≡◌, ◌∙◌, ◌⊎◌, ◌^◌, ℕ, List, Ok, refl, sym, ap₂, subst, inl, inr}
use Rattle.dsa_terms.specs.Buffers.{Instance}
use Rattle.dsa_terms.specs.Claims.{IsIn}
use Rattle.dsa_terms.specs.Layouts.{IsLayout}
use Rattle.dsa_model.proofs.LayoutFaults.{layout_exactly}
use Rattle.dsa_outside.specs.Seen.{FilesSeen, SinkSeen}
use Rattle.csv_instance.specs.Offsets.{ids_of, parsed_offsets}
use Rattle.csv_instance.specs.Records.{Record, table_of}
use Rattle.command_words.specs.Options.{Word}
use Rattle.command_words.specs.Forms.{ReadsInstance, reads_of}
use Rattle.command_words.specs.Pairs.{Pair, name_in, number_at}
use Rattle.command_words.specs.Requests.{Request, request_of}
use Rattle.command_words.specs.declared.option.OptionName.TheVariants as option
use Rattle.command_words.specs.declared.verb.Verb.{Verb}
use Rattle.command_words.specs.declared.verb.Verb.TheVariants as verb
use Rattle.command_words.specs.declared.role.Role.TheVariants as role
use Rattle.run_status.specs.declared.status.Status.{Status}
use Rattle.run_status.specs.declared.status.Status.TheVariants as status
use Rattle.run_course.specs.Answers.{Answers}
use Rattle.run_course.specs.Course.{Comes, Concludes, Course, Outcome}
use Rattle.run_course.specs.Readings.{IsWholeFile}
use Rattle.readings.specs.Input.{opened}
use Rattle.readings.specs.Opens.{IsInput}
use Rattle.readings.specs.Judging.{judged}
use Rattle.readings.specs.GivenLayouts.{GivesLayout, GivesNoOffsets, GivesWrongOffsets}
use Rattle.judging.specs.Judging.{ShowsLayout, TellsRight}
use Rattle.judging.specs.Drawing.{Draws}
use Rattle.dsaplan_core.specs.Causes.{IsJudgedAt}
use Rattle.dsaplan_core.specs.Courses.{course, course_with}
use Rattle.dsaplan_core.specs.Complete.{HoldsGivenLayout, IsApproval, IsReady, IsUndisturbed}
use Rattle.dsaplan_core.proofs.Concluded.{calm_answer}
use Rattle.dsaplan_core.proofs.Gives.{judged_gives}
use Rattle.dsaplan_core.proofs.Served.{opened_read, same_bytes, same_table, served}

memory : (v : Verb) (I : Instance) (offsets : List ℕ) → IsApproval v I offsets status.NoMemory
memory verb.Verify I offsets = tt
memory v I offsets = tt

module _ (old : FilesSeen) (r : Request) (I : Instance) (ready : IsReady old r I) (C : ℕ) (offsets : List ℕ)
    (holds : HoldsGivenLayout old r I C offsets) (reads : ReadsInstance r.verb) where
  -- the layout file gives these offsets
  gives_them : (table : List Record) → IsInput old (name_in r.pairs role.Input) table I → (bytes : List ℕ) →
      IsWholeFile old role.Layout (name_in r.pairs role.Layout) bytes →
      parsed_offsets (ids_of table) (table_of bytes) ≡ Ok offsets
  gives_them table input bytes whole =
      let same = same_bytes old role.Layout (name_in r.pairs role.Layout) bytes holds.bytes holds.held whole in
      let one = same_table old (name_in r.pairs role.Input) I (ready.input reads).file table holds.table input
      holds.input in
      ap₂ (λ (t : List Record) (b : List ℕ). parsed_offsets (ids_of t) (table_of b)) one same ∙ holds.parsed

  its_offsets : (table : List Record) → IsInput old (name_in r.pairs role.Input) table I → (found : List ℕ) →
      GivesLayout old (name_in r.pairs role.Layout) table I C found → found ≡ offsets
  its_offsets table input found gives =
      let a = gives_them table input gives.bytes gives.whole in
      let b = gives.parsed in
      cc

  -- so they are not refused
  not_refused : (table : List Record) → IsInput old (name_in r.pairs role.Input) table I → (s : Status) →
      GivesNoOffsets old (name_in r.pairs role.Layout) table s
      ⊎ GivesWrongOffsets old (name_in r.pairs role.Layout) table I C s → ⊥
  not_refused table input s (inl gives) =
      let a = gives_them table input gives.bytes gives.whole in
      let b = gives.refused in
      absurd cc
  not_refused table input s (inr gives) =
      let a = gives_them table input gives.bytes gives.whole in
      let b = gives.parsed in
      let same : gives.offsets ≡ offsets = cc in
      let none = (layout_exactly I C gives.offsets).1 (subst (IsLayout I C) (sym same) holds.layout) in
      let some = gives.refused in
      absurd cc

module _ (old new : FilesSeen) (before after : SinkSeen) (I : Instance) (offsets : List ℕ) where
  module _ (r : Request) (ready : IsReady old r I) (calm : IsUndisturbed r old new before after) (C : ℕ)
      (holds : HoldsGivenLayout old r I C offsets) where
    -- a course that judges the layout file goes on with these offsets
    judged_is : (reads : ReadsInstance r.verb) → IsIn role.Layout (reads_of r.verb) → (P : Outcome → Type 0)
        (next : List Record → Instance → List ℕ → Course) →
        ((table : List Record) (o : Outcome) → Comes old new (next table I offsets) o → P o) → (o : Outcome) →
        Comes old new (opened (name_in r.pairs role.Input)
        (λ table J. judged (name_in r.pairs role.Layout) table J C (next table J))) o → P o
    judged_is reads among P next given =
        let name = name_in r.pairs role.Layout in
        opened_read old new before after I r ready calm reads P (λ table J. judged name table J C (next table J))
        (λ table input. judged_gives old new P name table I C (next table I)
        (served old new before after I r ready calm P role.Layout among)
        (λ cause wrong. absurd (not_refused old r I ready C offsets holds reads table input (status.Wrong cause) wrong))
        (λ found gives o comes. given table o (subst (λ (xs : List ℕ). Comes old new (next table I xs) o)
        (its_offsets old r I ready C offsets holds reads table input found gives) comes)))

  abbrev IsTold : Verb → Outcome → Type 0
  IsTold v o = IsApproval v I offsets o.status

  at_capacity : (r : Request) (C D : ℕ) → C ≡ D → HoldsGivenLayout old r I C offsets →
      HoldsGivenLayout old r I D offsets
  at_capacity r C D = subst (λ (c : ℕ). HoldsGivenLayout old r I c offsets)

  told : (v : Verb) (pairs : List Pair) (C : ℕ) → IsJudgedAt v pairs C →
      IsReady old (record { verb = v; pairs = pairs }) I →
      IsUndisturbed (record { verb = v; pairs = pairs }) old new before after →
      HoldsGivenLayout old (record { verb = v; pairs = pairs }) I C offsets → (o : Outcome) →
      Comes old new (course_with v pairs) o → IsTold v o
  told verb.Verify pairs C at ready calm holds =
      let r : Request = record { verb = verb.Verify; pairs = pairs } in
      let capacity = number_at pairs option.Capacity in
      judged_is r ready calm capacity (at_capacity r C capacity at holds) (inr (inl refl)) (inr (inl refl))
      (IsTold verb.Verify) (λ table J xs. Concludes (TellsRight J capacity xs))
      (λ table o comes. subst (IsTold verb.Verify) (sym comes.1.told) tt)
  told verb.Report pairs C at ready calm holds =
      let r : Request = record { verb = verb.Report; pairs = pairs } in
      judged_is r ready calm (2 ^ 60) (at_capacity r C (2 ^ 60) at holds) (inl refl) (inr (inl refl))
      (IsTold verb.Report) (λ table J xs. Concludes (ShowsLayout table J xs))
      (λ table o comes. subst (IsTold verb.Report) (sym comes.1.shown) tt)
  told verb.Draw pairs C at ready calm holds =
      let r : Request = record { verb = verb.Draw; pairs = pairs } in
      let output = name_in pairs role.Output in
      judged_is r ready calm (2 ^ 60) (at_capacity r C (2 ^ 60) at holds) (inl refl) (inr (inl refl))
      (IsTold verb.Draw) (λ table J xs. Concludes (Draws output table J xs))
      (λ table o comes. subst (IsTold verb.Draw) (sym comes.1.drawn) refl)
  told v pairs C at ready calm holds = absurd at

  module _ (words : List Word) (r : Request) (C : ℕ) (is : request_of words ≡ Ok r)
      (judged_at : IsJudgedAt r.verb r.pairs C) (ready : IsReady old r I)
      (calm : IsUndisturbed r old new before after) (holds : HoldsGivenLayout old r I C offsets) where
    -- the answer is that it is a layout, or memory runs out
    pub approves : (s : Status) → Answers (course words) old new before after s → IsApproval r.verb I offsets s
    approves = calm_answer old new before after words r is calm (IsApproval r.verb I offsets)
        (memory r.verb I offsets) (told r.verb r.pairs C judged_at ready calm holds)
