-- What the files of the two buffers do not come to, and why a file gives no layout, no instance and no accepted log.
use Rattle.std.proofs.Common.{◌≡◌, ◌∙◌, ℕ, List, [], ◌∷◌, length, Option, Some, IsSome, Result, Ok, Err, refl, sym, ap, subst, inr, lit≤, arith}
use Rattle.dsa_terms.specs.Buffers.{Instance}
use Rattle.dsa_terms.specs.Layouts.{IsLayout}
use Rattle.dsa_terms.specs.Logs.{Log}
use Rattle.dsa_terms.proofs.Examples.{evens, five, sample}
use Rattle.dsa_model.specs.declared.layout.LayoutFault.TheVariants as layout
use Rattle.dsa_model.proofs.LayoutFaults.{layout_exactly}
use Rattle.dsa_outside.specs.Held.{file_at}
use Rattle.dsa_outside.specs.Seen.{FilesSeen}
use Rattle.csv_instance.specs.Parse.{parse}
use Rattle.csv_instance.specs.Records.{table_of}
use Rattle.csv_instance.specs.declared.fault.InstanceFault.{InstanceFault}
use Rattle.csv_instance.specs.declared.fault.InstanceFault.TheVariants as instance
use Rattle.csv_instance.proofs.FileFacts.{high_file, high_offsets, low_file, low_offsets, no_bytes, two, two_file, two_parse, two_reads, two_rows}
use Rattle.command_words.specs.Options.{Word}
use Rattle.command_words.specs.declared.role.Role.TheVariants as role
use Rattle.log_check.specs.declared.fault.CheckFault.TheVariants as check
use Rattle.log_text.specs.Says.{Says}
use Rattle.log_text.specs.Text.{raw_log_of}
use Rattle.log_text.specs.declared.fault.TextFault.TheVariants as text
use Rattle.refute_log.specs.declared.reason.Reason.TheVariants as reason
use Rattle.run_status.specs.declared.status.LogCause.TheVariants as cause
use Rattle.run_status.specs.declared.status.Status.TheVariants as status
use Rattle.run_status.specs.declared.status.WrongCause.TheVariants as wrong
use Rattle.run_course.specs.Course.{Outcome}
use Rattle.run_course.specs.Readings.{IsWholeFile}
use Rattle.readings.specs.Checking.{Checks, is_accepted, no_text, not_accepted}
use Rattle.readings.specs.GivenLayouts.{GivesLayout, GivesNoOffsets, GivesWrongOffsets, JudgesAt}
use Rattle.readings.specs.GivenLogs.{HoldsAccepted, HoldsNoRefutation, HoldsNoText}
use Rattle.readings.specs.Opens.{IsInput, IsMalformed}
use Rattle.readings.specs.declared.layout_file.Judged.TheVariants as judged
use Rattle.readings.proofs.ExampleFacts.{above_7, apart_at_8, overlap_at_4}
use Rattle.readings.proofs.LogFacts.{forged, no_header, too_low}
use Rattle.readings.proofs.SampleFacts.{none_at_4, sample_is_accepted}

module _ (files : FilesSeen) (name : Word) where
  -- ---- inputs
  input_of_two : file_at files.held name ≡ Some two_file → IsInput files name two_rows two
  input_of_two held = record {
    bytes = two_file;
    whole = record { held = λ told. held; short = lit≤ tt };
    records = sym two_reads;
    parsed = two_parse;
  }

  -- a table is one instance
  no_other_instance : IsInput files name two_rows five → ⊥
  no_other_instance h = apart two five two_parse h.parsed (λ e. omega (arith, e))
    where
      apart : (I J : Instance) → parse two_rows ≡ Ok I → parse two_rows ≡ Ok J → (length I ≡ length J → ⊥) → ⊥
      apart I J is too n = n (same (sym is ∙ too))
        where
          same : ◌≡◌ {A = Result Instance InstanceFault} (Ok I) (Ok J) → length I ≡ length J
          same e = cc

  no_input_without_header : (I : Instance) → IsInput files name [] I → ⊥
  no_input_without_header I h = let e = h.parsed in absurd cc

  no_bytes_are_malformed : file_at files.held name ≡ Some [] → IsMalformed files name instance.NoHeader
  no_bytes_are_malformed held =
      record { bytes = []; whole = record { held = λ told. held; short = lit≤ tt }; refused = no_bytes }

  -- the file of two buffers has no fault
  two_are_not_malformed : (fault : InstanceFault) → IsSome files.held → file_at files.held name ≡ Some two_file →
      IsMalformed files name fault → ⊥
  two_are_not_malformed fault told held h = good h.bytes (held_once (sym held ∙ h.whole.held told)) h.refused
    where
      held_once : {bytes : List ℕ} → ◌≡◌ {A = Option (List ℕ)} (Some two_file) (Some bytes) → two_file ≡ bytes
      held_once e = cc

      good : (bytes : List ℕ) → two_file ≡ bytes → parse (table_of bytes) ≡ Err fault → ⊥
      good bytes is bad =
          let whole = ap parse two_reads ∙ two_parse in
          let e = ap (λ (b : List ℕ). parse (table_of b)) is in
          let clash = sym whole ∙ e ∙ bad in
          absurd cc

  -- ---- layout files
  overlap_is_wrong : file_at files.held name ≡ Some low_file →
      GivesWrongOffsets files name two_rows two 10 (status.Wrong (wrong.Layout (layout.Overlap 0 1 4)))
  overlap_is_wrong held = record {
    bytes = low_file;
    offsets = 0 ∷ 2 ∷ [];
    fault = layout.Overlap 0 1 4;
    told = refl;
    whole = record { held = λ told. held; short = lit≤ tt };
    parsed = low_offsets;
    refused = overlap_at_4;
  }

  -- the same file is a layout at 8 and none at 7
  wrong_at_7 : file_at files.held name ≡ Some high_file →
      GivesWrongOffsets files name two_rows two 7 (status.Wrong (wrong.Layout (layout.Above 1)))
  wrong_at_7 held = record {
    bytes = high_file;
    offsets = 0 ∷ 4 ∷ [];
    fault = layout.Above 1;
    told = refl;
    whole = record { held = λ told. held; short = lit≤ tt };
    parsed = high_offsets;
    refused = above_7;
  }

  -- offsets that overlap are no layout
  overlap_is_no_layout : GivesLayout files name two_rows two 10 (0 ∷ 2 ∷ []) → ⊥
  overlap_is_no_layout h =
      let none = (layout_exactly two 10 (0 ∷ 2 ∷ [])).1 h.layout in
      let some = overlap_at_4 in cc

  -- what is told of offsets that are no layout is their fault, and never that they are right
  wrong_is_told : GivesWrongOffsets files name two_rows two 10 status.Right → ⊥
  wrong_is_told h = let e = h.told in absurd cc

  none_is_told : GivesNoOffsets files name two_rows status.Right → ⊥
  none_is_told h = let e = h.told in absurd cc

  judged_wrong : file_at files.held name ≡ Some high_file →
      JudgesAt files files name two_rows two 7 (judged.NoLayout (status.Wrong (wrong.Layout (layout.Above 1))))
  judged_wrong held = inr (inr (wrong_at_7 held))

  -- ---- files of logs
  no_bytes_hold_no_text : IsWholeFile files role.Log name [] →
      HoldsNoText files name (status.LogRefused (cause.Text text.NotLog))
  no_bytes_hold_no_text whole =
      record { bytes = []; fault = text.NotLog; told = refl; whole = whole; refused = no_header }

  -- the fault of a text is told, and not that of a check
  no_text_is_no_check : HoldsNoText files name (status.LogRefused (cause.Check (check.Illegal 0 reason.NotOver))) → ⊥
  no_text_is_no_check h = let e = h.told in absurd cc

  module _ (bytes : List ℕ) (whole : IsWholeFile files role.Log name bytes) where
    holds_the_sample : Says bytes (raw_log_of sample) → HoldsAccepted files name evens sample
    holds_the_sample is = record {
      bytes = bytes;
      whole = whole;
      says = is;
      accepted = sample_is_accepted;
      infeasible = none_at_4;
    }

    holds_the_forged : Says bytes forged →
        HoldsNoRefutation files name evens (status.LogRefused (cause.Check (check.Illegal 0 reason.NotOver)))
    holds_the_forged is = record {
      bytes = bytes;
      raw = forged;
      fault = check.Illegal 0 reason.NotOver;
      told = refl;
      whole = whole;
      says = is;
      refused = too_low;
    }

  -- no log is accepted where the buffers fit
  none_at_8 : (log : Log) → log.capacity ≡ 8 → HoldsAccepted files name two log → ⊥
  none_at_8 log at_8 h = h.infeasible (0 ∷ 4 ∷ [])
      (subst (λ (C : ℕ). IsLayout two C (0 ∷ 4 ∷ [])) (sym at_8) ((layout_exactly two 8 (0 ∷ 4 ∷ [])).0 apart_at_8))

-- ---- checks
module _ (bytes : List ℕ) (accepted : Log → Outcome → Type 0) where
  -- a log that refutes nothing is not gone on with, so what is told is a refusal
  nothing_else_at_8 : (o : Outcome) → ((log : Log) → accepted log o → log.capacity ≡ 8) → Checks two bytes accepted o →
      o.status ≡ status.Right → ⊥
  nothing_else_at_8 o at_8 (no_text fault is e) right = let s = ap (λ (o : Outcome). o.status) e in absurd cc
  nothing_else_at_8 o at_8 (not_accepted raw fault is refused e) right =
      let s = ap (λ (o : Outcome). o.status) e in absurd cc
  nothing_else_at_8 o at_8 (is_accepted log is legal infeasible has) right = infeasible (0 ∷ 4 ∷ [])
      (subst (λ (C : ℕ). IsLayout two C (0 ∷ 4 ∷ [])) (sym (at_8 log has))
      ((layout_exactly two 8 (0 ∷ 4 ∷ [])).0 apart_at_8))
