-- What the laws of a log that is refused and of a layout file that is wrong ask is met, all of it at once, for each
-- kind of cause: on an input of two buffers that are both live at 4, with a log's file of no bytes, with a log for
-- three buffers, with a layout file that leaves a buffer out, and with a layout at 8 that is judged at 7.
use Rattle.std.proofs.Common.{◌≡◌, ◌≤◌, ◌⊎◌, ℕ, List, [], ◌∷◌, length, Option, Result, Ok, codes, refl, sym, subst, inl, inr, lit≤}
use Rattle.dsa_terms.specs.Buffers.{Instance}
use Rattle.dsa_model.specs.declared.layout.LayoutFault.{LayoutFault}
use Rattle.dsa_model.specs.declared.layout.LayoutFault.TheVariants as layout
use Rattle.csv_instance.specs.Offsets.{ids_of, parsed_offsets}
use Rattle.csv_instance.specs.Records.{Record, table_of}
use Rattle.csv_instance.specs.declared.fault.OffsetsFault.{OffsetsFault}
use Rattle.csv_instance.specs.declared.fault.OffsetsFault.TheVariants as offsets
use Rattle.csv_instance.proofs.FileFacts.{high_file, high_offsets, short_file, two, two_reads, two_rows, without_y}
use Rattle.log_text.specs.declared.fault.TextFault.TheVariants as text
use Rattle.log_check.specs.declared.fault.CheckFault.TheVariants as check
use Rattle.command_words.specs.Pairs.{name_in}
use Rattle.command_words.specs.Requests.{request_of}
use Rattle.command_words.specs.Roles.{limit_of}
use Rattle.command_words.specs.declared.role.Role.TheVariants as role
use Rattle.run_status.specs.declared.status.Status.TheVariants as status
use Rattle.run_status.specs.declared.status.LogCause.{LogCause}
use Rattle.run_status.specs.declared.status.LogCause.TheVariants as refused
use Rattle.run_status.specs.declared.status.WrongCause.{WrongCause}
use Rattle.run_status.specs.declared.status.WrongCause.TheVariants as wrong
use Rattle.run_course.specs.Answers.{Answers}
use Rattle.run_course.specs.Course.{Comes, Concludes, Course, says}
use Rattle.run_course.specs.Readings.{IsWholeFile}
use Rattle.readings.specs.Checking.{Checks, no_text, not_accepted}
use Rattle.readings.specs.GivenLayouts.{GivesNoOffsets, GivesWrongOffsets}
use Rattle.readings.specs.GivenLogs.{HoldsNoRefutation, HoldsNoText}
use Rattle.readings.specs.Judging.{judged, layout_or_fault, offsets_or_fault}
use Rattle.readings.specs.Opens.{IsInput}
use Rattle.readings.proofs.ExampleFacts.{above_7}
use Rattle.readings.proofs.LogFacts.{no_header}
use Rattle.judging.specs.Judging.{TellsRight}
use Rattle.dsaplan_core.specs.Causes.{IsChecking, IsJudgedAt}
use Rattle.dsaplan_core.specs.Complete.{IsReady, IsRefusedFor, IsUndisturbed, IsWrongFor}
use Rattle.dsaplan_core.specs.Courses.{course}
use Rattle.dsaplan_core.proofs.WorldFacts.{verify_values}
use Rattle.dsaplan_core.proofs.HeldFacts.{quiet}
use Rattle.dsaplan_core.proofs.RefutedFacts.{three_fault, three_file, three_raw, three_reads}
use Rattle.dsaplan_core.proofs.JudgedFacts.{beside, reads_layout, verify_8, verify_request}
use Rattle.dsaplan_core.proofs.PremiseFacts.{checks_log, goes_on, layout_is_ready, log_is_ready, logged, not_a, not_l, reads_file, refute_7, refute_values, said, sink_after, undisturbed, with_file}

-- ---- the law `log_refused`: a log's file that the words of `refute` name
-- what the law asks
abbrev RefusesIsMet : List ℕ → LogCause → Type 0
RefusesIsMet file cause = (request_of (codes "refute" ∷ refute_values) ≡ Ok refute_7) × IsChecking refute_7.verb
    × IsReady (logged file) refute_7 two
    × IsUndisturbed refute_7 (logged file) (logged file) quiet (sink_after (status.LogRefused cause))
    × (HoldsNoText (logged file) (name_in refute_7.pairs role.Log) (status.LogRefused cause)
    ⊎ HoldsNoRefutation (logged file) (name_in refute_7.pairs role.Log) two (status.LogRefused cause))
    × Answers (course (codes "refute" ∷ refute_values)) (logged file) (logged file) quiet
    (sink_after (status.LogRefused cause)) (status.LogRefused cause)

module _ (file : List ℕ) (short : length file ≤ limit_of role.Log) where
  whole_log : IsWholeFile (logged file) role.Log (codes "l") file
  whole_log = record { held = λ there. reads_file file; short = short }

  refuses_is_met : (cause : LogCause) → HoldsNoText (logged file) (codes "l") (status.LogRefused cause)
      ⊎ HoldsNoRefutation (logged file) (codes "l") two (status.LogRefused cause) →
      Checks two file (λ log o. o ≡ says (status.Accepted log.capacity)) (says (status.LogRefused cause)) →
      RefusesIsMet file cause
  refuses_is_met cause holds checks = (
    refl,
    inr (inl refl),
    log_is_ready file short,
    undisturbed refute_7 (with_file (codes "l") file) (status.LogRefused cause),
    holds,
    said (codes "refute" ∷ refute_values) refute_7 (with_file (codes "l") file) (status.LogRefused cause) refl
        (goes_on (codes "l") file not_l checks_log (says (status.LogRefused cause))
        (inr (file, whole_log, (tt, checks)))),
  )

no_bytes_are_refused : RefusesIsMet [] (refused.Text text.NotLog)
no_bytes_are_refused = refuses_is_met [] (lit≤ tt) (refused.Text text.NotLog)
    (inl (record {
      bytes = [];
      fault = text.NotLog;
      told = refl;
      whole = whole_log [] (lit≤ tt);
      refused = no_header;
    }))
    (no_text text.NotLog no_header refl)

three_is_refused : RefusesIsMet three_file (refused.Check (check.WrongCount 3 2))
three_is_refused = refuses_is_met three_file (lit≤ tt) (refused.Check (check.WrongCount 3 2))
    (inr (record {
      bytes = three_file;
      raw = three_raw;
      fault = check.WrongCount 3 2;
      told = refl;
      whole = whole_log three_file (lit≤ tt);
      says = inl three_reads;
      refused = three_fault;
    }))
    (not_accepted three_raw (check.WrongCount 3 2) (inl three_reads) three_fault refl)

refused_for_its_cause : IsRefusedFor (refused.Text text.NotLog) (status.LogRefused (refused.Text text.NotLog))
refused_for_its_cause = refl

refused_for_no_other : IsRefusedFor (refused.Text text.NotLog) (status.LogRefused (refused.Text text.NoEnd)) → ⊥
refused_for_no_other e = absurd cc

not_accepted_for_it : (cause : LogCause) (C : ℕ) → IsRefusedFor cause (status.Accepted C) → ⊥
not_accepted_for_it cause C h = h

-- ---- the law `wrong`: a layout file that the words of `verify` name, at 7
-- what the law asks
abbrev WrongsIsMet : List ℕ → WrongCause → Type 0
WrongsIsMet file cause = (request_of (codes "verify" ∷ verify_values (codes "7")) ≡ Ok (verify_request (codes "7")))
    × IsJudgedAt (verify_request (codes "7")).verb (verify_request (codes "7")).pairs 7
    × IsReady (beside file) (verify_request (codes "7")) two
    × IsUndisturbed (verify_request (codes "7")) (beside file) (beside file) quiet (sink_after (status.Wrong cause))
    × IsInput (beside file) (name_in (verify_request (codes "7")).pairs role.Input) two_rows two
    × (GivesNoOffsets (beside file) (name_in (verify_request (codes "7")).pairs role.Layout) two_rows
    (status.Wrong cause)
    ⊎ GivesWrongOffsets (beside file) (name_in (verify_request (codes "7")).pairs role.Layout) two_rows two 7
    (status.Wrong cause))
    × Answers (course (codes "verify" ∷ verify_values (codes "7"))) (beside file) (beside file) quiet
    (sink_after (status.Wrong cause)) (status.Wrong cause)

abbrev judges_at_7 : List Record → Instance → Course
judges_at_7 table I = judged (codes "a") table I 7 (λ given. Concludes (TellsRight I 7 given))

-- after what the file gives, judging comes to this cause
abbrev ComesTo : List ℕ → Result (List ℕ) OffsetsFault → WrongCause → Type 0
ComesTo file given cause = Comes (beside file) (beside file)
    (offsets_or_fault given two 7 (λ xs. Concludes (TellsRight two 7 xs))) (says (status.Wrong cause))

module _ (file : List ℕ) (short : length file ≤ limit_of role.Layout) where
  whole_layout : IsWholeFile (beside file) role.Layout (codes "a") file
  whole_layout = record { held = λ there. reads_layout file; short = short }

  wrongs_is_met : (cause : WrongCause) → GivesNoOffsets (beside file) (codes "a") two_rows (status.Wrong cause)
      ⊎ GivesWrongOffsets (beside file) (codes "a") two_rows two 7 (status.Wrong cause) →
      ComesTo file (parsed_offsets (ids_of two_rows) (table_of file)) cause → WrongsIsMet file cause
  wrongs_is_met cause gives comes = (
    refl,
    refl,
    layout_is_ready (codes "7") file short,
    undisturbed (verify_request (codes "7")) (with_file (codes "a") file) (status.Wrong cause),
    (verify_8 file).input,
    gives,
    said (codes "verify" ∷ verify_values (codes "7")) (verify_request (codes "7")) (with_file (codes "a") file)
        (status.Wrong cause) refl
        (goes_on (codes "a") file not_a judges_at_7 (says (status.Wrong cause))
        (inr (
          file,
          whole_layout,
          subst (λ (table : List Record). ComesTo file (parsed_offsets (ids_of table) (table_of file)) cause)
              (sym two_reads) comes,
        ))),
  )

short_is_wrong : WrongsIsMet short_file (wrong.Offsets (offsets.MissingId 1))
short_is_wrong = wrongs_is_met short_file (lit≤ tt) (wrong.Offsets (offsets.MissingId 1))
    (inl (record {
      bytes = short_file;
      fault = offsets.MissingId 1;
      told = refl;
      whole = whole_layout short_file (lit≤ tt);
      refused = without_y;
    }))
    (subst (λ (given : Result (List ℕ) OffsetsFault).
    ComesTo short_file given (wrong.Offsets (offsets.MissingId 1))) (sym without_y) (tt, refl))

high_is_wrong : WrongsIsMet high_file (wrong.Layout (layout.Above 1))
high_is_wrong = wrongs_is_met high_file (lit≤ tt) (wrong.Layout (layout.Above 1))
    (inr (record {
      bytes = high_file;
      offsets = 0 ∷ 4 ∷ [];
      fault = layout.Above 1;
      told = refl;
      whole = whole_layout high_file (lit≤ tt);
      parsed = high_offsets;
      refused = above_7;
    }))
    (subst (λ (given : Result (List ℕ) OffsetsFault).
    ComesTo high_file given (wrong.Layout (layout.Above 1))) (sym high_offsets)
    (subst (λ (fault : Option LayoutFault). Comes (beside high_file) (beside high_file)
    (layout_or_fault fault (Concludes (TellsRight two 7 (0 ∷ 4 ∷ []))))
    (says (status.Wrong (wrong.Layout (layout.Above 1)))))
    (sym above_7) (tt, refl)))

wrong_for_its_cause : IsWrongFor (wrong.Layout (layout.Above 1)) (status.Wrong (wrong.Layout (layout.Above 1)))
wrong_for_its_cause = refl

wrong_for_no_other : IsWrongFor (wrong.Layout (layout.Above 1)) (status.Wrong (wrong.Offsets (offsets.MissingId 1))) →
    ⊥
wrong_for_no_other e = absurd cc

not_right_for_it : (cause : WrongCause) → IsWrongFor cause status.Right → ⊥
not_right_for_it cause h = h
