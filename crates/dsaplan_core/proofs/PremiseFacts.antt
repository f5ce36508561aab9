-- What the laws of what is accepted, malformed or too long ask is met, all of it at once: on an input of two buffers
-- that are both live at 4, with a layout at 8 or with a log by which 7 bytes are too few, on an input of no bytes, and
-- on files that are too long.
use Rattle.std.proofs.Common.{◌≡◌, ◌≢◌, ◌<◌, ◌≤◌, ◌∙◌, ℕ, suc, List, [], ◌∷◌, length, replicate, Option, None, Some, Result, Ok, codes, refl, sym, ap, subst, inl, inr, lit<, lit≤, arith}
use Rattle.std.specs.FinMap.{empty, insert}
use Rattle.std.proofs.lemmas.List.{length-replicate}
use Rattle.dsa_terms.specs.Buffers.{Instance}
use Rattle.dsa_terms.specs.Claims.{IsIn}
use Rattle.dsa_model.proofs.LayoutFaults.{layout_exactly}
use Rattle.dsa_model.specs.declared.layout.LayoutFault.{LayoutFault}
use Rattle.csv_instance.specs.Offsets.{ids_of, parsed_offsets}
use Rattle.csv_instance.specs.Records.{Record, table_of}
use Rattle.csv_instance.specs.declared.fault.InstanceFault.{InstanceFault}
use Rattle.csv_instance.specs.declared.fault.InstanceFault.TheVariants as instance
use Rattle.csv_instance.specs.declared.fault.OffsetsFault.{OffsetsFault}
use Rattle.csv_instance.proofs.FileFacts.{high_file, high_offsets, no_bytes, two, two_file, two_reads}
use Rattle.dsa_outside.specs.Held.{FileMap, file_at}
use Rattle.dsa_outside.specs.Seen.{FilesSeen, SinkSeen}
use Rattle.dsa_outside.proofs.Lookups.{file_at-with_file, file_at-with_other}
use Rattle.command_words.specs.Options.{Word}
use Rattle.command_words.specs.Forms.{ReadsInstance, reads_of}
use Rattle.command_words.specs.Pairs.{Pair, name_in, pairs_of}
use Rattle.command_words.specs.Requests.{Request, request_of}
use Rattle.command_words.specs.declared.verb.Verb.TheVariants as verb
use Rattle.command_words.specs.declared.fault.UsageFault.{UsageFault}
use Rattle.command_words.specs.declared.role.Role.TheVariants as role
use Rattle.command_words.specs.Roles.{limit_of}
use Rattle.command_words.specs.declared.role.Role.{Role}
use Rattle.run_status.specs.Lines.{line}
use Rattle.run_status.specs.declared.status.Status.{Status}
use Rattle.run_status.specs.declared.status.Status.TheVariants as status
use Rattle.run_course.specs.Answers.{Answers, IsSaid}
use Rattle.run_course.specs.Complete.{IsReadable}
use Rattle.run_course.specs.Course.{Comes, Concludes, Course, Outcome, says}
use Rattle.run_course.specs.Readings.{HoldsMore}
use Rattle.readings.specs.Input.{instance_or_fault, opened}
use Rattle.readings.specs.Judging.{judged, layout_or_fault, offsets_or_fault}
use Rattle.readings.specs.Checking.{checked, is_accepted}
use Rattle.judging.specs.Judging.{TellsRight}
use Rattle.explaining.proofs.ExampleFacts.{laid_at_8}
use Rattle.dsaplan_core.specs.Causes.{IsChecking, IsJudgedAt}
use Rattle.dsaplan_core.specs.Complete.{HoldsGivenLayout, HoldsInstance, HoldsLog, HoldsNoInstance, IsReady, IsUndisturbed}
use Rattle.dsaplan_core.specs.Courses.{ConcludesWith, course, course_or_fault, course_with}
use Rattle.dsaplan_core.proofs.WorldFacts.{bounds_values, first_differs, in_parse, input_alone, reads_input, told, verify_values}
use Rattle.dsaplan_core.proofs.HeldFacts.{bounds_request, empty_input, no_instance, quiet, seven_log}
use Rattle.dsaplan_core.proofs.RefutedFacts.{refuted_at_7, seven_file, seven_reads}
use Rattle.dsaplan_core.proofs.JudgedFacts.{beside, given_at_8, reads_layout, verify_request}

-- ---- nothing disturbs, and a status is told
-- the sink, once the line of a status is printed
abbrev pub sink_after : Status → SinkSeen
sink_after s = record { content = Some (line s); faults = 0 }

pub undisturbed : (r : Request) (files : FileMap) (s : Status) →
    IsUndisturbed r (told files) (told files) quiet (sink_after s)
undisturbed r files s = record { files = λ name among rose. omega (arith, rose); sink = λ rose. omega (arith, rose) }

-- where a command's course comes to a status that is told by its line, that is what words for it answer
pub said : (words : List Word) (r : Request) (files : FileMap) (s : Status) → request_of words ≡ Ok r →
    Comes (told files) (told files) (course_with r.verb r.pairs) (says s) →
    IsSaid (course words) (told files) (told files) quiet (sink_after s) s
said words r files s asked comes = record {
  text = line s;
  tells = record {
    outcome = says s;
    lost = None;
    comes = subst (λ (q : Result Request UsageFault). Comes (told files) (told files) (course_or_fault q) (says s))
        (sym asked) comes;
    files = refl;
    its_status = refl;
    its_text = refl;
  };
  printed = refl;
}

-- ---- the input beside a file of another name
abbrev pub with_file : Word → List ℕ → FileMap
with_file name bytes = insert input_alone name bytes

module _ (name bytes : List ℕ) (other : codes "i" ≢ name) where
  pub reads_two : file_at (Some (with_file name bytes)) (codes "i") ≡ Some two_file
  reads_two = file_at-with_other (Some input_alone) name bytes (codes "i") other ∙ reads_input

  two_there : HoldsInstance two (told (with_file name bytes)) (codes "i")
  two_there = record { file = record { bytes = two_file; held = reads_two; short = lit≤ tt }; parsed = in_parse }

  -- where two files are readable, each of them is
  both : (pairs : List Pair) (second : Role) → name_in pairs role.Input ≡ codes "i" →
      IsReadable (told (with_file name bytes)) second (name_in pairs second) → (r : Role) →
      IsIn r (role.Input ∷ second ∷ []) → IsReadable (told (with_file name bytes)) r (name_in pairs r)
  both pairs second named there r (inl is) =
      subst (λ (r : Role). IsReadable (told (with_file name bytes)) r (name_in pairs r)) (sym is)
      (subst (IsReadable (told (with_file name bytes)) role.Input) (sym named) two_there.file)
  both pairs second named there r (inr (inl is)) =
      subst (λ (r : Role). IsReadable (told (with_file name bytes)) r (name_in pairs r)) (sym is) there
  both pairs second named there r (inr (inr i)) = absurd i

  -- a course that reads the input goes on with the two
  pub goes_on : (next : List Record → Instance → Course) (o : Outcome) →
      Comes (told (with_file name bytes)) (told (with_file name bytes)) (next (table_of two_file) two) o →
      Comes (told (with_file name bytes)) (told (with_file name bytes)) (opened (codes "i") next) o
  goes_on next o comes = inr (
    two_file,
    record { held = λ there. reads_two; short = lit≤ tt },
    subst (λ (p : Result Instance InstanceFault). Comes (told (with_file name bytes)) (told (with_file name bytes))
        (instance_or_fault p (next (table_of two_file))) o) (sym in_parse) comes,
  )

-- ---- the law `judges`: the layout at 8
abbrev verify_8 : Request
verify_8 = verify_request (codes "8")

abbrev judges_at_8 : List Record → Instance → Course
judges_at_8 table I = judged (codes "a") table I 8 (λ offsets. Concludes (TellsRight I 8 offsets))

pub not_a : codes "i" ≢ codes "a"
not_a e = first_differs (codes "a") (codes "i") (lit< tt) (sym e)

pub layout_is_ready : (capacity file : List ℕ) → length file ≤ limit_of role.Layout →
    IsReady (beside file) (verify_request capacity) two
layout_is_ready capacity file short = record {
  files = both (codes "a") file not_a (verify_request capacity).pairs role.Layout refl
      (record { bytes = file; held = reads_layout file; short = short });
  input = λ reads. two_there (codes "a") file not_a;
}

its_offsets : parsed_offsets (ids_of (table_of two_file)) (table_of high_file) ≡ Ok (0 ∷ 4 ∷ [])
its_offsets = ap (λ (table : List Record). parsed_offsets (ids_of table) (table_of high_file)) two_reads ∙ high_offsets

is_right : Comes (beside high_file) (beside high_file) (judges_at_8 (table_of two_file) two) (says status.Right)
is_right = inr (
  high_file,
  record { held = λ there. reads_layout high_file; short = lit≤ tt },
  subst (λ (p : Result (List ℕ) OffsetsFault). Comes (beside high_file) (beside high_file)
      (offsets_or_fault p two 8 (λ offsets. Concludes (TellsRight two 8 offsets))) (says status.Right))
      (sym its_offsets)
      (subst (λ (f : Option LayoutFault). Comes (beside high_file) (beside high_file)
      (layout_or_fault f (Concludes (TellsRight two 8 (0 ∷ 4 ∷ [])))) (says status.Right))
      (sym ((layout_exactly two 8 (0 ∷ 4 ∷ [])).1 laid_at_8)) (tt, record { layout = laid_at_8; told = refl })),
)

judges_is_met : (request_of (codes "verify" ∷ verify_values (codes "8")) ≡ Ok verify_8)
    × IsJudgedAt verify_8.verb verify_8.pairs 8 × IsReady (beside high_file) verify_8 two
    × IsUndisturbed verify_8 (beside high_file) (beside high_file) quiet (sink_after status.Right)
    × HoldsGivenLayout (beside high_file) verify_8 two 8 (0 ∷ 4 ∷ [])
    × Answers (course (codes "verify" ∷ verify_values (codes "8"))) (beside high_file) (beside high_file) quiet
    (sink_after status.Right) status.Right
judges_is_met = (
  refl,
  refl,
  layout_is_ready (codes "8") high_file (lit≤ tt),
  undisturbed verify_8 (with_file (codes "a") high_file) status.Right,
  given_at_8,
  said (codes "verify" ∷ verify_values (codes "8")) verify_8 (with_file (codes "a") high_file) status.Right refl
      (goes_on (codes "a") high_file not_a judges_at_8 (says status.Right) is_right),
)

-- ---- the law `checks`: the log at 7
abbrev pub refute_values : List Word
refute_values = codes "--input" ∷ codes "i" ∷ codes "--log" ∷ codes "l" ∷ []

abbrev pub refute_7 : Request
refute_7 = record { verb = verb.Refute; pairs = pairs_of refute_values }

-- the log's file stands in the file l, beside the input
abbrev pub logged : List ℕ → FilesSeen
logged file = told (with_file (codes "l") file)

pub reads_file : (file : List ℕ) → file_at (logged file).held (codes "l") ≡ Some file
reads_file file = file_at-with_file (Some input_alone) (codes "l") file refl

abbrev pub with_log : FilesSeen
with_log = logged seven_file

pub reads_log : file_at with_log.held (codes "l") ≡ Some seven_file
reads_log = reads_file seven_file

pub not_l : codes "i" ≢ codes "l"
not_l = first_differs (codes "i") (codes "l") (lit< tt)

pub log_is_ready : (file : List ℕ) → length file ≤ limit_of role.Log → IsReady (logged file) refute_7 two
log_is_ready file short = record {
  files = both (codes "l") file not_l refute_7.pairs role.Log refl
      (record { bytes = file; held = reads_file file; short = short });
  input = λ reads. two_there (codes "l") file not_l;
}

holds_seven : HoldsLog two seven_log with_log (codes "l")
holds_seven = record {
  bytes = seven_file;
  held = reads_log;
  says = inl seven_reads;
  accepted = refuted_at_7.accepted;
}

abbrev pub checks_log : List Record → Instance → Course
checks_log table I = checked (codes "l") I (λ log o. o ≡ says (status.Accepted log.capacity))

accepted_at_7 : Comes with_log with_log (checks_log (table_of two_file) two) (says (status.Accepted 7))
accepted_at_7 = inr (
  seven_file,
  record { held = λ there. reads_log; short = lit≤ tt },
  (tt, is_accepted seven_log (inl seven_reads) refuted_at_7.accepted refuted_at_7.infeasible refl),
)

checks_is_met : (request_of (codes "refute" ∷ refute_values) ≡ Ok refute_7) × IsChecking refute_7.verb
    × IsReady with_log refute_7 two × IsUndisturbed refute_7 with_log with_log quiet (sink_after (status.Accepted 7))
    × HoldsLog two seven_log with_log (name_in refute_7.pairs role.Log)
    × Answers (course (codes "refute" ∷ refute_values)) with_log with_log quiet (sink_after (status.Accepted 7))
    (status.Accepted 7)
checks_is_met = (
  refl,
  inr (inl refl),
  log_is_ready seven_file (lit≤ tt),
  undisturbed refute_7 (with_file (codes "l") seven_file) (status.Accepted 7),
  holds_seven,
  said (codes "refute" ∷ refute_values) refute_7 (with_file (codes "l") seven_file) (status.Accepted 7) refl
      (goes_on (codes "l") seven_file not_l checks_log (says (status.Accepted 7)) accepted_at_7),
)

-- ---- the law `malformed`: an input of no bytes
abbrev no_header : Status
no_header = status.Malformed instance.NoHeader

is_malformed : Comes empty_input empty_input (course_with bounds_request.verb bounds_request.pairs) (says no_header)
is_malformed = inr (
  [],
  record { held = λ there. file_at-with_file (Some empty) (codes "i") [] refl; short = lit≤ tt },
  subst (λ (p : Result Instance InstanceFault). Comes empty_input empty_input
      (instance_or_fault p (λ I. Concludes (ConcludesWith verb.Bounds bounds_request.pairs (table_of []) I)))
      (says no_header)) (sym no_bytes) (tt, refl),
)

malformed_is_met : (request_of (codes "bounds" ∷ bounds_values) ≡ Ok bounds_request)
    × ReadsInstance bounds_request.verb
    × IsUndisturbed bounds_request empty_input empty_input quiet (sink_after no_header)
    × HoldsNoInstance instance.NoHeader empty_input (name_in bounds_request.pairs role.Input)
    × Answers (course (codes "bounds" ∷ bounds_values)) empty_input empty_input quiet (sink_after no_header) no_header
malformed_is_met = (
  refl,
  inl refl,
  undisturbed bounds_request (insert empty (codes "i") []) no_header,
  no_instance,
  said (codes "bounds" ∷ bounds_values) bounds_request (insert empty (codes "i") []) no_header refl is_malformed,
)

-- ---- the law `too_long`: the input, or the layout file, has more bytes than it may have; and there are such bytes
there_are_more : (most : ℕ) → (bytes : List ℕ) × (most < length bytes)
there_are_more most =
    (replicate (suc most) 0, (let e = length-replicate {A = ℕ} (suc most) 0 in omega (arith, e)))

module _ (bytes : List ℕ) where
  abbrev pub long_input : FileMap
  long_input = insert empty (codes "i") bytes

  first_is_met : limit_of role.Input < length bytes →
      (request_of (codes "bounds" ∷ bounds_values) ≡ Ok bounds_request)
      × (reads_of bounds_request.verb ≡ role.Input ∷ [])
      × IsUndisturbed bounds_request (told long_input) (told long_input) quiet (sink_after (status.TooLong role.Input))
      × HoldsMore (told long_input) role.Input (name_in bounds_request.pairs role.Input)
      × Answers (course (codes "bounds" ∷ bounds_values)) (told long_input) (told long_input) quiet
      (sink_after (status.TooLong role.Input)) (status.TooLong role.Input)
  first_is_met long =
      let more : HoldsMore (told long_input) role.Input (codes "i") =
      record { bytes = bytes; held = file_at-with_file (Some empty) (codes "i") bytes refl; long = long } in (
        refl,
        refl,
        undisturbed bounds_request long_input (status.TooLong role.Input),
        more,
        said (codes "bounds" ∷ bounds_values) bounds_request long_input (status.TooLong role.Input) refl
            (inl (inr (refl, λ there. more), refl)),
      )

  second_is_met : limit_of role.Layout < length bytes →
      (request_of (codes "verify" ∷ verify_values (codes "8")) ≡ Ok verify_8)
      × (reads_of verify_8.verb ≡ role.Input ∷ role.Layout ∷ [])
      × IsUndisturbed verify_8 (beside bytes) (beside bytes) quiet (sink_after (status.TooLong role.Layout))
      × HoldsInstance two (beside bytes) (name_in verify_8.pairs role.Input)
      × HoldsMore (beside bytes) role.Layout (name_in verify_8.pairs role.Layout)
      × Answers (course (codes "verify" ∷ verify_values (codes "8"))) (beside bytes) (beside bytes) quiet
      (sink_after (status.TooLong role.Layout)) (status.TooLong role.Layout)
  second_is_met long =
      let more : HoldsMore (beside bytes) role.Layout (codes "a") =
      record { bytes = bytes; held = reads_layout bytes; long = long } in (
        refl,
        refl,
        undisturbed verify_8 (with_file (codes "a") bytes) (status.TooLong role.Layout),
        two_there (codes "a") bytes not_a,
        more,
        said (codes "verify" ∷ verify_values (codes "8")) verify_8 (with_file (codes "a") bytes)
            (status.TooLong role.Layout) refl
            (goes_on (codes "a") bytes not_a judges_at_8 (says (status.TooLong role.Layout))
            (inl (inr (refl, λ there. more), refl))),
      )
