-- A write that fails, a log's file that is refused, and texts that are told: of a layout, and of a trial.
use Rattle.std.proofs.Common.{◌≡◌, ℕ, List, [], ◌∷◌, ◌++◌, None, Some, Result, Ok, Err, cond, codes, refl, sym, ap, subst, inl, inr, lit<, lit≤, arith}
use Rattle.std.specs.Fmt.{digits}
use Rattle.std.specs.FinMap.{insert}
use Rattle.std.specs.Str.{bytes_eq}
use Rattle.dsa_terms.specs.Buffers.{Instance}
use Rattle.dsa_terms.specs.Claims.{IsIn}
use Rattle.dsa_outside.specs.Seen.{FilesSeen}
use Rattle.dsa_outside.proofs.FileMaps.{remove-insert}
use Rattle.dsa_outside.proofs.Lookups.{file_at-with_file}
use Rattle.csv_instance.specs.Parse.{parse}
use Rattle.csv_instance.specs.Records.{table_of}
use Rattle.csv_instance.specs.declared.fault.InstanceFault.{InstanceFault}
use Rattle.csv_instance.proofs.FileFacts.{high_file, high_offsets, two, two_file, two_rows}
use Rattle.layout_report.specs.Facts.{bounds_text}
use Rattle.layout_report.specs.Report.{IsReportOf}
use Rattle.make_instance.proofs.TextLemmas.{table-read}
use Rattle.planner.proofs.ExampleFacts.{facts_of_none, no_facts}
use Rattle.deciding.proofs.LeastFacts.{found_0}
use Rattle.log_text.specs.declared.fault.TextFault.TheVariants as text
use Rattle.command_words.specs.Forms.{writes_of}
use Rattle.command_words.specs.Options.{Word}
use Rattle.command_words.specs.Pairs.{pairs_of}
use Rattle.command_words.specs.Requests.{Request, request_of}
use Rattle.command_words.specs.declared.fault.UsageFault.{UsageFault}
use Rattle.command_words.specs.declared.role.Role.TheVariants as role
use Rattle.command_words.specs.declared.verb.Verb.{Verb}
use Rattle.command_words.specs.declared.verb.Verb.TheVariants as verb
use Rattle.readings.specs.Input.{instance_or_fault}
use Rattle.readings.proofs.LogFacts.{no_header}
use Rattle.run_status.specs.declared.status.LogCause.{LogCause}
use Rattle.run_status.specs.declared.status.LogCause.TheVariants as cause
use Rattle.run_status.specs.declared.status.Status.TheVariants as status
use Rattle.run_course.specs.Course.{Comes, Concludes, Outcome, writes}
use Rattle.writings.specs.Answers.{answer_files}
use Rattle.writings.specs.Writings.{layout_file}
use Rattle.explaining.proofs.ExampleFacts.{laid_at_8}
use Rattle.dsaplan_core.specs.Causes.{IsCaused, IsChecking, RefusesLog}
use Rattle.dsaplan_core.specs.Courses.{ConcludesWith, names_in}
use Rattle.dsaplan_core.specs.Lost.{LosesFile}
use Rattle.dsaplan_core.specs.Shown.{Tells, TellsLayout, TellsTrial}
use Rattle.dsaplan_core.specs.Theorem.{Asked}
use Rattle.dsaplan_core.proofs.WorldFacts.{bounds_values, in_parse, input_alone, pack_within, reads_input, told, trial_values}
use Rattle.dsaplan_core.proofs.JudgedFacts.{beside, reads_layout, verify_8}
use Rattle.dsaplan_core.proofs.OutcomeFacts.{laid_within_all}
use Rattle.dsaplan_core.proofs.PremiseFacts.{not_l, reads_two, refute_values, with_file}

-- ---- the write of a layout fails: its file holds one byte, and its number rose
abbrev packing : List Word
packing = codes "pack" ∷ pack_within (codes "8")

abbrev pack_request : Request
pack_request = record { verb = verb.Pack; pairs = pairs_of (pack_within (codes "8")) }

abbrev broken : FilesSeen
broken = record {
  held = Some (insert input_alone (codes "o") (codes "x"));
  faults = λ name. cond (bytes_eq name (codes "o")) 1 0;
}

abbrev laid : Outcome
laid = writes (answer_files (names_in pack_request.pairs) (table_of two_file) (Some (0 ∷ 4 ∷ [])) None)
    (status.Feasible 8)

output_is_lost : LosesFile packing (told input_alone) broken role.Output
output_is_lost = record {
  request = pack_request;
  outcome = laid;
  made = [];
  lost = layout_file (codes "o") (table_of two_file) (0 ∷ 4 ∷ []);
  rest = [];
  asked = refl;
  comes = inr (
    two_file,
    record { held = λ there. reads_input; short = lit≤ tt },
    subst (λ (p : Result Instance InstanceFault). Comes (told input_alone) broken
        (instance_or_fault p (λ I. Concludes (ConcludesWith verb.Pack pack_request.pairs (table_of two_file) I))) laid)
        (sym in_parse) (
          tt,
          record {
            status = status.Feasible 8;
            layout = Some (0 ∷ 4 ∷ []);
            log = None;
            answer = (refl, laid_at_8);
            readable = tt;
            written = refl;
          },
        ),
  );
  order = refl;
  its_role = refl;
  own = (inl refl, refl);
  rose = inl (lit< tt);
  others = ap Some (remove-insert input_alone (codes "o") (codes "x"));
}

-- what a command only reads is never lost
input_is_not_lost : (old new : FilesSeen) → LosesFile packing old new role.Input → ⊥
input_is_not_lost old new h =
    go h.request h.asked (subst (λ r. IsIn r (writes_of h.request.verb)) h.its_role h.own.0)
  where
    among : IsIn role.Input (role.Output ∷ role.Log ∷ []) → ⊥
    among (inl e) = cc
    among (inr (inl e)) = cc
    among (inr (inr i)) = i

    go : (r : Request) → request_of packing ≡ Ok r → IsIn role.Input (writes_of r.verb) → ⊥
    go r asked i = let is : pack_request ≡ r = cc in among (rw (← is) at i)

-- ---- a log's file of no bytes is refused, for its first fault
abbrev empty_log : FilesSeen
empty_log = told (with_file (codes "l") [])

abbrev refuting : List Word
refuting = codes "refute" ∷ refute_values

abbrev refute_asked : Asked refuting empty_log
refute_asked = record {
  verb = verb.Refute;
  pairs = pairs_of refute_values;
  table = table_of two_file;
  instance = two;
  words_ask = refl;
  input = record {
    bytes = two_file;
    whole = record { held = λ there. reads_two (codes "l") [] not_l; short = lit≤ tt };
    records = refl;
    parsed = in_parse;
  };
}

no_log_is_refused : RefusesLog refuting empty_log empty_log (cause.Text text.NotLog)
no_log_is_refused = record {
  asked = refute_asked;
  checked = inr (inl refl);
  refused = inl (record {
    bytes = [];
    fault = text.NotLog;
    told = refl;
    whole = record { held = λ there. file_at-with_file (Some input_alone) (codes "l") [] refl; short = lit≤ tt };
    refused = no_header;
  });
  files = refl;
}

why_it_is : IsCaused refuting empty_log empty_log (status.LogRefused (cause.Text text.NotLog))
why_it_is = no_log_is_refused

-- a command that reads no log refuses none
bounds_refuses_none : (old new : FilesSeen) (c : LogCause) →
    RefusesLog (codes "bounds" ∷ bounds_values) old new c → ⊥
bounds_refuses_none old new c h =
    go (record { verb = h.asked.verb; pairs = h.asked.pairs }) h.asked.words_ask h.checked
  where
    among : IsIn role.Log (role.Input ∷ []) → ⊥
    among (inl e) = cc
    among (inr i) = i

    go : (r : Request) → request_of (codes "bounds" ∷ bounds_values) ≡ Ok r → IsChecking r.verb → ⊥
    go r asked i =
        let is : ◌≡◌ {A = Request} (record { verb = verb.Bounds; pairs = pairs_of bounds_values }) r = cc in
        among (rw (← is) at i)

-- ---- a report of the layout that the layout file gives
abbrev report_values : List Word
report_values = codes "--input" ∷ codes "i" ∷ codes "--layout" ∷ codes "a" ∷ []

abbrev report_asked : Asked (codes "report" ∷ report_values) (beside high_file)
report_asked = record {
  verb = verb.Report;
  pairs = pairs_of report_values;
  table = two_rows;
  instance = two;
  words_ask = refl;
  input = (verify_8 high_file).input;
}

layout_is_told : (text : List ℕ) → IsReportOf two_rows two (0 ∷ 4 ∷ []) text → TellsLayout report_asked text
layout_is_told text is = record {
  command = refl;
  offsets = 0 ∷ 4 ∷ [];
  given = record {
    bytes = high_file;
    whole = record { held = λ there. reads_layout high_file; short = lit≤ tt };
    parsed = high_offsets;
    layout = laid_within_all;
  };
  its_text = is;
}

it_is_shown : (text : List ℕ) → IsReportOf two_rows two (0 ∷ 4 ∷ []) text →
    Tells (codes "report" ∷ report_values) (beside high_file) (beside high_file) status.Shown text
it_is_shown text is = (refl, inr (inl (report_asked, layout_is_told text is)))

-- `verify` tells of no layout, though it judges one
verify_tells_none : (text : List ℕ) → TellsLayout (verify_8 high_file) text → ⊥
verify_tells_none text h = let e = h.command in absurd cc

-- ---- a trial without buffers
abbrev trying : List Word
trying = codes "trial" ∷ trial_values (codes "0")

trial_is_told : TellsTrial trying (codes "buffers 0\npeak none\nparts 0\nbound 0 1\nbest 0\nleast 0\n")
unfolding digits
trial_is_told = record {
  pairs = pairs_of (trial_values (codes "0"));
  instance = [];
  facts = no_facts;
  verdict = status.Least 0;
  asked = refl;
  few = lit≤ tt;
  made = ap parse (table-read 7 0 (lit≤ tt));
  true_facts = facts_of_none;
  true_verdict = (Some [], None, found_0 5);
  its_text = its_text;
}
  where
    its_text : codes "buffers 0\npeak none\nparts 0\nbound 0 1\nbest 0\nleast 0\n"
        ≡ bounds_text no_facts ++ codes "least 0\n"
    its_text = refl

-- other words try nothing
bounds_tries_nothing : (text : List ℕ) → TellsTrial (codes "bounds" ∷ bounds_values) text → ⊥
bounds_tries_nothing text h = apart (ap of_request h.asked)
  where
    apart : ◌≡◌ {A = ℕ} 0 1 → ⊥
    apart e = omega arith

    of_verb : Verb → ℕ
    of_verb verb.Trial = 1
    of_verb v = 0

    of_request : Result Request UsageFault → ℕ
    of_request (Ok r) = of_verb r.verb
    of_request (Err fault) = 0
