-- What statuses promise of files, on an input of two buffers that are both live at 4.
use Rattle.std.proofs.Common.{◌≡◌, ◌≤◌, ◌∙◌, ◌++◌, ℕ, List, [], ◌∷◌, length, None, Some, Ok, codes, Result, refl, sym, ap, subst, inl, inr, lit<, lit≤, arith}
use Rattle.std.specs.FinMap.{empty, insert}
use Rattle.dsa_terms.specs.Buffers.{Instance}
use Rattle.dsa_terms.specs.Claims.{IsIn}
use Rattle.column_report.specs.Report.{inspect_text}
use Rattle.column_report.proofs.ExampleFacts.{two_told}
use Rattle.dsa_terms.specs.Logs.{Log, Over}
use Rattle.dsa_terms.proofs.Examples.{evens, sample}
use Rattle.log_text.specs.Text.{log_text}
use Rattle.command_words.specs.Options.{Word}
use Rattle.command_words.specs.Pairs.{Pair, name_in, number_at, pairs_of}
use Rattle.command_words.specs.Requests.{Request}
use Rattle.command_words.specs.declared.option.OptionName.TheVariants as option
use Rattle.command_words.specs.declared.verb.Verb.TheVariants as verb
use Rattle.command_words.specs.declared.fault.UsageFault.TheVariants as usage
use Rattle.command_words.specs.declared.role.Role.{Role}
use Rattle.command_words.specs.declared.role.Role.TheVariants as role
use Rattle.readings.proofs.SampleFacts.{sample_is_accepted, sample_reads_back}
use Rattle.csv_instance.specs.Layout.{layout_text}
use Rattle.csv_instance.specs.Parse.{parse}
use Rattle.csv_instance.specs.Records.{table_of}
use Rattle.csv_instance.specs.declared.fault.InstanceFault.{InstanceFault}
use Rattle.csv_instance.specs.declared.fault.InstanceFault.TheVariants as instance
use Rattle.csv_instance.proofs.FileFacts.{no_bytes, two, two_file, two_rows}
use Rattle.dsa_outside.specs.Held.{file_at}
use Rattle.dsa_outside.specs.Seen.{FilesSeen, SinkSeen}
use Rattle.dsa_outside.proofs.Lookups.{file_at-with_file}
use Rattle.run_course.specs.Complete.{ConcludesOn, IsReadable}
use Rattle.run_course.specs.Course.{Concludes, Outcome, shows}
use Rattle.readings.specs.Input.{instance_or_fault}
use Rattle.packer.specs.Packs.{IsTrimmed}
use Rattle.fact_reports.specs.Reporting.{ShowsReport}
use Rattle.run_status.specs.declared.status.Status.TheVariants as status
use Rattle.explaining.proofs.ExampleFacts.{fits_at_8, laid_at_8, none_at_7}
use Rattle.dsaplan_core.specs.Causes.{AreNoCommand, AskTooMany, RefusesInput}
use Rattle.dsaplan_core.specs.Choice.{Choice}
use Rattle.dsaplan_core.specs.Courses.{ConcludesWith, IsAnswer}
use Rattle.dsaplan_core.specs.Derived.{Derived}
use Rattle.dsaplan_core.specs.Complete.{HoldsLog, HoldsNoInstance, IsConcluded, IsMalformedFor, IsReady, IsTooLongFor, IsUndisturbed}
use Rattle.dsaplan_core.specs.Lost.{LosesFile, MissesFile}
use Rattle.dsaplan_core.specs.Shown.{Tells}
use Rattle.dsaplan_core.specs.Theorem.{Asked, Headline, HoldsLayout, HoldsRefutation}
use Rattle.dsaplan_core.proofs.WorldFacts.{asking, bounds_values, core_values, in_parse, input_alone, pack_within, reads_input, reads_no_output, reads_none, told, trial_values}

-- ---- a layout
abbrev pub solve_8 : Asked (codes "solve" ∷ core_values (codes "8")) (told input_alone)
solve_8 = asking (codes "solve" ∷ core_values (codes "8")) verb.Solve (pairs_of (core_values (codes "8"))) refl refl

abbrev laid_files : FilesSeen
laid_files = told (insert input_alone (codes "o") (layout_text two_rows (0 ∷ 4 ∷ [])))

output_is_laid : HoldsLayout solve_8 laid_files 8
output_is_laid = record {
  offsets = 0 ∷ 4 ∷ [];
  layout = laid_at_8;
  held = λ there. file_at-with_file (Some input_alone) (codes "o") (layout_text two_rows (0 ∷ 4 ∷ [])) refl;
}

-- the output has to be there
not_laid_without_output : HoldsLayout solve_8 (told input_alone) 8 → ⊥
not_laid_without_output h = let e = sym reads_no_output ∙ h.held refl in absurd cc

-- no layout is within 7 bytes
not_laid_at_7 : (new : FilesSeen) → HoldsLayout solve_8 new 7 → ⊥
not_laid_at_7 new h = none_at_7 h.offsets h.layout

feasible_at_8 : Headline (codes "solve" ∷ core_values (codes "8")) (told input_alone) laid_files (status.Feasible 8)
feasible_at_8 = (solve_8, refl, output_is_laid)

-- which is what `pack` promises of a capacity that is given, whatever the layout
abbrev pub pack_8 : Asked (codes "pack" ∷ pack_within (codes "8")) (told input_alone)
pack_8 = asking (codes "pack" ∷ pack_within (codes "8")) verb.Pack (pairs_of (pack_within (codes "8"))) refl refl

packed_is_laid : HoldsLayout pack_8 laid_files 8
packed_is_laid = record {
  offsets = 0 ∷ 4 ∷ [];
  layout = laid_at_8;
  held = λ there. file_at-with_file (Some input_alone) (codes "o") (layout_text two_rows (0 ∷ 4 ∷ [])) refl;
}

packed_at_8 : Headline (codes "pack" ∷ pack_within (codes "8")) (told input_alone) laid_files (status.Feasible 8)
packed_at_8 = (pack_8, refl, packed_is_laid)

any_layout_at_8 : Choice (codes "pack" ∷ pack_within (codes "8")) (told input_alone) laid_files (status.Feasible 8)
any_layout_at_8 = (pack_8, Some (0 ∷ 4 ∷ []), None, (refl, laid_at_8), refl)

-- `draw` decides nothing
draw_answers_nothing : (pairs : List Pair) → IsAnswer verb.Draw pairs two (status.Feasible 8) None None → ⊥
draw_answers_nothing pairs h = h

-- ---- where all buffers fit there is no core, and nothing is written
abbrev core_8 : Asked (codes "core" ∷ core_values (codes "8")) (told input_alone)
core_8 = asking (codes "core" ∷ core_values (codes "8")) verb.Core (pairs_of (core_values (codes "8"))) refl refl

no_core_at_8 : Derived (codes "core" ∷ core_values (codes "8")) (told input_alone) (told input_alone) (status.NoCore 8)
no_core_at_8 = (core_8, refl, refl, fits_at_8.0, refl)

-- a command that judges a layout concludes with nothing of its instance alone
verify_reads_more : (pairs : List Pair) (o : Outcome) → ConcludesWith verb.Verify pairs two_rows two o → ⊥
verify_reads_more pairs o h = h.report

-- ---- a log of one line has none that is needless, and nine steps are enough for it
abbrev pub seven_log : Log
seven_log = record { count = 2; capacity = 7; lines = Over ((0, 0) ∷ (1, 0) ∷ []) 4 0 1 ∷ []; final = 0 }

log_is_trimmed : IsTrimmed seven_log
log_is_trimmed = record { last = refl; cited = λ k lt. absurd (omega arith) }

nine_are_enough : length seven_log.lines ≤ number_at (pairs_of (pack_within (codes "7"))) option.Steps
nine_are_enough = lit≤ tt

-- ---- where a layout fits, no log's file refutes
not_refuted_at_8 : (new : FilesSeen) → HoldsRefutation solve_8 new 8 → ⊥
not_refuted_at_8 new h = h.infeasible (0 ∷ 4 ∷ []) laid_at_8

-- where nothing failed, no write is lost
not_lost : (words : List Word) (r : Role) → LosesFile words (told input_alone) laid_files r → ⊥
not_lost words r h = let rose = h.rose in omega (arith, rose)

-- ---- a report
abbrev inspected : Asked (codes "inspect" ∷ bounds_values) (told input_alone)
inspected = asking (codes "inspect" ∷ bounds_values) verb.Inspect (pairs_of bounds_values) refl refl

-- the columns of the input are told
tells_columns : Tells (codes "inspect" ∷ bounds_values) (told input_alone) (told input_alone) status.Shown
    (codes "buffers 2 of 4096 aligned 0 gaps 0 lowest 0\ncolumn,meaning\nid,id\nlower,lower\nupper,upper\n"
    ++ codes "size,size\nalignment,alignment\n")
tells_columns = (refl, inl (inspected, sym two_told))

-- the line of 'right' is told, and no other text
tells_right : (words : List Word) (old new : FilesSeen) → Tells words old new status.Right (codes "right\n")
tells_right words old new = refl

tells_no_other : (words : List Word) (old new : FilesSeen) → Tells words old new status.Right (codes "right") → ⊥
tells_no_other words old new is = cc

-- ---- files that are missed, and inputs that are refused
missed_input : MissesFile (codes "bounds" ∷ bounds_values) (told empty) (told empty) role.Input
missed_input = record {
  request = record { verb = verb.Bounds; pairs = pairs_of bounds_values };
  asked = refl;
  read = inl refl;
  cause = inr (reads_none (codes "i"));
  files = refl;
}

not_among : IsIn role.Output (role.Input ∷ []) → ⊥
not_among (inl e) = cc
not_among (inr i) = i

-- an output is not read
not_missed_output : (old new : FilesSeen) (h : MissesFile (codes "bounds" ∷ bounds_values) old new role.Output) →
    h.request.verb ≡ verb.Bounds → ⊥
not_missed_output old new h is = not_among (rw is at h.read)

abbrev pub empty_input : FilesSeen
empty_input = told (insert empty (codes "i") [])

refused_input : RefusesInput (codes "bounds" ∷ bounds_values) empty_input empty_input instance.NoHeader
refused_input = record {
  request = record { verb = verb.Bounds; pairs = pairs_of bounds_values };
  words_ask = refl;
  read = inl refl;
  malformed = record {
    bytes = [];
    whole = record { held = λ there. file_at-with_file (Some empty) (codes "i") [] refl; short = lit≤ tt };
    refused = no_bytes;
  };
  files = refl;
}

pub no_instance : HoldsNoInstance instance.NoHeader empty_input (codes "i")
no_instance = record {
  file = record { bytes = []; held = file_at-with_file (Some empty) (codes "i") [] refl; short = lit≤ tt };
  refused = no_bytes;
}

the_two_are_one : (fault : InstanceFault) → HoldsNoInstance fault (told input_alone) (codes "i") → ⊥
the_two_are_one fault h =
    let held : file_at (Some input_alone) (codes "i") ≡ Some h.file.bytes = h.file.held in
    let same : two_file ≡ h.file.bytes = (let a = reads_input in cc) in
    let good : parse (table_of h.file.bytes) ≡ Ok two =
    subst (λ (bytes : List ℕ). parse (table_of bytes) ≡ Ok two) same in_parse in
    let bad = h.refused in
    absurd cc

malformed_for_its_fault : IsMalformedFor instance.NoHeader (status.Malformed instance.NoHeader)
malformed_for_its_fault = refl

malformed_for_no_other : IsMalformedFor instance.NoHeader (status.Malformed instance.MarkedHeader) → ⊥
malformed_for_no_other e = absurd cc

too_long_for_its_role : IsTooLongFor role.Layout (status.TooLong role.Layout)
too_long_for_its_role = refl

too_long_for_no_other : IsTooLongFor role.Layout (status.TooLong role.Input) → ⊥
too_long_for_no_other e = absurd cc

refused_count : (files : FilesSeen) → AskTooMany (codes "trial" ∷ trial_values (codes "4097")) files files 4097
refused_count files = record {
  pairs = pairs_of (trial_values (codes "4097"));
  words_ask = refl;
  its_count = refl;
  many = lit< tt;
  files = refl;
}

not_refused_at_4096 : (words : List Word) (old new : FilesSeen) → AskTooMany words old new 4096 → ⊥
not_refused_at_4096 words old new h = let lt = h.many in omega (arith, lt)

no_command : (files : FilesSeen) → AreNoCommand [] files files usage.NoCommand
no_command files = record { refused = refl; files = refl }

no_other_fault : (old new : FilesSeen) → AreNoCommand [] old new usage.SameName → ⊥
no_other_fault old new h = let e = h.refused in absurd cc

-- ---- files that are ready, and nothing that disturbs
abbrev pub bounds_request : Request
bounds_request = record { verb = verb.Bounds; pairs = pairs_of bounds_values }

abbrev input_is_readable : IsReadable (told input_alone) role.Input (codes "i")
input_is_readable = record { bytes = two_file; held = reads_input; short = lit≤ tt }

ready : IsReady (told input_alone) bounds_request two
ready = record { files = files; input = λ among. record { file = input_is_readable; parsed = in_parse } }
  where
    files : (r : Role) → IsIn r (role.Input ∷ []) →
        IsReadable (told input_alone) r (name_in (pairs_of bounds_values) r)
    files r (inl is) = subst (λ (r : Role).
        IsReadable (told input_alone) r (name_in (pairs_of bounds_values) r)) (sym is) input_is_readable
    files r (inr i) = absurd i

abbrev pub quiet : SinkSeen
quiet = record { content = Some []; faults = 0 }

undisturbed : IsUndisturbed bounds_request (told input_alone) (told input_alone) quiet quiet
undisturbed = record { files = λ name among rose. omega (arith, rose); sink = λ rose. omega (arith, rose) }

-- ---- a log's file that says the sample log
holds_sample : HoldsLog evens sample (told (insert empty (codes "l") (log_text sample))) (codes "l")
holds_sample = record {
  bytes = log_text sample;
  held = file_at-with_file (Some empty) (codes "l") (log_text sample) refl;
  says = inl sample_reads_back;
  accepted = sample_is_accepted;
}

-- ---- what concludes a command
abbrev inspect_request : Request
inspect_request = record { verb = verb.Inspect; pairs = pairs_of bounds_values }

abbrev columns_shown : Outcome
columns_shown = shows (inspect_text (table_of two_file) two)

its_report : ShowsReport verb.Inspect (table_of two_file) two columns_shown
its_report = record { text = inspect_text (table_of two_file) two; report = refl; shown = refl }

concluded_by_a_report : IsConcluded (told input_alone) inspect_request status.Shown
concluded_by_a_report = λ file.
    let there : file_at (Some input_alone) (codes "i") ≡ Some file.bytes = file.held in
    let same : two_file ≡ file.bytes = (let a = reads_input in cc) in
    subst (λ (bytes : List ℕ). ConcludesOn (told input_alone)
    (instance_or_fault (parse (table_of bytes))
    (λ I. Concludes (ShowsReport verb.Inspect (table_of bytes) I))) status.Shown) same
    (subst (λ (p : Result Instance InstanceFault).
    ConcludesOn (told input_alone)
    (instance_or_fault p (λ I. Concludes (ShowsReport verb.Inspect (table_of two_file) I)))
    status.Shown) (sym in_parse) (columns_shown, tt, its_report, refl))

abbrev trial_request : Request
trial_request = record { verb = verb.Trial; pairs = pairs_of (trial_values (codes "4096")) }

not_concluded_by_a_read : (files : FilesSeen) → IsConcluded files trial_request (status.ReadFault role.Input) → ⊥
not_concluded_by_a_read files h =
    let e : h.0.status ≡ status.Shown = ap (λ (o : Outcome). o.status) h.2.shown in
    let is = h.3 in
    cc
