-- What promises and refusals say of small worlds: an input of two buffers that are both live at 4, beside a layout file
-- or a log's file, a trace without lines, and an input that is too long.
use Rattle.std.proofs.Common.{◌≡◌, ◌<◌, ◌^◌, ℕ, List, [], ◌∷◌, length, Some, Ok, codes, refl, inl, inr, lit≤}
use Rattle.std.specs.FinMap.{empty, insert}
use Rattle.dsa_terms.specs.Buffers.{buffer, is_live, some_before}
use Rattle.dsa_terms.specs.Layouts.{IsLayout}
use Rattle.dsa_model.specs.LayoutFaults.{layout_fault}
use Rattle.dsa_model.specs.LayoutFaults as faults
use Rattle.dsa_model.specs.Moments.{first_common}
use Rattle.dsa_model.specs.declared.layout.LayoutFault.TheVariants as layout
use Rattle.dsa_model.proofs.LayoutFaults.{layout_exactly}
use Rattle.dsa_outside.specs.Seen.{FilesSeen}
use Rattle.dsa_outside.proofs.Lookups.{file_at-with_file}
use Rattle.csv_instance.specs.Offsets.{ids_of}
use Rattle.csv_instance.specs.Records.{table_of}
use Rattle.csv_instance.proofs.FileFacts.{high_file, high_offsets, low_file, low_offsets, two, two_file, two_rows}
use Rattle.lifetime.specs.Runs.{was_live}
use Rattle.layout_picture.specs.Columns.{columns_of, turns_at}
use Rattle.layout_picture.specs.Rectangles.{rectangles, rectangles_of, run_end}
use Rattle.layout_picture.specs.Texts.{picture_text}
use Rattle.trace_import.specs.Faults.{holder, trace_of}
use Rattle.trace_import.specs.ImportText.{import_text}
use Rattle.trace_import.specs.Traces.{imported}
use Rattle.trace_import.proofs.Accepted.{accepted_parses, imported_count}
use Rattle.trace_import.proofs.Imported.{imported_traced}
use Rattle.command_words.specs.Options.{Word}
use Rattle.command_words.specs.Pairs.{pairs_of}
use Rattle.command_words.specs.Requests.{Request}
use Rattle.command_words.specs.Roles.{limit_of}
use Rattle.command_words.specs.declared.role.Role.TheVariants as role
use Rattle.command_words.specs.declared.verb.Verb.TheVariants as verb
use Rattle.run_status.specs.declared.status.Status.TheVariants as status
use Rattle.run_status.specs.declared.status.WrongCause.TheVariants as wrong
use Rattle.dsaplan_core.specs.Causes.{IsCaused, RefusesLayout}
use Rattle.dsaplan_core.specs.Derived.{AskedOf, HoldsImport}
use Rattle.dsaplan_core.specs.Judged.{GivesLog, HoldsPicture}
use Rattle.dsaplan_core.specs.Lost.{HasLongFile, IsOwnWrite}
use Rattle.dsaplan_core.specs.Shown.{Shows}
use Rattle.dsaplan_core.specs.Theorem.{Asked}
use Rattle.dsaplan_core.proofs.WorldFacts.{bounds_values, draw_values, import_values, in_parse, input_alone, told, verify_values}
use Rattle.dsaplan_core.proofs.HeldFacts.{bounds_request, quiet, seven_log}
use Rattle.dsaplan_core.proofs.JudgedFacts.{beside, reads_layout, verify_8}
use Rattle.dsaplan_core.proofs.PremiseFacts.{long_input, not_l, reads_log, reads_two, refute_values, with_log}
use Rattle.dsaplan_core.proofs.RefutedFacts.{refuted_at_7, seven_file, seven_reads}

-- ---- a layout file whose buffers overlap is refused
overlaps_at_8 : layout_fault two 8 (0 ∷ 2 ∷ []) ≡ Some (layout.Overlap 0 1 4)
unfolding buffer is_live some_before faults.first_unaligned faults.first_too_low faults.first_above faults.first_overlap
    faults.overlap_after faults.overlap first_common
overlaps_at_8 = refl

low_is_refused : RefusesLayout (codes "verify" ∷ verify_values (codes "8")) (beside low_file) (beside low_file)
    (wrong.Layout (layout.Overlap 0 1 4))
low_is_refused = record {
  asked = verify_8 low_file;
  capacity = 8;
  judged = refl;
  wrong = inr (record {
    bytes = low_file;
    offsets = 0 ∷ 2 ∷ [];
    fault = layout.Overlap 0 1 4;
    told = refl;
    whole = record { held = λ there. reads_layout low_file; short = lit≤ tt };
    parsed = low_offsets;
    refused = overlaps_at_8;
  });
  files = refl;
}

why_it_is : IsCaused (codes "verify" ∷ verify_values (codes "8")) (beside low_file) (beside low_file)
    (status.Wrong (wrong.Layout (layout.Overlap 0 1 4)))
why_it_is = low_is_refused

-- ---- a log's file that says an accepted log
abbrev pub refute_asked : Asked (codes "refute" ∷ refute_values) with_log
refute_asked = record {
  verb = verb.Refute;
  pairs = pairs_of refute_values;
  table = table_of two_file;
  instance = two;
  words_ask = refl;
  input = record {
    bytes = two_file;
    whole = record { held = λ there. reads_two (codes "l") seven_file not_l; short = lit≤ tt };
    records = refl;
    parsed = in_parse;
  };
}

pub says_seven : GivesLog refute_asked seven_log
says_seven = record {
  bytes = seven_file;
  whole = record { held = λ there. reads_log; short = lit≤ tt };
  says = inl seven_reads;
  accepted = refuted_at_7.accepted;
  infeasible = refuted_at_7.infeasible;
}

-- ---- a picture with two rectangles
pub laid_within_all : IsLayout two (2 ^ 60) (0 ∷ 4 ∷ [])
unfolding buffer is_live some_before faults.first_unaligned faults.first_too_low faults.first_above faults.first_overlap
    faults.overlap_after faults.overlap first_common
laid_within_all = (layout_exactly two (2 ^ 60) (0 ∷ 4 ∷ [])).0 refl

abbrev pub draw_asked : Asked (codes "draw" ∷ draw_values) (beside high_file)
draw_asked = record {
  verb = verb.Draw;
  pairs = pairs_of draw_values;
  table = two_rows;
  instance = two;
  words_ask = refl;
  input = (verify_8 high_file).input;
}

pub is_drawn : HoldsPicture draw_asked
    (told (insert (insert input_alone (codes "a") high_file) (codes "o")
    (picture_text two (ids_of two_rows) (0 ∷ 4 ∷ []))))
    2
unfolding rectangles rectangles_of run_end columns_of turns_at was_live is_live buffer
is_drawn = record {
  offsets = 0 ∷ 4 ∷ [];
  given = record {
    bytes = high_file;
    whole = record { held = λ there. reads_layout high_file; short = lit≤ tt };
    parsed = high_offsets;
    layout = laid_within_all;
  };
  its_count = refl;
  files = refl;
}

-- ---- a trace without lines: an instance without buffers is written
reads_nothing : trace_of [] ≡ Ok []
unfolding trace_of holder
reads_nothing = refl

abbrev pub import_asked :
    AskedOf (codes "import" ∷ import_values) (told (insert empty (codes "t") [])) verb.Import role.Trace
import_asked = record {
  pairs = pairs_of import_values;
  bytes = [];
  words_ask = refl;
  whole = record { held = λ there. file_at-with_file (Some empty) (codes "t") [] refl; short = lit≤ tt };
}

pub nothing_is_imported : HoldsImport import_asked
    (told (insert (insert empty (codes "t") []) (codes "o") (import_text []))) 0
unfolding imported
nothing_is_imported = record {
  trace = [];
  read = reads_nothing;
  its_count = refl;
  each = imported_count [];
  parsed = accepted_parses [] [] (lit≤ tt) reads_nothing;
  traced = imported_traced [];
  files = refl;
}

-- ---- `trim` writes its output, and not over its log
abbrev trim_request : Request
trim_request = record {
  verb = verb.Trim;
  pairs = pairs_of
      (codes "--input" ∷ codes "i" ∷ codes "--log" ∷ codes "l" ∷ codes "--output" ∷ codes "o" ∷ []);
}

trim_writes_its_output : IsOwnWrite trim_request (record { role = role.Output; name = codes "o"; bytes = [] })
trim_writes_its_output = (inl refl, refl)

not_over_its_log : IsOwnWrite trim_request (record { role = role.Log; name = codes "l"; bytes = [] }) → ⊥
not_over_its_log (inl is, named) = cc
not_over_its_log (inr none, named) = none

-- ---- an input that is too long
input_is_long : (bytes : List ℕ) → limit_of role.Input < length bytes →
    HasLongFile (codes "bounds" ∷ bounds_values) (told (long_input bytes)) (told (long_input bytes)) role.Input
input_is_long bytes long = record {
  request = bounds_request;
  asked = refl;
  read = inl refl;
  long = λ there. record { bytes = bytes; held = file_at-with_file (Some empty) (codes "i") bytes refl; long = long };
  files = refl;
}

-- ---- the line of 'right' is printed whole, and nothing is shown by a beginning of it
shows_right : (words : List Word) (old new : FilesSeen) →
    Shows words old new quiet (record { content = Some (codes "right\n"); faults = 0 }) status.Right
shows_right words old new = record { text = codes "right\n"; tells = refl; printed = refl }

not_shown_in_part : (words : List Word) (old new : FilesSeen) →
    Shows words old new quiet (record { content = Some (codes "rig"); faults = 0 }) status.Right → ⊥
not_shown_in_part words old new h = let text = h.tells in let printed = h.printed in cc
