-- What is promised of a layout file that is judged, on an input of two buffers that are both live at 4.
use Rattle.std.proofs.Common.{◌≡◌, ◌∙◌, ℕ, slice_index, List, [], ◌∷◌, Some, Ok, codes, refl, sym, ap, subst, inl, inr, lit<, lit≤, arith}
use Rattle.std.specs.FinMap.{insert}
use Rattle.dsa_terms.specs.Buffers.{buffer, is_live}
use Rattle.dsa_outside.specs.Held.{file_at}
use Rattle.dsa_outside.specs.Seen.{FilesSeen}
use Rattle.dsa_outside.proofs.Lookups.{file_at-with_file, file_at-with_other}
use Rattle.csv_instance.specs.Offsets.{ids_of, parsed_offsets}
use Rattle.csv_instance.specs.Records.{table_of}
use Rattle.csv_instance.proofs.FileFacts.{high_file, high_offsets, low_file, low_offsets, two, two_file, two_parse, two_reads, two_rows}
use Rattle.lifetime.specs.Runs.{was_live}
use Rattle.layout_picture.specs.Columns.{columns_of, turns_at}
use Rattle.layout_picture.specs.Rectangles.{rectangles, rectangles_of, run_end}
use Rattle.command_words.specs.Options.{Word}
use Rattle.command_words.specs.Pairs.{pairs_of}
use Rattle.command_words.specs.Requests.{Request}
use Rattle.command_words.specs.declared.verb.Verb.{Verb}
use Rattle.command_words.specs.declared.verb.Verb.TheVariants as verb
use Rattle.run_status.specs.declared.status.Status.TheVariants as status
use Rattle.run_status.specs.declared.status.WrongCause.{WrongCause}
use Rattle.explaining.proofs.ExampleFacts.{laid_at_8, none_at_7}
use Rattle.dsaplan_core.specs.Theorem.{Asked}
use Rattle.dsaplan_core.specs.Complete.{HoldsGivenLayout, IsApproval}
use Rattle.dsaplan_core.specs.Judged.{GivesLayoutAt, Judged}
use Rattle.dsaplan_core.proofs.WorldFacts.{first_differs, input_alone, reads_input, told, verify_values}

-- the layout file stands in the file a, beside the input
abbrev pub beside : List ℕ → FilesSeen
beside file = told (insert input_alone (codes "a") file)

pub reads_layout : (file : List ℕ) → file_at (Some (insert input_alone (codes "a") file)) (codes "a") ≡ Some file
reads_layout file = file_at-with_file (Some input_alone) (codes "a") file refl

abbrev pub verify_8 : (file : List ℕ) → Asked (codes "verify" ∷ verify_values (codes "8")) (beside file)
verify_8 file = record {
  verb = verb.Verify;
  pairs = pairs_of (verify_values (codes "8"));
  table = two_rows;
  instance = two;
  words_ask = refl;
  input = record {
    bytes = two_file;
    whole = record { held = λ there. its_input; short = lit≤ tt };
    records = sym two_reads;
    parsed = two_parse;
  };
}
  where
    its_input : file_at (Some (insert input_alone (codes "a") file)) (codes "i") ≡ Some two_file
    its_input = file_at-with_other (Some input_alone) (codes "a") file (codes "i")
        (λ e. first_differs (codes "a") (codes "i") (lit< tt) (sym e)) ∙ reads_input

right_at_8 : Judged (codes "verify" ∷ verify_values (codes "8")) (beside high_file) (beside high_file) status.Right
right_at_8 = (
  verify_8 high_file,
  refl,
  (
    0 ∷ 4 ∷ [],
    record {
      bytes = high_file;
      whole = record { held = λ there. reads_layout high_file; short = lit≤ tt };
      parsed = high_offsets;
      layout = laid_at_8;
    },
  ),
  refl,
)

-- a layout file whose buffers overlap gives no layout
not_right : (given_offsets : List ℕ) → GivesLayoutAt (verify_8 low_file) 8 given_offsets → ⊥
unfolding is_live buffer
not_right given_offsets given =
    let held : Some low_file ≡ Some given.bytes = sym (reads_layout low_file) ∙ given.whole.held refl in
    let bytes : low_file ≡ given.bytes = cc in
    let read = subst (λ (bytes : List ℕ). parsed_offsets (ids_of two_rows) (table_of bytes) ≡ Ok given_offsets)
    (sym bytes) given.parsed in
    let offsets : 0 ∷ 2 ∷ [] ≡ given_offsets = (let low = low_offsets in cc) in
    let low : slice_index given_offsets 0 ≡ 0 = ap (λ (xs : List ℕ). slice_index xs 0) (sym offsets) in
    let high : slice_index given_offsets 1 ≡ 2 = ap (λ (xs : List ℕ). slice_index xs 1) (sym offsets) in
    elim (given.layout.apart 0 1 4 (lit< tt) (lit< tt) (λ e. cc) refl refl) [
      | inl le ↦ omega (arith, le, low, high)
      | inr le ↦ omega (arith, le, low, high)
    ]

-- ---- a layout file that gives a layout
abbrev pub verify_request : Word → Request
verify_request capacity = record { verb = verb.Verify; pairs = pairs_of (verify_values capacity) }

pub given_at_8 : HoldsGivenLayout (beside high_file) (verify_request (codes "8")) two 8 (0 ∷ 4 ∷ [])
given_at_8 = record {
  table = two_rows;
  input = (verify_8 high_file).input;
  bytes = high_file;
  held = reads_layout high_file;
  parsed = high_offsets;
  layout = laid_at_8;
}

-- at 7 no file gives one
none_given_at_7 : (file offsets : List ℕ) →
    HoldsGivenLayout (beside file) (verify_request (codes "7")) two 7 offsets → ⊥
none_given_at_7 file offsets h = none_at_7 offsets h.layout

-- the commands that judge it each have a status for that, and its picture has two rectangles
approved_by_verify : IsApproval verb.Verify two (0 ∷ 4 ∷ []) status.Right
approved_by_verify = tt

approved_by_report : IsApproval verb.Report two (0 ∷ 4 ∷ []) status.Shown
approved_by_report = tt

approved_by_draw : IsApproval verb.Draw two (0 ∷ 4 ∷ []) (status.Drawn 2)
unfolding rectangles rectangles_of run_end columns_of turns_at was_live is_live buffer
approved_by_draw = refl

not_drawn_with_three : IsApproval verb.Draw two (0 ∷ 4 ∷ []) (status.Drawn 3) → ⊥
unfolding rectangles rectangles_of run_end columns_of turns_at was_live is_live buffer
not_drawn_with_three e = let same : 3 ≡ 2 = e in omega (arith, same)

wrong_is_no_approval : (v : Verb) (cause : WrongCause) → IsApproval v two (0 ∷ 4 ∷ []) (status.Wrong cause) → ⊥
wrong_is_no_approval verb.Verify cause h = h
wrong_is_no_approval v cause h = h
