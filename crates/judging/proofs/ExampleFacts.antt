-- Two buffers that are both live at 4: at 0 and 2 they overlap, at 0 and 4 they are a layout within 8 bytes.
use Rattle.std.proofs.Common.{◌≡◌, ◌∙◌, ◌^◌, ℕ, List, [], ◌∷◌, Some, None, codes, refl, sym, slice_index, ap, arith}
use Rattle.std.specs.FinMap.{empty, insert}
use Rattle.dsa_outside.specs.Held.{FileMap, file_at}
use Rattle.dsa_outside.specs.Seen.{FilesSeen}
use Rattle.dsa_outside.proofs.Lookups.{file_at-with_file, file_at-with_other}
use Rattle.dsa_terms.specs.Buffers.{Instance, buffer, is_live, some_before}
use Rattle.dsa_terms.specs.Layouts.{IsLayout}
use Rattle.lifetime.specs.Runs.{was_live}
use Rattle.layout_report.specs.Report.{IsReportOf}
use Rattle.layout_picture.specs.Columns.{columns_of, turns_at}
use Rattle.layout_picture.specs.Rectangles.{rectangles, rectangles_of, run_end}
use Rattle.layout_picture.specs.Texts.{picture_text}
use Rattle.dsa_model.specs.LayoutFaults.{layout_fault}
use Rattle.dsa_model.specs.LayoutFaults as faults
use Rattle.dsa_model.specs.Moments.{first_common}
use Rattle.dsa_model.specs.declared.layout.LayoutFault.TheVariants as layout
use Rattle.dsa_model.proofs.LayoutFaults.{layout_exactly}
use Rattle.csv_instance.specs.Records.{Record}
use Rattle.csv_instance.specs.Offsets.{ids_of}
use Rattle.csv_instance.proofs.FileFacts.{high_file, low_file, two, two_file, two_rows}
use Rattle.command_words.specs.declared.role.Role.TheVariants as role
use Rattle.run_status.specs.declared.status.Status.TheVariants as status
use Rattle.run_status.specs.declared.status.WrongCause.TheVariants as wrong
use Rattle.run_course.specs.Course.{Comes, Concludes, Course, Outcome, says, shows, writes}
use Rattle.readings.specs.Judging.{judged}
use Rattle.readings.proofs.ExampleFacts.{apart_at_8, judges_layout, judges_overlap, opens_two, overlap_at_4, overlaps}
use Rattle.judging.specs.Judging.{ShowsLayout, TellsRight, verify}
use Rattle.judging.specs.Drawing.{Draws, drawing}

-- the input stands in the file i, and the layout in the file a
abbrev input : FileMap
input = insert empty (codes "i") two_file

abbrev files : List ℕ → FilesSeen
files bytes = record { held = Some (insert input (codes "a") bytes); faults = λ name. 0 }

i_is_not_a : codes "i" ≡ codes "a" → ⊥
i_is_not_a e = omega (arith, ap (λ (bytes : List ℕ). slice_index bytes 0) e)

reads_input : (bytes : List ℕ) → file_at (files bytes).held (codes "i") ≡ Some two_file
reads_input bytes = file_at-with_other (Some input) (codes "a") bytes (codes "i") i_is_not_a
    ∙ file_at-with_file (Some empty) (codes "i") two_file refl

reads_layout : (bytes : List ℕ) → file_at (files bytes).held (codes "a") ≡ Some bytes
reads_layout bytes = file_at-with_file (Some input) (codes "a") bytes refl

abbrev tells : ℕ → Instance → List ℕ → Course
tells capacity I offsets = Concludes (TellsRight I capacity offsets)

abbrev goes_on : ℕ → List Record → Instance → Course
goes_on capacity table I = judged (codes "a") table I capacity (tells capacity I)

-- ---- judging them
layout_at_8 : IsLayout two 8 (0 ∷ 4 ∷ [])
layout_at_8 = (layout_exactly two 8 (0 ∷ 4 ∷ [])).0 apart_at_8

overlap_at_10 : (new : FilesSeen) → Comes (files low_file) new (verify 10 (codes "i") (codes "a"))
    (says (status.Wrong (wrong.Layout (layout.Overlap 0 1 4))))
overlap_at_10 new =
    opens_two (files low_file) new (codes "i") (goes_on 10) overlaps (reads_input low_file)
    (judges_overlap (files low_file) new (codes "a") (tells 10 two) (reads_layout low_file))

right_at_8 : (new : FilesSeen) → Comes (files high_file) new (verify 8 (codes "i") (codes "a")) (says status.Right)
right_at_8 new =
    opens_two (files high_file) new (codes "i") (goes_on 8) (says status.Right) (reads_input high_file)
    (judges_layout (files high_file) new (codes "a") (tells 8 two) (says status.Right) (reads_layout high_file)
    (tt, record { layout = layout_at_8; told = refl }))

-- offsets that overlap are never told right
overlap_is_not_right : (o : Outcome) → TellsRight two 10 (0 ∷ 2 ∷ []) o → ⊥
overlap_is_not_right o is =
    let none = (layout_exactly two 10 (0 ∷ 2 ∷ [])).1 is.layout in
    let some = overlap_at_4 in cc

-- ---- showing them
-- the offsets have the same faults at the greatest capacity
overlap_at_most : layout_fault two (2 ^ 60) (0 ∷ 2 ∷ []) ≡ Some (layout.Overlap 0 1 4)
unfolding buffer is_live some_before faults.first_unaligned faults.first_too_low faults.first_above faults.first_overlap
    faults.overlap_after faults.overlap first_common
overlap_at_most = refl

apart_at_most : layout_fault two (2 ^ 60) (0 ∷ 4 ∷ []) ≡ None
unfolding buffer is_live some_before faults.first_unaligned faults.first_too_low faults.first_above faults.first_overlap
    faults.overlap_after faults.overlap first_common
apart_at_most = refl

a_report_is_shown : (text : List ℕ) → IsReportOf two_rows two (0 ∷ 4 ∷ []) text →
    ShowsLayout two_rows two (0 ∷ 4 ∷ []) (shows text)
a_report_is_shown text is = record {
  layout = (layout_exactly two (2 ^ 60) (0 ∷ 4 ∷ [])).0 apart_at_most;
  text = text;
  its_text = is;
  shown = refl;
}

-- of offsets that overlap none is
overlap_is_not_shown : (o : Outcome) → ShowsLayout two_rows two (0 ∷ 2 ∷ []) o → ⊥
overlap_is_not_shown o is =
    let none = (layout_exactly two (2 ^ 60) (0 ∷ 2 ∷ [])).1 is.layout in
    let some = overlap_at_most in cc

-- ---- drawing them

abbrev two_drawn : Outcome
two_drawn = writes (record {
  role = role.Output;
  name = codes "o";
  bytes = picture_text two (ids_of two_rows) (0 ∷ 4 ∷ []);
} ∷ []) (status.Drawn 2)

its_drawing : drawing (codes "o") two_rows two (0 ∷ 4 ∷ []) ≡ two_drawn
unfolding rectangles rectangles_of run_end columns_of turns_at was_live is_live buffer
its_drawing = refl

two_are_drawn : Draws (codes "o") two_rows two (0 ∷ 4 ∷ []) two_drawn
two_are_drawn = record {
  layout = (layout_exactly two (2 ^ 60) (0 ∷ 4 ∷ [])).0 apart_at_most;
  drawn = sym its_drawing;
}

-- and nothing else may be
nothing_else : (o : Outcome) → Draws (codes "o") two_rows two (0 ∷ 4 ∷ []) o → o ≡ two_drawn
nothing_else o is = is.drawn ∙ its_drawing
