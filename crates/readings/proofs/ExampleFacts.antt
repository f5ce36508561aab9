-- Two buffers and files of them: what courses come to that read these.
use Rattle.std.proofs.Common.{◌≡◌, ◌∙◌, ℕ, List, [], ◌∷◌, Some, None, Err, inr, refl, sym, ap, subst, lit≤}
use Rattle.dsa_terms.specs.Buffers.{Instance, buffer, is_live, some_before}
use Rattle.dsa_terms.proofs.Examples.{five}
use Rattle.dsa_model.specs.LayoutFaults.{layout_fault}
use Rattle.dsa_model.specs.LayoutFaults as faults
use Rattle.dsa_model.specs.Moments.{first_common}
use Rattle.dsa_model.specs.declared.layout.LayoutFault.TheVariants as layout
use Rattle.dsa_model.specs.Limits.{file_limit}
use Rattle.dsa_outside.specs.Held.{file_at}
use Rattle.dsa_outside.specs.Seen.{FilesSeen}
use Rattle.csv_instance.specs.Offsets.{ids_of, parsed_offsets}
use Rattle.csv_instance.specs.Parse.{parse}
use Rattle.csv_instance.specs.Records.{Record, table_of}
use Rattle.csv_instance.specs.declared.fault.InstanceFault.TheVariants as instance
use Rattle.csv_instance.specs.declared.fault.OffsetsFault.TheVariants as offsets
use Rattle.csv_instance.proofs.FileFacts.{five_file, five_parse, five_reads, high_file, high_offsets, low_file, low_offsets, no_bytes, two, two_file, two_parse, two_reads, two_rows}
use Rattle.command_words.specs.Options.{Word}
use Rattle.command_words.specs.Roles.{limit_of}
use Rattle.command_words.specs.declared.role.Role.TheVariants as role
use Rattle.run_status.specs.declared.status.Status.TheVariants as status
use Rattle.run_status.specs.declared.status.WrongCause.TheVariants as wrong
use Rattle.run_course.specs.Course.{Comes, Course, Ends, Outcome, says}
use Rattle.readings.specs.Input.{instance_or_fault, opened}
use Rattle.readings.specs.Judging.{judged, layout_or_fault, offsets_or_fault}

-- ---- inputs
-- an instance and a layout file may be as long as their readers take
most_of_a_file : (limit_of role.Input ≡ file_limit) × (limit_of role.Layout ≡ file_limit)
most_of_a_file = (refl, refl)

goes_on_with_five : (next : Instance → Course) → instance_or_fault (parse (table_of five_file)) next ≡ next five
goes_on_with_five next = ap (λ table. instance_or_fault (parse table) next) five_reads
    ∙ ap (λ r. instance_or_fault r next) five_parse

-- no bytes have no header
ends_without_header : (next : Instance → Course) →
    instance_or_fault (parse (table_of [])) next ≡ Ends (says (status.Malformed instance.NoHeader))
ends_without_header next = ap (λ r. instance_or_fault r next) no_bytes

pub opens_two : (old new : FilesSeen) (name : Word) (next : List Record → Instance → Course) (o : Outcome) →
    file_at old.held name ≡ Some two_file → Comes old new (next two_rows two) o → Comes old new (opened name next) o
opens_two old new name next o held comes =
    inr (
      two_file,
      record { held = λ told. held; short = lit≤ tt },
      subst (λ course. Comes old new course o) (sym same) comes,
    )
  where
    same : instance_or_fault (parse (table_of two_file)) (next (table_of two_file)) ≡ next two_rows two
    same = ap (λ table. instance_or_fault (parse table) (next table)) two_reads
        ∙ ap (λ r. instance_or_fault r (next two_rows)) two_parse

pub overlap_at_4 : layout_fault two 10 (0 ∷ 2 ∷ []) ≡ Some (layout.Overlap 0 1 4)
unfolding buffer is_live some_before faults.first_unaligned faults.first_too_low faults.first_above faults.first_overlap
    faults.overlap_after faults.overlap first_common
overlap_at_4 = refl

pub apart_at_8 : layout_fault two 8 (0 ∷ 4 ∷ []) ≡ None
unfolding buffer is_live some_before faults.first_unaligned faults.first_too_low faults.first_above faults.first_overlap
    faults.overlap_after faults.overlap first_common
apart_at_8 = refl

pub above_7 : layout_fault two 7 (0 ∷ 4 ∷ []) ≡ Some (layout.Above 1)
unfolding buffer is_live some_before faults.first_unaligned faults.first_too_low faults.first_above
above_7 = refl

abbrev pub overlaps : Outcome
overlaps = says (status.Wrong (wrong.Layout (layout.Overlap 0 1 4)))

pub judges_overlap : (old new : FilesSeen) (name : Word) (next : List ℕ → Course) →
    file_at old.held name ≡ Some low_file →
    Comes old new (judged name two_rows two 10 next) overlaps
judges_overlap old new name next held =
    inr (
      low_file,
      record { held = λ told. held; short = lit≤ tt },
      subst (λ course. Comes old new course overlaps) (sym same) (tt, refl),
    )
  where
    same : offsets_or_fault (parsed_offsets (ids_of two_rows) (table_of low_file)) two 10 next ≡ Ends overlaps
    same = ap (λ r. offsets_or_fault r two 10 next) low_offsets
        ∙ ap (λ fault. layout_or_fault fault (next (0 ∷ 2 ∷ []))) overlap_at_4

pub judges_layout : (old new : FilesSeen) (name : Word) (next : List ℕ → Course) (o : Outcome) →
    file_at old.held name ≡ Some high_file → Comes old new (next (0 ∷ 4 ∷ [])) o →
    Comes old new (judged name two_rows two 8 next) o
judges_layout old new name next o held comes =
    inr (
      high_file,
      record { held = λ told. held; short = lit≤ tt },
      subst (λ course. Comes old new course o) (sym same) comes,
    )
  where
    same : offsets_or_fault (parsed_offsets (ids_of two_rows) (table_of high_file)) two 8 next ≡ next (0 ∷ 4 ∷ [])
    same = ap (λ r. offsets_or_fault r two 8 next) high_offsets
        ∙ ap (λ fault. layout_or_fault fault (next (0 ∷ 4 ∷ []))) apart_at_8

missing_id : (next : List ℕ → Course) → offsets_or_fault (Err (offsets.MissingId 1)) two 8 next
    ≡ Ends (says (status.Wrong (wrong.Offsets (offsets.MissingId 1))))
missing_id next = refl
