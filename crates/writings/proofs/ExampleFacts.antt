-- The files of answers: of two buffers whose best start ends at 5, and whose lower bound and least capacity are 4, and
-- of five whose least capacity is 12.
use Rattle.std.proofs.Common.{◌≡◌, ◌<◌, ℕ, inl, inr, List, [], ◌∷◌, None, Some, Ok, codes, refl, ap, ap₂, lit<, lit≤, arith}
use Rattle.std.proofs.lemmas.List.Elements.{All-cons, All-nil}
use Rattle.std.specs.Fmt.{digits}
use Rattle.csv.specs.Machine.{next_record}
use Rattle.csv.specs.Reading.{records_from, strip_bom}
use Rattle.csv.specs.Writing.{escaped, fields_text, is_blank}
use Rattle.dsa_terms.specs.Bounds.{counted, stack_log, stack_line, line_height}
use Rattle.dsa_terms.specs.Buffers.{buffer, is_live, some_before, floor}
use Rattle.dsa_terms.specs.Claims.{IsIn, up}
use Rattle.dsa_terms.specs.Logs.{Log, is_stacked, rounded, rounding}
use Rattle.dsa_terms.proofs.Examples.{small_below}
use Rattle.dsa_model.specs.Buffer.{is_ever_live}
use Rattle.csv_instance.specs.Layout.{layout_text}
use Rattle.csv_instance.specs.Parse.{parse}
use Rattle.csv_instance.specs.Records.{Record, table_of}
use Rattle.csv_instance.proofs.FileFacts.{five_rows}
use Rattle.log_text.specs.RawTexts.{HasCite}
use Rattle.log_text.specs.Numerals.{numeral}
use Rattle.log_text.specs.RawLogs.{IsRawLineKept, IsPairWithin}
use Rattle.log_text.specs.Text.{log_text}
use Rattle.log_text.specs.declared.raw.RawLine.{RawLine}
use Rattle.log_text.specs.declared.raw.RawLine.TheVariants as raw_line
use Rattle.command_words.specs.declared.role.Role.TheVariants as role
use Rattle.run_course.specs.Course.{Write}
use Rattle.writings.specs.Answers.{AllReadBack, answer_files}
use Rattle.writings.specs.Writings.{Names, ReadsBack}

-- ---- the input is in the file i, the output goes to o, the log to l
abbrev pub names : Names
names = record { input = codes "i"; output = codes "o"; log = codes "l" }

abbrev pub to_output : List ℕ → Write
to_output bytes = record { role = role.Output; name = codes "o"; bytes = bytes }

abbrev pub to_log : List ℕ → Write
to_log bytes = record { role = role.Log; name = codes "l"; bytes = bytes }

-- ---- two buffers
abbrev pub below_rows : List Record
below_rows =
    (codes "id" ∷ codes "lower" ∷ codes "upper" ∷ codes "size" ∷ codes "alignment" ∷ [])
    ∷ (codes "A" ∷ codes "0" ∷ codes "1" ∷ codes "3" ∷ codes "1" ∷ [])
    ∷ (codes "B" ∷ codes "0" ∷ codes "1" ∷ codes "1" ∷ codes "4" ∷ []) ∷ []

pub rows_are_below : parse below_rows ≡ Ok small_below
unfolding is_live some_before is_ever_live
rows_are_below = refl

-- their file
abbrev pub below_file : List ℕ
below_file = codes "id,lower,upper,size,alignment\nA,0,1,3,1\nB,0,1,1,4\n"

pub file_is_below : table_of below_file ≡ below_rows
unfolding strip_bom records_from next_record
file_is_below = refl

-- the best start
abbrev pub start_file : List ℕ
start_file = codes "id,lower,upper,size,alignment,offset\nA,0,1,3,1,0\nB,0,1,1,4,4\n"

pub start_text : layout_text below_rows (0 ∷ 4 ∷ []) ≡ start_file
unfolding digits escaped fields_text is_blank
start_text = refl

-- the layout within 4
abbrev pub low_file : List ℕ
low_file = codes "id,lower,upper,size,alignment,offset\nA,0,1,3,1,1\nB,0,1,1,4,0\n"

pub low_text : layout_text below_rows (1 ∷ 0 ∷ []) ≡ low_file
unfolding digits escaped fields_text is_blank
low_text = refl

-- the bound's log
abbrev pub three_log : Log
three_log = stack_log small_below 0 0 1 3

abbrev pub three_file : List ℕ
three_file = codes "dsalog 1 2 3\nover 0 0 1 : 0=0 1=0\nend 0\n"

pub three_text : log_text three_log ≡ three_file
unfolding numeral stack_log stack_line line_height counted is_stacked rounded rounding up floor is_live buffer
three_text = refl

abbrev three_line : RawLine
three_line = raw_line.Over 0 0 1 ((0, 0) ∷ (1, 0) ∷ [])

pub three_reads : ReadsBack three_log
unfolding stack_log stack_line line_height counted is_stacked rounded rounding up floor is_live buffer
three_reads = record {
  kept = record {
    count_limit = lit≤ tt;
    capacity_limit = lit≤ tt;
    end_limit = lit≤ tt;
    lines = All-cons IsRawLineKept three_line []
        (record {
          not_empty = λ e. cc;
          rising = (above, ((λ y i. absurd i), tt));
          within = (
            lit< tt,
            lit≤ tt,
            lit≤ tt,
            All-cons IsPairWithin (0, 0) ((1, 0) ∷ []) (lit≤ tt, lit≤ tt)
                (All-cons IsPairWithin (1, 0) [] (lit≤ tt, lit≤ tt) (All-nil IsPairWithin)),
          );
        })
        (All-nil IsRawLineKept);
  };
  cited = All-cons HasCite three_line [] tt (All-nil HasCite);
  text = refl;
}
  where
    above : (y : ℕ) → IsIn y (1 ∷ []) → 0 < y
    above y (inl e) = omega (arith, e)
    above y (inr i) = absurd i

-- ---- what is written: a layout, a log, or the layout and then the log
pub start_alone : answer_files names below_rows (Some (0 ∷ 4 ∷ [])) None ≡ to_output start_file ∷ []
start_alone = ap (λ (layout : List ℕ). to_output layout ∷ []) start_text

pub low_alone : answer_files names below_rows (Some (1 ∷ 0 ∷ [])) None ≡ to_output low_file ∷ []
low_alone = ap (λ (layout : List ℕ). to_output layout ∷ []) low_text

pub log_alone : answer_files names below_rows None (Some three_log) ≡ to_log three_file ∷ []
log_alone = ap (λ (log : List ℕ). to_log log ∷ []) three_text

pub start_and_log : answer_files names below_rows (Some (0 ∷ 4 ∷ [])) (Some three_log)
    ≡ to_output start_file ∷ to_log three_file ∷ []
start_and_log = ap₂ (λ (layout log : List ℕ). to_output layout ∷ to_log log ∷ []) start_text three_text

pub low_and_log : answer_files names below_rows (Some (1 ∷ 0 ∷ [])) (Some three_log)
    ≡ to_output low_file ∷ to_log three_file ∷ []
low_and_log = ap₂ (λ (layout log : List ℕ). to_output layout ∷ to_log log ∷ []) low_text three_text

-- ---- a log, where there is one, reads back
no_log_reads_back : AllReadBack None
no_log_reads_back = tt

the_log_reads_back : AllReadBack (Some three_log)
the_log_reads_back = three_reads

-- ---- five buffers, within 12
abbrev pub at_12 : List ℕ
at_12 = 0 ∷ 0 ∷ 4 ∷ 0 ∷ 8 ∷ []

abbrev pub laid_file : List ℕ
laid_file =
    codes "id,lower,upper,size,offset\nb1,0,3,4,0\nb2,3,9,4,0\nb3,0,9,4,4\nb4,9,21,4,0\nb5,0,21,4,8\n"

pub five_alone : answer_files names five_rows (Some at_12) None ≡ to_output laid_file ∷ []
unfolding digits escaped fields_text is_blank
five_alone = refl
