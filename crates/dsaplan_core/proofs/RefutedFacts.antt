-- A log by which 7 bytes are too few for two buffers that are both live at 4, its text, and one for three buffers.
use Rattle.std.proofs.Common.{◌≡◌, ◌<◌, ℕ, zero, suc, List, [], ◌∷◌, All, Some, codes, refl, subst, inl, inr, lit<, lit≤, arith}
use Rattle.std.proofs.lemmas.List.Elements.{All-cons, All-nil}
use Rattle.dsa_terms.specs.Bounds.{counted, line_height, stack, stack_line, stack_log}
use Rattle.dsa_terms.specs.Buffers.{IsInstance, buffer, floor, is_live}
use Rattle.dsa_terms.specs.Claims.{IsIn, up}
use Rattle.dsa_terms.specs.Logs.{is_stacked, rounded, rounding}
use Rattle.planner.specs.Decides.{LeavesNoLayout}
use Rattle.planner.proofs.ExampleLeastFacts.{line_refutes}
use Rattle.log_text.specs.Numerals.{numeral}
use Rattle.log_text.specs.RawLogs.{IsPairWithin, IsRawLineKept}
use Rattle.log_text.specs.RawTexts.{HasCite, IsTextOf}
use Rattle.log_text.specs.Text.{raw_log_of}
use Rattle.log_text.specs.declared.raw.RawLine.{RawLine}
use Rattle.log_text.specs.declared.raw.RawLine.TheVariants as raw_line
use Rattle.log_text.specs.declared.raw.RawLog.{RawLog}
use Rattle.log_check.specs.Faults.{check_fault}
use Rattle.log_check.specs.declared.fault.CheckFault.TheVariants as check
use Rattle.csv_instance.proofs.FileFacts.{two}
use Rattle.dsaplan_core.proofs.HeldFacts.{seven_log}

two_sound : IsInstance two
two_sound zero d lt = (lit≤ tt, lit≤ tt, lit< tt)
two_sound (suc zero) d lt = (lit≤ tt, lit≤ tt, lit< tt)
two_sound (suc (suc k)) d lt = absurd (omega arith)

is_seven_log : stack_log two 4 0 1 7 ≡ seven_log
unfolding stack_log stack_line line_height counted is_stacked rounded rounding up floor is_live buffer
is_seven_log = refl

eight_stacked : stack two 4 0 1 ≡ 8
unfolding stack counted is_stacked rounded rounding up floor is_live buffer
eight_stacked = refl

pub refuted_at_7 : LeavesNoLayout two 7 seven_log
refuted_at_7 = subst (LeavesNoLayout two 7) is_seven_log
    (line_refutes two 4 0 1 7 two_sound (lit≤ tt) refl (let e = eight_stacked in omega arith))

abbrev pub seven_file : List ℕ
seven_file = codes "dsalog 1 2 7\nover 4 0 1 : 0=0 1=0\nend 0\n"

abbrev seven_line : RawLine
seven_line = raw_line.Over 4 0 1 ((0, 0) ∷ (1, 0) ∷ [])

line_kept : All IsRawLineKept (seven_line ∷ [])
line_kept = All-cons IsRawLineKept seven_line []
    (record {
      not_empty = λ e. cc;
      rising = (above, ((λ y i. absurd i), tt));
      within = (
        lit< tt,
        lit≤ tt,
        lit≤ tt,
        All-cons IsPairWithin (0, 0) ((1, 0) ∷ []) (lit≤ tt, lit≤ tt)
            (All-cons IsPairWithin (1, 0) [] (lit≤ tt, lit≤ tt) (All-nil IsPairWithin)),
      );
    })
    (All-nil IsRawLineKept)
  where
    above : (y : ℕ) → IsIn y (1 ∷ []) → 0 < y
    above y (inl e) = omega (arith, e)
    above y (inr i) = absurd i

pub seven_reads : IsTextOf seven_file (raw_log_of seven_log)
unfolding numeral
seven_reads = record {
  kept = record { count_limit = lit≤ tt; capacity_limit = lit≤ tt; end_limit = lit≤ tt; lines = line_kept };
  cited = All-cons HasCite seven_line [] tt (All-nil HasCite);
  text = refl;
}

-- the same line in a log for three buffers, which is refused for the two
abbrev pub three_raw : RawLog
three_raw = record { count = 3; capacity = 7; lines = seven_line ∷ []; end = 0 }

abbrev pub three_file : List ℕ
three_file = codes "dsalog 1 3 7\nover 4 0 1 : 0=0 1=0\nend 0\n"

pub three_reads : IsTextOf three_file three_raw
unfolding numeral
three_reads = record {
  kept = record { count_limit = lit≤ tt; capacity_limit = lit≤ tt; end_limit = lit≤ tt; lines = line_kept };
  cited = All-cons HasCite seven_line [] tt (All-nil HasCite);
  text = refl;
}

pub three_fault : check_fault two three_raw ≡ Some (check.WrongCount 3 2)
three_fault = refl
