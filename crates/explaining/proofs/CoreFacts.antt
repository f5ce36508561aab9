-- The core of two buffers that are both live at 4, where 7 bytes are too little for both: it is these two.
use Rattle.std.proofs.Common.{◌≡◌, ◌∙◌, ◌<◌, ℕ, zero, suc, List, [], ◌∷◌, Ok, refl, sym, ap, subst, inl, inr, lit<, lit≤, arith}
use Rattle.std.proofs.lemmas.List.Elements.{All-cons, All-nil}
use Rattle.csv.specs.Writing.{escaped, fields_text, is_blank}
use Rattle.dsa_terms.specs.Bounds.{counted, line_height, stack, stack_line, stack_log}
use Rattle.dsa_terms.specs.Buffers.{Instance, IsInstance, buffer, floor, is_live, some_before}
use Rattle.dsa_terms.specs.Claims.{IsIn, up}
use Rattle.dsa_terms.specs.Layouts.{IsFeasible, IsInfeasible}
use Rattle.dsa_terms.specs.Logs.{Log, IsAccepted, Over, is_stacked, rounded, rounding}
use Rattle.dsa_model.specs.Chosen.{some_of}
use Rattle.dsa_model.specs.LayoutFaults as faults
use Rattle.dsa_model.specs.Moments.{first_common}
use Rattle.dsa_model.proofs.LayoutFaults.{layout_exactly}
use Rattle.csv_instance.specs.Chosen.{chosen_text}
use Rattle.csv_instance.specs.Parse.{parse}
use Rattle.csv_instance.specs.Records.{table_of}
use Rattle.csv_instance.proofs.FileFacts.{two, two_file, two_parse, two_reads, two_rows}
use Rattle.log_text.specs.RawLogs.{IsPairWithin, IsRawLineKept}
use Rattle.log_text.specs.RawTexts.{HasCite}
use Rattle.log_text.specs.declared.raw.RawLine.{RawLine}
use Rattle.log_text.specs.declared.raw.RawLine.TheVariants as raw_line
use Rattle.core_find.specs.Cores.{without}
use Rattle.planner.specs.Decides.{LeavesNoLayout}
use Rattle.planner.proofs.ExampleLeastFacts.{line_refutes}
use Rattle.writings.specs.Writings.{ReadsBack}
use Rattle.explaining.specs.Explaining.{IsExplained}
use Rattle.explaining.proofs.ExampleFacts.{none_at_7}

-- ---- each fits alone
abbrev Fits : List ℕ → Type 0
Fits members = IsFeasible (some_of two members) 7

first_fits : Fits (0 ∷ [])
unfolding buffer is_live some_before faults.first_unaligned faults.first_too_low faults.first_above faults.first_overlap
    faults.overlap_after faults.overlap first_common
first_fits = (0 ∷ [], (layout_exactly (some_of two (0 ∷ [])) 7 (0 ∷ [])).0 refl)

second_fits : Fits (1 ∷ [])
unfolding buffer is_live some_before faults.first_unaligned faults.first_too_low faults.first_above faults.first_overlap
    faults.overlap_after faults.overlap first_common
second_fits = (0 ∷ [], (layout_exactly (some_of two (1 ∷ [])) 7 (0 ∷ [])).0 refl)

rests : (b : ℕ) → IsIn b (0 ∷ 1 ∷ []) → Fits (without b (0 ∷ 1 ∷ []))
rests b (inl is) = subst (λ b. Fits (without b (0 ∷ 1 ∷ []))) (sym is) second_fits
rests b (inr (inl is)) = subst (λ b. Fits (without b (0 ∷ 1 ∷ []))) (sym is) first_fits
rests b (inr (inr i)) = absurd i

-- ---- together they do not
both : some_of two (0 ∷ 1 ∷ []) ≡ two
unfolding buffer
both = refl

both_written : chosen_text two_rows (0 ∷ 1 ∷ []) ≡ two_file
unfolding escaped fields_text is_blank
both_written = refl

abbrev pub seven_log : Log
seven_log = record { count = 2; capacity = 7; lines = Over ((0, 0) ∷ (1, 0) ∷ []) 4 0 1 ∷ []; final = 0 }

is_seven_log : stack_log two 4 0 1 7 ≡ seven_log
unfolding stack_log stack_line line_height counted is_stacked rounded rounding up floor is_live buffer
is_seven_log = refl

eight_stacked : stack two 4 0 1 ≡ 8
unfolding stack counted is_stacked rounded rounding up floor is_live buffer
eight_stacked = refl

two_sound : IsInstance two
two_sound zero d lt = (lit≤ tt, lit≤ tt, lit< tt)
two_sound (suc zero) d lt = (lit≤ tt, lit≤ tt, lit< tt)
two_sound (suc (suc k)) d lt = absurd (omega arith)

refuted_at_7 : LeavesNoLayout two 7 seven_log
refuted_at_7 = subst (LeavesNoLayout two 7) is_seven_log
    (line_refutes two 4 0 1 7 two_sound (lit≤ tt) refl (let e = eight_stacked in omega arith))

abbrev seven_line : RawLine
seven_line = raw_line.Over 4 0 1 ((0, 0) ∷ (1, 0) ∷ [])

seven_reads : ReadsBack seven_log
seven_reads = record {
  kept = record {
    count_limit = lit≤ tt;
    capacity_limit = lit≤ tt;
    end_limit = lit≤ tt;
    lines = All-cons IsRawLineKept seven_line []
        (record {
          not_empty = λ e. cc;
          rising = (above, ((λ y i. absurd i), tt));
          within = (
            lit< tt,
            lit≤ tt,
            lit≤ tt,
            All-cons IsPairWithin (0, 0) ((1, 0) ∷ []) (lit≤ tt, lit≤ tt)
                (All-cons IsPairWithin (1, 0) [] (lit≤ tt, lit≤ tt) (All-nil IsPairWithin)),
          );
        })
        (All-nil IsRawLineKept);
  };
  cited = All-cons HasCite seven_line [] tt (All-nil HasCite);
  text = refl;
}
  where
    above : (y : ℕ) → IsIn y (1 ∷ []) → 0 < y
    above y (inl e) = omega (arith, e)
    above y (inr i) = absurd i

explained_at_7 : IsExplained 7 two_rows two (0 ∷ 1 ∷ []) seven_log
explained_at_7 = record {
  is_core = record { infeasible = none_at_7; left = inr (second_fits, inr (first_fits, refl)) };
  parsed = ap (λ (bytes : List ℕ). parse (table_of bytes)) both_written ∙ ap parse two_reads ∙ two_parse
      ∙ ap Ok (sym both);
  accepted = subst (λ (I : Instance). IsAccepted I seven_log) (sym both) refuted_at_7.accepted;
  its_capacity = refl;
  infeasible = subst (λ (I : Instance). IsInfeasible I 7) (sym both) none_at_7;
  rests = rests;
  readable = seven_reads;
}

-- one of them is no core
not_by_one : (log : Log) → IsExplained 7 two_rows two (0 ∷ []) log → ⊥
not_by_one log h = h.infeasible first_fits.0 first_fits.1
