-- Five buffers whose least capacity is 12: how `solve` goes on them from their file on.
use Rattle.std.proofs.Common.{◌≡◌, ℕ, zero, suc, List, [], ◌∷◌, Option, None, Some, codes, refl, sym, ap, subst, ◌∙◌, lit<, lit≤, arith}
use Rattle.std.specs.FinMap.{empty, insert}
use Rattle.dsa_terms.specs.Buffers.{IsInstance}
use Rattle.dsa_terms.specs.Layouts.{IsLayout}
use Rattle.dsa_terms.specs.Logs.{Log}
use Rattle.dsa_terms.proofs.ExamplePlanFacts.{five_plan_at_11, five_plan_at_12}
use Rattle.dsa_terms.proofs.Examples.{five}
use Rattle.dsa_start_laws.proofs.Planned.{planned_is_layout}
use Rattle.dsa_outside.specs.Seen.{FilesSeen}
use Rattle.dsa_outside.proofs.Lookups.{file_at-with_file}
use Rattle.csv_instance.proofs.FileFacts.{five_file, five_parse, five_reads, five_rows}
use Rattle.run_status.specs.declared.status.Status.{Status}
use Rattle.run_status.specs.declared.status.Status.TheVariants.{Feasible}
use Rattle.run_course.specs.Course.{Comes, Concludes, Outcome, Write, says, writes}
use Rattle.readings.specs.Opens.{IsInput}
use Rattle.readings.proofs.Opening.{with_input}
use Rattle.writings.specs.Answers.{answer_files}
use Rattle.writings.proofs.ExampleFacts.{at_12, five_alone, laid_file, names, to_output}
use Rattle.deciding.specs.Deciding.{IsPlanWithin, IsSolved, Solves, solve}

-- ---- the layout within 12
five_sound : IsInstance five
five_sound zero d lt = (lit≤ tt, lit≤ tt, lit< tt)
five_sound (suc zero) d lt = (lit≤ tt, lit≤ tt, lit< tt)
five_sound (suc (suc zero)) d lt = (lit≤ tt, lit≤ tt, lit< tt)
five_sound (suc (suc (suc zero))) d lt = (lit≤ tt, lit≤ tt, lit< tt)
five_sound (suc (suc (suc (suc zero)))) d lt = (lit≤ tt, lit≤ tt, lit< tt)
five_sound (suc (suc (suc (suc (suc k))))) d lt = absurd (omega arith)

laid : IsLayout five 12 at_12
laid = planned_is_layout five 12 at_12 five_sound five_plan_at_12

abbrev laid_out : Outcome
laid_out = writes (to_output laid_file ∷ []) (Feasible 12)

within_12 : IsPlanWithin five 12 None at_12
within_12 = record { planned = five_plan_at_12; layout = laid; searched = λ none. tt }

lays_out : Solves 12 None names five_rows five laid_out
lays_out = record {
  status = Feasible 12;
  layout = Some at_12;
  log = None;
  answer = (refl, within_12);
  readable = tt;
  written = ap (λ (ws : List Write). writes ws (Feasible 12)) (sym five_alone);
}

-- within 11 there is none
not_at_11 : (offsets : List ℕ) → IsPlanWithin five 11 None offsets → ⊥
not_at_11 offsets h = let e = sym five_plan_at_11 ∙ h.planned in absurd cc

-- the layout has to be written
written_12 : (layout : Option (List ℕ)) (log : Option Log) → IsSolved five 12 None (Feasible 12) layout log →
    [] ≡ answer_files names five_rows layout log → ⊥
written_12 None log a w = a
written_12 (Some offsets) None a w = absurd cc
written_12 (Some offsets) (Some log) a w = a

not_without_a_write : Solves 12 None names five_rows five (says (Feasible 12)) → ⊥
not_without_a_write h =
    let same = sym (ap (λ (o : Outcome). o.status) h.written) in
    written_12 h.layout h.log (subst (λ (s : Status). IsSolved five 12 None s h.layout h.log) same h.answer)
    (ap (λ (o : Outcome). o.writes) h.written)

-- ---- from the file on
abbrev files : FilesSeen
files = record { held = Some (insert empty (codes "i") five_file); faults = λ name. 0 }

its_input : IsInput files (codes "i") five_rows five
its_input = record {
  bytes = five_file;
  whole = record { held = λ told. file_at-with_file (Some empty) (codes "i") five_file refl; short = lit≤ tt };
  records = sym five_reads;
  parsed = five_parse;
}

goes : Comes files files (solve 12 None names) laid_out
goes = with_input files files files (codes "i") five_rows five (λ t I. Concludes (Solves 12 None names t I))
    (five, its_input) five_parse refl (λ name. lit≤ tt) laid_out (tt, lays_out)
