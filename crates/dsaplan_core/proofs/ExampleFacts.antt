-- What words ask for, how they go, and which statuses conclude, accept or refuse.
use Rattle.std.proofs.Common.{◌≡◌, ◌<◌, ℕ, List, [], ◌∷◌, length, Option, Some, None, Ok, ap, codes, refl, lit<, lit≤, arith, inl, inr}
use Rattle.dsa_terms.specs.Buffers.{Instance}
use Rattle.dsa_terms.specs.Logs.{Log}
use Rattle.dsa_terms.proofs.Examples.{sample, small_below, two_of_four}
use Rattle.dsa_trim_laws.proofs.ExampleFacts.{sample_is_trim, with_extra}
use Rattle.dsa_trim_laws.proofs.Trims.{one_trim}
use Rattle.csv_instance.specs.declared.fault.InstanceFault.TheVariants as instance
use Rattle.cyclic_plan.specs.declared.fault.CycleFault.TheVariants as cycle
use Rattle.csv_instance.proofs.FileFacts.{two, two_rows}
use Rattle.column_report.specs.Report.{inspect_text}
use Rattle.log_text.specs.declared.fault.TextFault.TheVariants as text
use Rattle.planner.proofs.ExampleLeastFacts.{below_bound}
use Rattle.planner.proofs.StepFacts.{best_at_5}
use Rattle.planner.proofs.ShortageFacts.{four_of_four, short_of_four_steps}
use Rattle.size_classes.specs.Plain.{first_rough}
use Rattle.command_words.specs.Pairs.{Pair, number_given, pairs_of}
use Rattle.command_words.specs.Requests.{request_of}
use Rattle.command_words.specs.declared.option.OptionName.TheVariants as option
use Rattle.command_words.specs.declared.verb.Verb.{Verb}
use Rattle.command_words.specs.declared.verb.Verb.TheVariants as verb
use Rattle.command_words.specs.declared.fault.UsageFault.TheVariants as usage
use Rattle.run_status.specs.declared.status.Status.TheVariants as status
use Rattle.run_status.specs.declared.status.LogCause.TheVariants as refused
use Rattle.run_course.specs.Course.{Ends, says}
use Rattle.judging.specs.Judging.{verify}
use Rattle.judging.specs.Drawing.{draw}
use Rattle.checking.specs.Checking.{trim, upgrade}
use Rattle.fact_reports.specs.Reporting.{reporting, trial}
use Rattle.importing.specs.Importing.{import_course}
use Rattle.importing.specs.Unrolling.{unroll_course}
use Rattle.planning.specs.Planning.{classes}
use Rattle.explaining.specs.Explaining.{core}
use Rattle.packing.specs.Packing.{AreEnds, pack}
use Rattle.explaining.proofs.ExampleFacts.{laid_at_8, none_at_7}
use Rattle.planning.proofs.ExampleFacts.{one, one_plain}
use Rattle.dsaplan_core.specs.Courses.{course}
use Rattle.dsaplan_core.specs.Complete.{IsAcceptance}
use Rattle.dsaplan_core.specs.Conclusions.{IsConclusion, MayStayOpen}
use Rattle.dsaplan_core.specs.Causes.{IsChecking, IsJudgedAt}
use Rattle.dsaplan_core.specs.Theorem.{Decides, SeeksLeast}
use Rattle.dsaplan_core.specs.Refused.{IsMisuse}
use Rattle.dsaplan_core.proofs.WorldFacts.{bounds_values, classes_values, core_values, draw_values, import_values, pack_values, pack_within, trial_values, unroll_values, upgrade_values, verify_values}

-- ---- words
classes_are_asked : request_of (codes "classes" ∷ classes_values)
    ≡ Ok (record { verb = verb.Classes; pairs = pairs_of classes_values })
classes_are_asked = refl

classes_go : course (codes "classes" ∷ classes_values)
    ≡ classes (codes "i") (codes "o")
classes_go = refl

core_goes : course (codes "core" ∷ core_values (codes "11"))
    ≡ core 11 (record { input = codes "i"; output = codes "o"; log = codes "l" })
core_goes = refl

pack_goes : course (codes "pack" ∷ pack_values)
    ≡ pack None 9 (record { input = codes "i"; output = codes "o"; log = codes "l" })
pack_goes = refl

pack_within_goes : course (codes "pack" ∷ pack_within (codes "12"))
    ≡ pack (Some 12) 9 (record { input = codes "i"; output = codes "o"; log = codes "l" })
pack_within_goes = refl

verify_goes : course (codes "verify" ∷ verify_values (codes "12"))
    ≡ verify 12 (codes "i") (codes "a")
verify_goes = refl

import_goes : course (codes "import" ∷ import_values)
    ≡ import_course (codes "t") (codes "o")
import_goes = refl

inspect_goes : course (codes "inspect" ∷ bounds_values) ≡ reporting verb.Inspect (codes "i")
inspect_goes = refl

draw_goes : course (codes "draw" ∷ draw_values)
    ≡ draw (codes "i") (codes "a") (codes "o")
draw_goes = refl

upgrade_goes : course (codes "upgrade" ∷ upgrade_values)
    ≡ upgrade (codes "i") (codes "l") (codes "o")
upgrade_goes = refl

trim_goes : course (codes "trim" ∷ upgrade_values) ≡ trim (codes "i") (codes "l") (codes "o")
trim_goes = refl

trial_goes : course (codes "trial" ∷ trial_values (codes "3")) ≡ trial 7 3 5
trial_goes = refl

unroll_goes : course (codes "unroll" ∷ unroll_values)
    ≡ unroll_course 10 (codes "i") (codes "o")
unroll_goes = refl

no_words_go : course [] ≡ Ends (says (status.Usage usage.NoCommand))
no_words_go = refl

-- ---- steps
steps_are_three : number_given (pairs_of (codes "--steps" ∷ codes "3" ∷ [])) option.Steps ≡ Some 3
steps_are_three = refl

no_steps : number_given (pairs_of classes_values) option.Steps ≡ None
no_steps = refl

-- without a number of steps nothing stays open, and with four steps the search at 4 is not short
never_open : (pairs : List Pair) (I : Instance) (L H : ℕ) → MayStayOpen verb.Solve pairs None I L H → ⊥
never_open pairs I L H h = h

least_is_never_open : (pairs : List Pair) (I : Instance) (L H : ℕ) → MayStayOpen verb.Least pairs None I L H → ⊥
least_is_never_open pairs I L H h = h

open_with_three : MayStayOpen verb.Solve (pairs_of (core_values (codes "4"))) (Some 3) small_below 4 5
open_with_three = short_of_four_steps 3 (lit≤ tt)

decided_with_four : (L H : ℕ) → MayStayOpen verb.Solve (pairs_of (core_values (codes "4"))) (Some 4) small_below L H → ⊥
decided_with_four = four_of_four

-- ---- which capacity a command decides
solve_decides_its_own : Decides verb.Solve (pairs_of (core_values (codes "8"))) 8
solve_decides_its_own = refl

pack_decides_what_is_given : Decides verb.Pack (pairs_of (pack_within (codes "8"))) 8
pack_decides_what_is_given = refl

pack_decides_none : (C : ℕ) → Decides verb.Pack (pairs_of pack_values) C → ⊥
pack_decides_none C e = absurd cc

pack_seeks_the_least : SeeksLeast verb.Pack (pairs_of pack_values)
pack_seeks_the_least = refl

pack_seeks_none : SeeksLeast verb.Pack (pairs_of (pack_within (codes "8"))) → ⊥
pack_seeks_none e = absurd cc

-- ---- ends
ends_round_4 : AreEnds small_below (number_given (pairs_of (pack_within (codes "4"))) option.Capacity) 4 5
ends_round_4 = record {
  from_bound = (let e = below_bound in omega arith);
  to_best = (let e = best_at_5 in omega arith);
  between = (lit≤ tt, lit< tt);
}

ends_without_a_capacity : AreEnds small_below (number_given (pairs_of pack_values) option.Capacity) 4 5
ends_without_a_capacity = record {
  from_bound = (let e = below_bound in omega arith);
  to_best = (let e = best_at_5 in omega arith);
  between = tt;
}

not_past_the_best : (within : Option ℕ) → AreEnds small_below within 4 6 → ⊥
not_past_the_best within h = let e = best_at_5 in let le = h.to_best in omega (arith, e, le)

-- ---- statuses
accepted_at_its_own : IsAcceptance verb.Refute sample (status.Accepted 4)
accepted_at_its_own = refl

accepted_at_no_other : IsAcceptance verb.Refute sample (status.Accepted 3) → ⊥
accepted_at_no_other e = omega (arith, e)

refused_is_not_accepted : (v : Verb) → IsAcceptance v sample (status.LogRefused (refused.Text text.NotLog)) → ⊥
refused_is_not_accepted verb.Refute h = h
refused_is_not_accepted v h = h

-- its sixth line is needless
trimmed_to_five : IsAcceptance verb.Trim with_extra (status.Trimmed 6 5)
trimmed_to_five = (refl, (sample, sample_is_trim, refl))

not_trimmed_of_five : IsAcceptance verb.Trim with_extra (status.Trimmed 5 5) → ⊥
not_trimmed_of_five h = let e : 5 ≡ 6 = h.0 in omega (arith, e)

not_trimmed_to_six : IsAcceptance verb.Trim with_extra (status.Trimmed 6 6) → ⊥
not_trimmed_to_six h =
    let e : 6 ≡ length h.1.0.lines = h.1.2 in
    let same = ap (λ (log : Log). length log.lines) (one_trim with_extra h.1.0 sample h.1.1 sample_is_trim) in
    omega (arith, e, same)

upgraded_whole : IsAcceptance verb.Upgrade sample (status.Upgraded 5)
upgraded_whole = refl

upgrade_accepts_with_no_capacity : IsAcceptance verb.Upgrade sample (status.Accepted 4) → ⊥
upgrade_accepts_with_no_capacity h = h

misused_for_its_fault : IsMisuse usage.NoCommand (status.Usage usage.NoCommand)
misused_for_its_fault = refl

misused_for_no_other : IsMisuse usage.NoCommand (status.Usage usage.SameName) → ⊥
misused_for_no_other e = absurd cc

misused_is_not_malformed : IsMisuse usage.NoCommand (status.Malformed instance.NoHeader) → ⊥
misused_is_not_malformed h = h

report_judges_at_the_greatest : (pairs : List Pair) → IsJudgedAt verb.Report pairs 1152921504606846976
report_judges_at_the_greatest pairs = refl

draw_judges_at_the_greatest : (pairs : List Pair) → IsJudgedAt verb.Draw pairs 1152921504606846976
draw_judges_at_the_greatest pairs = refl

upgrade_checks_its_log : IsChecking verb.Upgrade
upgrade_checks_its_log = inr (inl refl)

solve_checks_none : IsChecking verb.Solve → ⊥
solve_checks_none (inl is) = cc
solve_checks_none (inr none) = none

refute_judges_none : (pairs : List Pair) (C : ℕ) → IsJudgedAt verb.Refute pairs C → ⊥
refute_judges_none pairs C h = h

concluded_by_the_plan : (pairs : List Pair) → IsConclusion verb.Classes pairs one (status.Classed 1 1)
concluded_by_the_plan pairs = one_plain

concluded_by_the_first_rough : (pairs : List Pair) → IsConclusion verb.Classes pairs two_of_four (status.NotPlain 0)
unfolding first_rough
concluded_by_the_first_rough pairs = refl

not_by_a_layout : (pairs : List Pair) → IsConclusion verb.Classes pairs one (status.Feasible 1) → ⊥
not_by_a_layout pairs h = h

concluded_by_the_picture : (pairs : List Pair) → IsConclusion verb.Draw pairs two (status.Drawn 2)
concluded_by_the_picture pairs = tt

not_concluded_by_a_report : (pairs : List Pair) → IsConclusion verb.Draw pairs two status.Shown → ⊥
not_concluded_by_a_report pairs h = h.2

concluded_by_the_columns : (pairs : List Pair) → IsConclusion verb.Inspect pairs two status.Shown
concluded_by_the_columns pairs = (two_rows, inspect_text two_rows two, refl)

inspect_judges_nothing : (pairs : List Pair) → IsConclusion verb.Inspect pairs two status.Right → ⊥
inspect_judges_nothing pairs h = h

-- whatever the instance, a file without a header is refused as no circle, and never as malformed
concluded_by_a_fault : (pairs : List Pair) →
    IsConclusion verb.Unroll pairs two (status.CycleRefused (cycle.Instance instance.NoHeader))
concluded_by_a_fault pairs = tt

unroll_is_never_malformed : (pairs : List Pair) →
    IsConclusion verb.Unroll pairs two (status.Malformed instance.NoHeader) → ⊥
unroll_is_never_malformed pairs h = h

-- it prints nothing of an instance alone
unroll_reports_nothing : (pairs : List Pair) → IsConclusion verb.Unroll pairs two status.Shown → ⊥
unroll_reports_nothing pairs h = h.2

concluded_by_layout : IsConclusion verb.Solve (pairs_of (core_values (codes "8"))) two (status.Feasible 8)
concluded_by_layout = (refl, (0 ∷ 4 ∷ [], laid_at_8))

concluded_by_refutation : IsConclusion verb.Solve (pairs_of (core_values (codes "7"))) two (status.Infeasible 7)
concluded_by_refutation = (refl, none_at_7)

not_at_another_capacity : IsConclusion verb.Solve (pairs_of (core_values (codes "8"))) two (status.Feasible 9) → ⊥
not_at_another_capacity h = let e : 9 ≡ 8 = h.0 in omega (arith, e)

packed_within_8 : IsConclusion verb.Pack (pairs_of (pack_within (codes "8"))) two (status.Feasible 8)
packed_within_8 = (refl, (0 ∷ 4 ∷ [], laid_at_8))

packed_by_refutation : IsConclusion verb.Pack (pairs_of (pack_within (codes "7"))) two (status.Infeasible 7)
packed_by_refutation = (refl, none_at_7)

packed_within_no_other : IsConclusion verb.Pack (pairs_of pack_values) two (status.Feasible 8) → ⊥
packed_within_no_other h = absurd (let e = h.0 in cc)

concluded_by_the_core : IsConclusion verb.Core (pairs_of (core_values (codes "7"))) two (status.Core 2)
concluded_by_the_core = none_at_7

concluded_without_core : IsConclusion verb.Core (pairs_of (core_values (codes "8"))) two (status.NoCore 8)
concluded_without_core = (refl, (0 ∷ 4 ∷ [], laid_at_8))

trial_of_4096 : IsConclusion verb.Trial (pairs_of (trial_values (codes "4096"))) two status.Shown
trial_of_4096 = lit≤ tt

too_many : IsConclusion verb.Trial (pairs_of (trial_values (codes "4097"))) two (status.TooMany 4097)
too_many = (refl, lit< tt)

not_too_many : IsConclusion verb.Trial (pairs_of (trial_values (codes "4096"))) two (status.TooMany 4096) → ⊥
not_too_many h = let k : 4096 < 4096 = h.1 in omega (arith, k)
