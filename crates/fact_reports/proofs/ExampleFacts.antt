-- The reports of two buffers whose best start ends at 5, and whose lower bound and least capacity are 4; and trials.
use Rattle.std.proofs.Common.{◌≡◌, ◌≤◌, ℕ, zero, suc, List, [], ◌∷◌, ◌++◌, Some, None, codes, refl, sym, ap, lit≤, arith}
use Rattle.std.specs.Fmt.{digits}
use Rattle.dsa_terms.specs.Bounds.{stack_log}
use Rattle.dsa_terms.specs.Buffers.{Instance, buffer, do_share, is_live, some_before}
use Rattle.dsa_terms.specs.Parts.{is_cut, part_of, parts, is_leader, are_parted, are_uncut}
use Rattle.dsa_terms.specs.Plans.{load}
use Rattle.dsa_terms.proofs.Examples.{plain, small_below}
use Rattle.dsa_model.proofs.Live.{not_live_after}
use Rattle.dsa_outside.specs.Seen.{FilesSeen}
use Rattle.column_report.proofs.ExampleFacts.{two_told}
use Rattle.csv_instance.specs.Parse.{parse}
use Rattle.csv_instance.specs.Records.{Record, table_of}
use Rattle.csv_instance.proofs.FileFacts.{two, two_rows}
use Rattle.layout_report.specs.Facts.{bounds_text}
use Rattle.layout_report.specs.declared.facts.Facts.{Facts}
use Rattle.load_profile.specs.LoadProfile.{IsPeakOf}
use Rattle.make_instance.proofs.TextLemmas.{table-read}
use Rattle.planner.specs.InstanceFacts.{AreFactsOf}
use Rattle.planner.proofs.ExampleFacts.{facts_of_none, no_facts}
use Rattle.planner.proofs.ExampleLeastFacts.{below_bound, below_modulus}
use Rattle.planner.proofs.StepFacts.{best_at_5}
use Rattle.command_words.specs.declared.verb.Verb.TheVariants as verb
use Rattle.command_words.specs.declared.role.Role.TheVariants as role
use Rattle.run_status.specs.declared.status.Status.TheVariants as status
use Rattle.run_course.specs.Course.{Comes, Concludes, Outcome, Reads, says, shows}
use Rattle.readings.specs.Input.{instance_or_fault}
use Rattle.deciding.proofs.LeastFacts.{found_0, found_4, left_open}
use Rattle.fact_reports.specs.Reporting.{IsReport, IsVerdict, ShowsReport, ShowsTrial, reporting, trial}

-- ---- the peak
below_load : load small_below 0 ≡ 4
unfolding load is_live
below_load = refl

-- nothing is live after the first moment
later_load : (s : ℕ) → load small_below (suc s) ≡ 0
unfolding load
later_load s = rw (
  not_live_after (plain 0 1 3 1) (suc s) (omega arith),
  not_live_after (plain 0 1 1 4) (suc s) (omega arith),
) refl

below_peak : IsPeakOf small_below (Some (0, 4))
below_peak = (
  record { not_empty = λ e. absurd cc; most = most; earliest = λ s lt. absurd (omega arith) },
  sym below_load,
)
  where
    most : (s : ℕ) → load small_below s ≤ load small_below 0
    most zero = omega arith
    most (suc s) = omega (arith, later_load s)

-- ---- the facts
abbrev below_facts : Facts
below_facts = record { buffers = 2; peak = Some (0, 4); parts = 1; bound = 4; modulus = 1; best = 5 }

one_part : AreFactsOf small_below below_facts
unfolding parts part_of is_leader are_uncut are_parted is_cut do_share some_before is_live buffer
one_part = record {
  buffers = refl;
  peak = below_peak;
  parts = refl;
  bound = sym below_bound;
  modulus = sym below_modulus;
  best = sym best_at_5;
}

below_text : bounds_text below_facts ≡ codes "buffers 2\npeak 0 4\nparts 1\nbound 4 1\nbest 5\n"
unfolding digits
below_text = refl

abbrev below_lines : List ℕ
below_lines = codes "buffers 2\npeak 0 4\nparts 1\nbound 4 1\nbest 5\n"

shows_below : (table : List Record) → ShowsReport verb.Bounds table small_below (shows below_lines)
shows_below table = record { text = below_lines; report = (below_facts, one_part, sym below_text); shown = refl }

none_text : bounds_text no_facts ≡ codes "buffers 0\npeak none\nparts 0\nbound 0 1\nbest 0\n"
unfolding digits
none_text = refl

abbrev none_lines : List ℕ
none_lines = codes "buffers 0\npeak none\nparts 0\nbound 0 1\nbest 0\n"

shows_none : (table : List Record) → ShowsReport verb.Bounds table [] (shows none_lines)
shows_none table = record { text = none_lines; report = (no_facts, facts_of_none, sym none_text); shown = refl }

-- a report is shown, and the status is not another
not_as_right : (table : List Record) → ShowsReport verb.Bounds table [] (says status.Right) → ⊥
not_as_right table h = let e = ap (λ (o : Outcome). o.status) h.shown in absurd cc

-- ---- columns
abbrev two_lines : List ℕ
two_lines =
    codes "buffers 2 of 4096 aligned 0 gaps 0 lowest 0\ncolumn,meaning\nid,id\nlower,lower\nupper,upper\n"
    ++ codes "size,size\nalignment,alignment\n"

shows_columns : ShowsReport verb.Inspect two_rows two (shows two_lines)
shows_columns = record { text = two_lines; report = sym two_told; shown = refl }

-- the columns are shown, and the status is not another
not_silently : ShowsReport verb.Inspect two_rows two (says status.Right) → ⊥
not_silently h = let e = ap (λ (o : Outcome). o.status) h.shown in absurd cc

-- nothing else is the report of the columns
not_without_text : IsReport verb.Inspect two_rows two [] → ⊥
not_without_text e = let told = two_told in absurd cc

-- ---- commands without a report
verify_reports_nothing : (table : List Record) (I : Instance) (text : List ℕ) → IsReport verb.Verify table I text → ⊥
verify_reports_nothing table I text h = h

verify_shows_nothing : (table : List Record) (I : Instance) (o : Outcome) → ShowsReport verb.Verify table I o → ⊥
verify_shows_nothing table I o h = h.report

-- ---- how reports go
bounds_reads_its_input : reporting verb.Bounds (codes "i") ≡ Reads role.Input (codes "i")
    (λ bytes. instance_or_fault (parse (table_of bytes))
    (λ I. Concludes (ShowsReport verb.Bounds (table_of bytes) I)))
bounds_reads_its_input = refl

-- ---- the verdict of a trial
four_is_a_verdict : IsVerdict small_below 4 (status.Least 4)
four_is_a_verdict = (Some (1 ∷ 0 ∷ []), Some (stack_log small_below 0 0 1 3), found_4 4 (lit≤ tt))

open_is_a_verdict : IsVerdict small_below 0 (status.Open 4 5)
open_is_a_verdict = (Some (0 ∷ 4 ∷ []), Some (stack_log small_below 0 0 1 3), left_open 0 (lit≤ tt))

-- a verdict is of the least capacity
no_verdict : IsVerdict small_below 4 (status.Feasible 4) → ⊥
no_verdict h = h.2

-- ---- a trial without buffers
abbrev none_shown : Outcome
none_shown = shows (codes "buffers 0\npeak none\nparts 0\nbound 0 1\nbest 0\nleast 0\n")

trial_text : codes "buffers 0\npeak none\nparts 0\nbound 0 1\nbest 0\nleast 0\n"
    ≡ bounds_text no_facts ++ codes "least 0\n"
unfolding digits
trial_text = refl

shows_trial : ShowsTrial 7 0 5 none_shown
unfolding digits
shows_trial = record {
  instance = [];
  facts = no_facts;
  verdict = status.Least 0;
  made = ap parse (table-read 7 0 (lit≤ tt));
  true_facts = facts_of_none;
  true_verdict = (Some [], None, found_0 5);
  shown = ap shows trial_text;
}

-- ---- how trials go
module _ (old new : FilesSeen) where
  goes_without_buffers : Comes old new (trial 7 0 5) none_shown
  goes_without_buffers = (tt, shows_trial)

  goes_with_too_many : Comes old new (trial 7 4097 5) (says (status.TooMany 4097))
  goes_with_too_many = (tt, refl)

  -- 4096 are not too many
  not_too_many : Comes old new (trial 7 4096 5) (says (status.TooMany 4096)) → ⊥
  not_too_many h = let e = ap (λ (o : Outcome). o.status) h.1.shown in absurd cc
