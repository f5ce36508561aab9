-- By which statuses each command is concluded.
use Rattle.std.specs.Prelude.{◌≡◌, ◌≤◌, ◌<◌, ℕ, List, Option, None, Some}
use Rattle.dsa_terms.specs.Buffers.{Instance}
use Rattle.dsa_terms.specs.Layouts.{IsFeasible, IsInfeasible, IsLeast}
use Rattle.dsa_model.specs.Buffer.{buffer_limit}
use Rattle.size_classes.specs.Plain.{IsPlain, first_rough}
use Rattle.csv_instance.specs.Records.{Record}
use Rattle.command_words.specs.Pairs.{Pair, number_at, number_given}
use Rattle.command_words.specs.declared.option.OptionName.TheVariants as option
use Rattle.command_words.specs.declared.verb.Verb.{Verb}
use Rattle.command_words.specs.declared.verb.Verb.TheVariants as verb
use Rattle.run_status.specs.declared.status.Status.{Status}
use Rattle.run_status.specs.declared.status.Status.TheVariants as status
use Rattle.fact_reports.specs.Reporting.{IsReport}
use Rattle.packing.specs.Packing.{AreEnds}
use Rattle.planner.specs.Shortage.{IsShortOfHunt, IsShortOfWork}

-- so many steps may run out on the instance, and leave its least capacity between L and H
abbrev pub MayStayOpen : Verb → List Pair → Option ℕ → Instance → ℕ → ℕ → Type 0
MayStayOpen verb.Solve pairs (Some k) I L H = IsShortOfWork I (number_at pairs option.Capacity) k L H
MayStayOpen verb.Least pairs (Some k) I L H = IsShortOfHunt I k L H
MayStayOpen verb pairs steps I L H = ⊥

-- the statuses that conclude a command on an instance: a layout where there is one and a refutation where there is
-- none, the least capacity, or neither where the command's steps are too few, or `pack` did not find out; a plan where
-- all buffers are plain, a core where they do not fit; a report where the command has one; or memory ran out
abbrev pub IsConclusion : Verb → List Pair → Instance → Status → Type 0
IsConclusion verb.Solve pairs I (status.Feasible C) = (C ≡ number_at pairs option.Capacity) × IsFeasible I C
IsConclusion verb.Solve pairs I (status.Infeasible C) = (C ≡ number_at pairs option.Capacity) × IsInfeasible I C
IsConclusion verb.Solve pairs I (status.Open L H) = MayStayOpen verb.Solve pairs (number_given pairs option.Steps) I L H
IsConclusion verb.Least pairs I (status.Least C) = IsLeast I C
IsConclusion verb.Least pairs I (status.Open L H) = MayStayOpen verb.Least pairs (number_given pairs option.Steps) I L H
IsConclusion verb.Pack pairs I (status.Feasible C) = (number_given pairs option.Capacity ≡ Some C) × IsFeasible I C
IsConclusion verb.Pack pairs I (status.Infeasible C) = (number_given pairs option.Capacity ≡ Some C) × IsInfeasible I C
IsConclusion verb.Pack pairs I (status.Least C) = (number_given pairs option.Capacity ≡ None) × IsLeast I C
IsConclusion verb.Pack pairs I (status.Open L H) = AreEnds I (number_given pairs option.Capacity) L H
IsConclusion verb.Verify pairs I status.Right = Unit {0}
IsConclusion verb.Verify pairs I (status.Wrong cause) = Unit {0}
IsConclusion verb.Refute pairs I (status.Accepted C) = Unit {0}
IsConclusion verb.Refute pairs I (status.LogRefused cause) = Unit {0}
IsConclusion verb.Trim pairs I (status.Trimmed before after) = Unit {0}
IsConclusion verb.Trim pairs I (status.LogRefused cause) = Unit {0}
IsConclusion verb.Upgrade pairs I (status.Upgraded lines) = Unit {0}
IsConclusion verb.Upgrade pairs I (status.LogRefused cause) = Unit {0}
IsConclusion verb.Report pairs I status.Shown = Unit {0}
IsConclusion verb.Report pairs I (status.Wrong cause) = Unit {0}
IsConclusion verb.Draw pairs I (status.Drawn count) = Unit {0}
IsConclusion verb.Draw pairs I (status.Wrong cause) = Unit {0}
IsConclusion verb.Trial pairs I status.Shown = number_at pairs option.Count ≤ buffer_limit
IsConclusion verb.Trial pairs I (status.TooMany n) =
    (n ≡ number_at pairs option.Count) × (buffer_limit < number_at pairs option.Count)
IsConclusion verb.Import pairs I (status.Imported count) = Unit {0}
IsConclusion verb.Import pairs I (status.TraceRefused fault) = Unit {0}
IsConclusion verb.Unroll pairs I (status.Unrolled count) = Unit {0}
IsConclusion verb.Unroll pairs I (status.CycleRefused fault) = Unit {0}
IsConclusion verb.Classes pairs I (status.Classed height load) = IsPlain I
IsConclusion verb.Classes pairs I (status.NotPlain b) = first_rough I ≡ Some b
IsConclusion verb.Core pairs I (status.Core count) = IsInfeasible I (number_at pairs option.Capacity)
IsConclusion verb.Core pairs I (status.NoCore C) = (C ≡ number_at pairs option.Capacity) × IsFeasible I C
IsConclusion verb pairs I status.Shown = (table : List Record) × (text : List ℕ) × IsReport verb table I text
IsConclusion verb pairs I status.NoMemory = Unit {0}
IsConclusion verb pairs I status = ⊥
