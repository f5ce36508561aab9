-- Which of several right answers a run gives, and what its steps have to do with it. With `solve` and `least` the
-- layout that is written is the plan; a log is without waste; where a number of steps is given, a layout that no start
-- gives comes only where it is 1 or more, and a log at a capacity that the lower bound leaves open has no more lines;
-- 'open' comes only where the steps may be too few. With `pack` a log is without needless lines, and is the bound's or
-- has no more lines than steps; the ends of 'open' are no worse than the lower bound and the best start.
use Rattle.std.specs.Prelude.{◌≡◌, ℕ, List, Option}
use Rattle.dsa_terms.specs.Logs.{Log}
use Rattle.dsa_outside.specs.Seen.{FilesSeen}
use Rattle.command_words.specs.Options.{Word}
use Rattle.run_status.specs.declared.status.Status.{Status}
use Rattle.run_status.specs.declared.status.Status.TheVariants as status
use Rattle.run_course.specs.Answers.{with_writes}
use Rattle.writings.specs.Answers.{answer_files}
use Rattle.dsaplan_core.specs.Courses.{IsAnswer, names_in}
use Rattle.dsaplan_core.specs.Theorem.{Asked}

-- the command that decides answers with the status and with the layout and the log that are written
abbrev pub IsAnswered : List Word → FilesSeen → FilesSeen → Status → Type 0
IsAnswered words old new s = (a : Asked words old) × (layout : Option (List ℕ)) × (log : Option Log)
    × IsAnswer a.verb a.pairs a.instance s layout log
    × (new.held ≡ with_writes old.held (answer_files (names_in a.pairs) a.table layout log))

-- which answer the status is
abbrev pub Choice : List Word → FilesSeen → FilesSeen → Status → Type 0
Choice words old new (status.Feasible C) = IsAnswered words old new (status.Feasible C)
Choice words old new (status.Infeasible C) = IsAnswered words old new (status.Infeasible C)
Choice words old new (status.Least C) = IsAnswered words old new (status.Least C)
Choice words old new (status.Open L H) = IsAnswered words old new (status.Open L H)
Choice words old new status = Unit {0}
