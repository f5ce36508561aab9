-- How each command goes.
use Rattle.std.specs.Prelude.{ℕ, List, Option, Result, Ok, Err}
use Rattle.dsa_terms.specs.Buffers.{Instance}
use Rattle.dsa_terms.specs.Logs.{Log as LogTerm}
use Rattle.csv_instance.specs.Records.{Record}
use Rattle.command_words.specs.Options.{Word}
use Rattle.command_words.specs.Pairs.{Pair, name_in, number_at, number_given}
use Rattle.command_words.specs.Requests.{Request, request_of}
use Rattle.command_words.specs.declared.option.OptionName.TheVariants.{Capacity, Steps, Seed, Count, Period}
use Rattle.command_words.specs.declared.role.Role.TheVariants.{Input, Output, Log, Layout, Trace}
use Rattle.command_words.specs.declared.verb.Verb.{Verb}
use Rattle.command_words.specs.declared.verb.Verb.TheVariants as verb
use Rattle.command_words.specs.declared.fault.UsageFault.{UsageFault}
use Rattle.run_status.specs.declared.status.Status.{Status}
use Rattle.run_status.specs.declared.status.Status.TheVariants.{Usage}
use Rattle.run_course.specs.Course.{Concludes, Course, Ends, Outcome, says}
use Rattle.readings.specs.Input.{opened}
use Rattle.judging.specs.Judging.{report, verify}
use Rattle.judging.specs.Drawing.{draw}
use Rattle.checking.specs.Checking.{refute, trim, upgrade}
use Rattle.fact_reports.specs.Reporting.{ShowsReport, trial}
use Rattle.importing.specs.Importing.{import_course}
use Rattle.importing.specs.Unrolling.{unroll_course}
use Rattle.planning.specs.Planning.{Plans}
use Rattle.writings.specs.Answers.{Gives}
use Rattle.writings.specs.Writings.{Names}
use Rattle.explaining.specs.Explaining.{ExplainsOrFits}
use Rattle.deciding.specs.Deciding.{IsSolved, IsSought}
use Rattle.packing.specs.Packing.{IsPacked}

-- the names that the pairs give the files of a command that decides
abbrev pub names_in : List Pair → Names
names_in pairs = record { input = name_in pairs Input; output = name_in pairs Output; log = name_in pairs Log }

-- what a command that decides answers of an instance: a status, with a layout and a log where it has them
abbrev pub IsAnswer : Verb → List Pair → Instance → Status → Option (List ℕ) → Option LogTerm → Type 0
IsAnswer verb.Solve pairs I = IsSolved I (number_at pairs Capacity) (number_given pairs Steps)
IsAnswer verb.Least pairs I = IsSought I (number_given pairs Steps)
IsAnswer verb.Pack pairs I = IsPacked I (number_given pairs Capacity) (number_at pairs Steps)
IsAnswer verb pairs I = λ status layout log. ⊥

-- with which outcomes a command concludes that reads its instance alone, by the table and the instance
abbrev pub ConcludesWith : Verb → List Pair → List Record → Instance → Outcome → Type 0
ConcludesWith verb.Solve pairs = λ table I. Gives (IsAnswer verb.Solve pairs I) (names_in pairs) table
ConcludesWith verb.Least pairs = λ table I. Gives (IsAnswer verb.Least pairs I) (names_in pairs) table
ConcludesWith verb.Pack pairs = λ table I. Gives (IsAnswer verb.Pack pairs I) (names_in pairs) table
ConcludesWith verb.Classes pairs = Plans (name_in pairs Output)
ConcludesWith verb.Core pairs = ExplainsOrFits (number_at pairs Capacity) (names_in pairs)
ConcludesWith verb pairs = ShowsReport verb

-- how a command goes
abbrev pub course_with : Verb → List Pair → Course
course_with verb.Verify pairs = verify (number_at pairs Capacity) (name_in pairs Input) (name_in pairs Layout)
course_with verb.Refute pairs = refute (name_in pairs Input) (name_in pairs Log)
course_with verb.Trim pairs = trim (name_in pairs Input) (name_in pairs Log) (name_in pairs Output)
course_with verb.Upgrade pairs = upgrade (name_in pairs Input) (name_in pairs Log) (name_in pairs Output)
course_with verb.Report pairs = report (name_in pairs Input) (name_in pairs Layout)
course_with verb.Draw pairs = draw (name_in pairs Input) (name_in pairs Layout) (name_in pairs Output)
course_with verb.Trial pairs = trial (number_at pairs Seed) (number_at pairs Count) (number_at pairs Steps)
course_with verb.Import pairs = import_course (name_in pairs Trace) (name_in pairs Output)
course_with verb.Unroll pairs = unroll_course (number_at pairs Period) (name_in pairs Input) (name_in pairs Output)
course_with verb pairs = opened (name_in pairs Input) (λ table I. Concludes (ConcludesWith verb pairs table I))

-- how words go: as their command, or their first fault is told
abbrev pub course_or_fault : Result Request UsageFault → Course
course_or_fault (Ok request) = course_with request.verb request.pairs
course_or_fault (Err fault) = Ends (says (Usage fault))

-- how words go
abbrev pub course : List Word → Course
course words = course_or_fault (request_of words)
