-- How the commands go that print something of an instance.
use Rattle.std.specs.Prelude.{◌≡◌, ◌++◌, ℕ, List, Option, Some, Ok, Bool, true, false, nat_lt}
use Rattle.dsa_terms.specs.Buffers.{Instance}
use Rattle.dsa_terms.specs.Logs.{Log}
use Rattle.dsa_model.specs.Buffer.{buffer_limit}
use Rattle.csv_instance.specs.Records.{Record, table_of}
use Rattle.csv_instance.specs.Parse.{parse}
use Rattle.column_report.specs.Report.{inspect_text}
use Rattle.layout_report.specs.Facts.{bounds_text}
use Rattle.layout_report.specs.declared.facts.Facts.{Facts}
use Rattle.make_instance.specs.Made.{made_text}
use Rattle.planner.specs.InstanceFacts.{AreFactsOf}
use Rattle.command_words.specs.Options.{Word}
use Rattle.command_words.specs.declared.verb.Verb.{Verb}
use Rattle.command_words.specs.declared.verb.Verb.TheVariants as verb
use Rattle.run_status.specs.Lines.{line}
use Rattle.run_status.specs.declared.status.Status.{Status}
use Rattle.run_status.specs.declared.status.Status.TheVariants as status
use Rattle.run_course.specs.Course.{Course, Outcome, Concludes, Ends, says, shows}
use Rattle.readings.specs.Input.{opened}
use Rattle.deciding.specs.Deciding.{IsSought}

-- the text is what the command prints of its instance alone, if it prints such a text: `bounds` its facts, `inspect`
-- how many buffers ask for something more, and what each column of the table's header means
abbrev pub IsReport : Verb → List Record → Instance → List ℕ → Type 0
IsReport verb.Bounds table I text = (facts : Facts) × AreFactsOf I facts × (text ≡ bounds_text facts)
IsReport verb.Inspect table I text = text ≡ inspect_text table I
IsReport verb table I text = ⊥

-- such a text is shown
pub record ShowsReport (v : Verb) (table : List Record) (I : Instance) (o : Outcome) : Type 0 where
  pub text : List ℕ
  pub report : IsReport v table I text
  pub shown : o ≡ shows text

-- how such a command goes
abbrev pub reporting : Verb → (input : Word) → Course
reporting v input = opened input (λ table I. Concludes (ShowsReport v table I))

-- the verdict on the least capacity of the instance with k units: the status that `least` answers
abbrev pub IsVerdict : Instance → ℕ → Status → Type 0
IsVerdict I k s = (layout : Option (List ℕ)) × (log : Option Log) × IsSought I (Some k) s layout log

-- the facts of the instance that is made of so many buffers from the seed are shown, and the verdict on it
pub record ShowsTrial (seed count steps : ℕ) (o : Outcome) : Type 0 where
  pub instance : Instance
  pub facts : Facts
  pub verdict : Status
  pub made : parse (table_of (made_text seed count)) ≡ Ok instance
  pub true_facts : AreFactsOf instance facts
  pub true_verdict : IsVerdict instance steps verdict
  pub shown : o ≡ shows (bounds_text facts ++ line verdict)

-- goes on where there are not too many
abbrev pub unless_many : Bool → ℕ → Course → Course
unless_many true count next = Ends (says (status.TooMany count))
unless_many false count next = next

-- how `trial` goes: it reads nothing
abbrev pub trial : (seed count steps : ℕ) → Course
trial seed count steps =
    unless_many (nat_lt buffer_limit count) count (Concludes (ShowsTrial seed count steps))
