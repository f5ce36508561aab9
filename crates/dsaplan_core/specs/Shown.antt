-- What is printed.
use Rattle.std.specs.Prelude.{◌≡◌, ◌≤◌, ◌⊎◌, ◌++◌, ℕ, List, Ok}
use Rattle.dsa_terms.specs.Buffers.{Instance}
use Rattle.dsa_model.specs.Buffer.{buffer_limit}
use Rattle.dsa_model.specs.Limits.{number_limit}
use Rattle.dsa_outside.specs.Held.{with_text}
use Rattle.dsa_outside.specs.Seen.{FilesSeen, SinkSeen}
use Rattle.csv_instance.specs.Records.{table_of}
use Rattle.csv_instance.specs.Parse.{parse}
use Rattle.layout_report.specs.Facts.{bounds_text}
use Rattle.layout_report.specs.Report.{IsReportOf}
use Rattle.layout_report.specs.declared.facts.Facts.{Facts}
use Rattle.make_instance.specs.Made.{made_text}
use Rattle.planner.specs.InstanceFacts.{AreFactsOf}
use Rattle.command_words.specs.Options.{Word}
use Rattle.command_words.specs.Pairs.{Pair, number_at}
use Rattle.command_words.specs.Requests.{request_of}
use Rattle.command_words.specs.declared.option.OptionName.TheVariants as option
use Rattle.command_words.specs.declared.verb.Verb.TheVariants as verb
use Rattle.run_status.specs.Lines.{line}
use Rattle.run_status.specs.declared.status.Status.{Status}
use Rattle.run_status.specs.declared.status.Status.TheVariants as status
use Rattle.fact_reports.specs.Reporting.{IsReport, IsVerdict}
use Rattle.dsaplan_core.specs.Theorem.{Asked}
use Rattle.dsaplan_core.specs.Judged.{GivesLayoutAt}

-- the tightest moment of the layout that the layout file gives
pub record TellsLayout {words : List Word} {old : FilesSeen} (a : Asked words old) (text : List ℕ) : Type 0 where
  pub command : a.verb ≡ verb.Report
  pub offsets : List ℕ
  pub given : GivesLayoutAt a number_limit offsets
  pub its_text : IsReportOf a.table a.instance offsets text

-- the facts of the made instance, and the verdict on it
pub record TellsTrial (words : List Word) (text : List ℕ) : Type 0 where
  pub pairs : List Pair
  pub instance : Instance
  pub facts : Facts
  pub verdict : Status
  pub asked : request_of words ≡ Ok (record { verb = verb.Trial; pairs = pairs })
  pub few : number_at pairs option.Count ≤ buffer_limit
  pub made : parse (table_of (made_text (number_at pairs option.Seed) (number_at pairs option.Count))) ≡ Ok instance
  pub true_facts : AreFactsOf instance facts
  pub true_verdict : IsVerdict instance (number_at pairs option.Steps) verdict
  pub its_text : text ≡ bounds_text facts ++ line verdict

-- the text is the line of the status, or, where a report is shown, what the command prints of the input's instance
-- alone, of the layout that the layout file gives, or of the made instance, and the files are as before
abbrev pub Tells : List Word → FilesSeen → FilesSeen → Status → List ℕ → Type 0
Tells words old new status.Shown text = (new.held ≡ old.held)
    × (((a : Asked words old) × IsReport a.verb a.table a.instance text)
    ⊎ ((a : Asked words old) × TellsLayout a text) ⊎ TellsTrial words text)
Tells words old new status text = text ≡ line status

-- the text of the status has been printed whole, after what stood in the sink
pub record Shows (words : List Word) (old new : FilesSeen) (before after : SinkSeen) (status : Status) : Type 0 where
  pub text : List ℕ
  pub tells : Tells words old new status text
  pub printed : after.content ≡ with_text before.content text
