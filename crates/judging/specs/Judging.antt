-- How the commands go that judge a layout file.
use Rattle.std.specs.Prelude.{◌≡◌, ℕ, List}
use Rattle.dsa_terms.specs.Buffers.{Instance}
use Rattle.dsa_terms.specs.Layouts.{IsLayout}
use Rattle.dsa_model.specs.Limits.{number_limit}
use Rattle.csv_instance.specs.Records.{Record}
use Rattle.layout_report.specs.Report.{IsReportOf}
use Rattle.command_words.specs.Options.{Word}
use Rattle.run_status.specs.declared.status.Status.TheVariants.{Right}
use Rattle.run_course.specs.Course.{Course, Outcome, Concludes, says, shows}
use Rattle.readings.specs.Input.{opened}
use Rattle.readings.specs.Judging.{judged}

-- the offsets are a layout at the capacity, and this is told
pub record TellsRight (I : Instance) (capacity : ℕ) (offsets : List ℕ) (o : Outcome) : Type 0 where
  pub layout : IsLayout I capacity offsets
  pub told : o ≡ says Right

-- how `verify` goes: the layout is judged at the capacity, in bytes
abbrev pub verify : (capacity : ℕ) (input layout : Word) → Course
verify capacity input layout =
    opened input (λ table I. judged layout table I capacity (λ offsets. Concludes (TellsRight I capacity offsets)))

-- the offsets are a layout at the greatest capacity, and its tightest moment is shown
pub record ShowsLayout (table : List Record) (I : Instance) (offsets : List ℕ) (o : Outcome) : Type 0 where
  pub layout : IsLayout I number_limit offsets
  pub text : List ℕ
  pub its_text : IsReportOf table I offsets text
  pub shown : o ≡ shows text

-- how `report` goes: the layout is judged at the greatest capacity
abbrev pub report : (input layout : Word) → Course
report input layout =
    opened input (λ table I. judged layout table I number_limit (λ offsets. Concludes (ShowsLayout table I offsets)))
