-- What is promised where a layout file or a log's file is judged. With 'right' and 'drawn' the layout file gives a
-- layout; with 'accepted', 'trimmed' and 'upgraded' the log's file says an accepted log, and no layout fits within its
-- capacity. What is drawn is a picture of that layout; what is trimmed says the lines of that log that its end needs,
-- which are accepted too; and what is upgraded says that log in the second version of its text.
use Rattle.std.specs.Prelude.{◌≡◌, ℕ, List, length}
use Rattle.dsa_terms.specs.Logs.{Log, IsAccepted}
use Rattle.dsa_terms.specs.Trims.{IsTrimOf}
use Rattle.dsa_model.specs.Limits.{number_limit}
use Rattle.dsa_outside.specs.Held.{with_file}
use Rattle.dsa_outside.specs.Seen.{FilesSeen}
use Rattle.csv_instance.specs.Offsets.{ids_of}
use Rattle.layout_picture.specs.Rectangles.{rectangles}
use Rattle.layout_picture.specs.Texts.{picture_text}
use Rattle.log_text.specs.RawTexts.{IsTextOf}
use Rattle.log_text.specs.Says.{Says}
use Rattle.log_text.specs.Spellings.{log_text2}
use Rattle.log_text.specs.Text.{log_text, raw_log_of}
use Rattle.command_words.specs.Options.{Word}
use Rattle.command_words.specs.Pairs.{name_in, number_at}
use Rattle.command_words.specs.declared.option.OptionName.TheVariants as option
use Rattle.command_words.specs.declared.verb.Verb.TheVariants as verb
use Rattle.command_words.specs.declared.role.Role.TheVariants as role
use Rattle.readings.specs.GivenLayouts.{GivesLayout}
use Rattle.readings.specs.GivenLogs.{HoldsAccepted}
use Rattle.run_status.specs.declared.status.Status.{Status}
use Rattle.run_status.specs.declared.status.Status.TheVariants as status
use Rattle.dsaplan_core.specs.Theorem.{Asked}

-- the layout file that was read gives these offsets, which are a layout at the capacity
abbrev pub GivesLayoutAt : {words : List Word} {old : FilesSeen} → Asked words old → ℕ → List ℕ → Type 0
GivesLayoutAt {words} {old} a C offsets = GivesLayout old (name_in a.pairs role.Layout) a.table a.instance C offsets

-- the log's file that was read says this log, which is accepted
abbrev pub GivesLog : {words : List Word} {old : FilesSeen} → Asked words old → Log → Type 0
GivesLog {words} {old} a log = HoldsAccepted old (name_in a.pairs role.Log) a.instance log

-- the output holds the text of the log trimmed, which has that many lines and is accepted too
pub record HoldsTrimmed {words : List Word} {old : FilesSeen} (a : Asked words old) (new : FilesSeen)
    (log : Log) (lines : ℕ) : Type 0 where
  pub trim : Log
  pub is_trim : IsTrimOf log trim
  pub count : length trim.lines ≡ lines
  pub accepted : IsAccepted a.instance trim
  pub readable : IsTextOf (log_text trim) (raw_log_of trim)
  pub files : new.held ≡ with_file old.held (name_in a.pairs role.Output) (log_text trim)

-- the output holds the log's text of version 2, which says it
pub record HoldsUpgraded {words : List Word} {old : FilesSeen} (a : Asked words old) (new : FilesSeen)
    (log : Log) : Type 0 where
  pub readable : Says (log_text2 log) (raw_log_of log)
  pub files : new.held ≡ with_file old.held (name_in a.pairs role.Output) (log_text2 log)

-- the layout file gives a layout, and the output holds its picture, with so many rectangles
pub record HoldsPicture {words : List Word} {old : FilesSeen} (a : Asked words old) (new : FilesSeen)
    (count : ℕ) : Type 0 where
  pub offsets : List ℕ
  pub given : GivesLayoutAt a number_limit offsets
  pub its_count : length (rectangles a.instance offsets) ≡ count
  pub files : new.held ≡ with_file old.held (name_in a.pairs role.Output)
      (picture_text a.instance (ids_of a.table) offsets)

-- what the status promises of a layout or a log that was given, and of what is made of it
abbrev pub Judged : List Word → FilesSeen → FilesSeen → Status → Type 0
Judged words old new status.Right = (a : Asked words old) × (a.verb ≡ verb.Verify)
    × ((offsets : List ℕ) × GivesLayoutAt a (number_at a.pairs option.Capacity) offsets) × (new.held ≡ old.held)
Judged words old new (status.Accepted C) = (a : Asked words old) × (a.verb ≡ verb.Refute)
    × ((log : Log) × GivesLog a log × (log.capacity ≡ C)) × (new.held ≡ old.held)
Judged words old new (status.Trimmed before after) = (a : Asked words old) × (a.verb ≡ verb.Trim)
    × ((log : Log) × GivesLog a log × (length log.lines ≡ before) × HoldsTrimmed a new log after)
Judged words old new (status.Upgraded lines) = (a : Asked words old) × (a.verb ≡ verb.Upgrade)
    × ((log : Log) × GivesLog a log × (length log.lines ≡ lines) × HoldsUpgraded a new log)
Judged words old new (status.Drawn count) = (a : Asked words old) × (a.verb ≡ verb.Draw) × HoldsPicture a new count
Judged words old new status = Unit {0}
