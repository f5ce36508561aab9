-- Why a run refuses: its words, the number of a trial's buffers, the bytes of its input, of its layout file or of its
-- log's file. Nothing is written then.
use Rattle.std.specs.Prelude.{◌≡◌, ◌<◌, ◌⊎◌, ℕ, List, Ok, Err}
use Rattle.dsa_model.specs.Buffer.{buffer_limit}
use Rattle.dsa_terms.specs.Claims.{IsIn}
use Rattle.dsa_model.specs.Limits.{number_limit}
use Rattle.dsa_outside.specs.Seen.{FilesSeen}
use Rattle.csv_instance.specs.declared.fault.InstanceFault.{InstanceFault}
use Rattle.command_words.specs.Forms.{ReadsInstance, reads_of}
use Rattle.command_words.specs.Options.{Word}
use Rattle.command_words.specs.Pairs.{Pair, name_in, number_at}
use Rattle.command_words.specs.Requests.{Request, request_of}
use Rattle.command_words.specs.declared.option.OptionName.TheVariants as option
use Rattle.command_words.specs.declared.verb.Verb.{Verb}
use Rattle.command_words.specs.declared.verb.Verb.TheVariants as verb
use Rattle.command_words.specs.declared.fault.UsageFault.{UsageFault}
use Rattle.command_words.specs.declared.role.Role.TheVariants as role
use Rattle.readings.specs.Opens.{IsMalformed}
use Rattle.readings.specs.GivenLayouts.{GivesNoOffsets, GivesWrongOffsets}
use Rattle.readings.specs.GivenLogs.{HoldsNoText, HoldsNoRefutation}
use Rattle.run_status.specs.declared.status.Status.{Status}
use Rattle.run_status.specs.declared.status.Status.TheVariants as status
use Rattle.run_status.specs.declared.status.WrongCause.{WrongCause}
use Rattle.run_status.specs.declared.status.LogCause.{LogCause}
use Rattle.dsaplan_core.specs.Theorem.{Asked}

-- the words are no command, for this fault first
pub record AreNoCommand (words : List Word) (old new : FilesSeen) (fault : UsageFault) : Type 0 where
  pub refused : request_of words ≡ Err fault
  pub files : new.held ≡ old.held

-- the words ask for a trial of so many buffers, which are more than an instance may have
pub record AskTooMany (words : List Word) (old new : FilesSeen) (count : ℕ) : Type 0 where
  pub pairs : List Pair
  pub words_ask : request_of words ≡ Ok (record { verb = verb.Trial; pairs = pairs })
  pub its_count : number_at pairs option.Count ≡ count
  pub many : buffer_limit < count
  pub files : new.held ≡ old.held

-- the command reads an instance, and the bytes of its input are none, for this fault first
pub record RefusesInput (words : List Word) (old new : FilesSeen) (fault : InstanceFault) : Type 0 where
  pub request : Request
  pub words_ask : request_of words ≡ Ok request
  pub read : ReadsInstance request.verb
  pub malformed : IsMalformed old (name_in request.pairs role.Input) fault
  pub files : new.held ≡ old.held

-- the command judges a layout file, at this capacity
abbrev pub IsJudgedAt : Verb → List Pair → ℕ → Type 0
IsJudgedAt verb.Verify pairs C = C ≡ number_at pairs option.Capacity
IsJudgedAt verb.Report pairs C = C ≡ number_limit
IsJudgedAt verb.Draw pairs C = C ≡ number_limit
IsJudgedAt verb pairs C = ⊥

-- the layout file gives no offsets, or none that are a layout at the capacity, for this cause
pub record RefusesLayout (words : List Word) (old new : FilesSeen) (cause : WrongCause) : Type 0 where
  pub asked : Asked words old
  pub capacity : ℕ
  pub judged : IsJudgedAt asked.verb asked.pairs capacity
  pub wrong : GivesNoOffsets old (name_in asked.pairs role.Layout) asked.table (status.Wrong cause)
      ⊎ GivesWrongOffsets old (name_in asked.pairs role.Layout) asked.table asked.instance capacity
      (status.Wrong cause)
  pub files : new.held ≡ old.held

-- the command reads a log's file, which it then checks
abbrev pub IsChecking : Verb → Type 0
IsChecking v = IsIn role.Log (reads_of v)

-- the log's file says no log, or one that is not accepted, for this cause
pub record RefusesLog (words : List Word) (old new : FilesSeen) (cause : LogCause) : Type 0 where
  pub asked : Asked words old
  pub checked : IsChecking asked.verb
  pub refused : HoldsNoText old (name_in asked.pairs role.Log) (status.LogRefused cause)
      ⊎ HoldsNoRefutation old (name_in asked.pairs role.Log) asked.instance (status.LogRefused cause)
  pub files : new.held ≡ old.held

-- why a status refuses, where it does
abbrev pub IsCaused : List Word → FilesSeen → FilesSeen → Status → Type 0
IsCaused words old new (status.Usage fault) = AreNoCommand words old new fault
IsCaused words old new (status.TooMany count) = AskTooMany words old new count
IsCaused words old new (status.Malformed fault) = RefusesInput words old new fault
IsCaused words old new (status.Wrong cause) = RefusesLayout words old new cause
IsCaused words old new (status.LogRefused cause) = RefusesLog words old new cause
IsCaused words old new s = Unit {0}
