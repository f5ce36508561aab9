-- What a run promises of each outcome of its command.
use Rattle.std.proofs.Common.{◌≡◌, List, [], ◌∷◌, Ok}
use Rattle.dsa_terms.specs.Buffers.{Instance}
use Rattle.dsa_outside.specs.Seen.{FilesSeen}
use Rattle.csv_instance.specs.Records.{Record}
use Rattle.command_words.specs.Options.{Word}
use Rattle.command_words.specs.Requests.{Request, request_of}
use Rattle.command_words.specs.Pairs.{name_in}
use Rattle.command_words.specs.declared.role.Role.TheVariants as role
use Rattle.run_status.specs.declared.status.Status.{Status}
use Rattle.run_status.specs.declared.status.Status.TheVariants as status
use Rattle.run_course.specs.Course.{Outcome, Write}
use Rattle.run_course.specs.Answers.{with_writes}
use Rattle.readings.specs.Opens.{IsInput}
use Rattle.dsaplan_core.specs.Theorem.{Asked}
use Rattle.dsaplan_core.specs.Causes.{IsCaused}
use Rattle.dsaplan_core.specs.Choice.{Choice}
use Rattle.dsaplan_core.specs.Lost.{HasLongFile, IsOwnWrite, LosesFile, MissesFile}
use Rattle.dsaplan_core.specs.Shown.{Tells}
use Rattle.dsaplan_core.proofs.Promised.{Promised}

-- all writes are of files that the command writes
abbrev pub AreOwn : Request → List Write → Type 0
AreOwn r [] = Unit {0}
AreOwn r (w ∷ ws) = IsOwnWrite r w × AreOwn r ws

-- which file a status blames, and for what; and why it refuses
abbrev pub Blames : List Word → FilesSeen → FilesSeen → Status → Type 0
Blames words old new (status.ReadFault role) = MissesFile words old new role
Blames words old new (status.TooLong role) = HasLongFile words old new role
Blames words old new (status.WriteFault role) = LosesFile words old new role
Blames words old new s = IsCaused words old new s

-- what is promised once the outcome is written; its writes are of files that the command writes
abbrev pub Promises : List Word → FilesSeen → FilesSeen → Request → Outcome → Type 0
Promises words old new r o = (new.held ≡ with_writes old.held o.writes →
    Promised words old new o.status × Choice words old new o.status × Tells words old new o.status o.text
    × Blames words old new o.status)
    × AreOwn r o.writes

-- what the words ask for, with the instance of the input
abbrev pub asked : (words : List Word) (old : FilesSeen) (r : Request) → request_of words ≡ Ok r →
    (table : List Record) (I : Instance) → IsInput old (name_in r.pairs role.Input) table I → Asked words old
asked words old r is table I input = record {
  verb = r.verb;
  pairs = r.pairs;
  table = table;
  instance = I;
  words_ask = is;
  input = input;
}
