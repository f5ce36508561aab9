-- Which answers a run may give where nothing outside it goes wrong.
use Rattle.std.specs.Prelude.{◌≡◌, ℕ, List, length, Some, Ok, Err}
use Rattle.dsa_terms.specs.Buffers.{Instance}
use Rattle.dsa_terms.specs.Claims.{IsIn}
use Rattle.dsa_terms.specs.Layouts.{IsLayout}
use Rattle.dsa_terms.specs.Logs.{Log, IsAccepted}
use Rattle.dsa_terms.specs.Trims.{IsTrimOf}
use Rattle.dsa_outside.specs.Held.{file_at}
use Rattle.dsa_outside.specs.Seen.{FilesSeen, SinkSeen}
use Rattle.dsa_model.specs.Counts.{Rose}
use Rattle.csv_instance.specs.Offsets.{ids_of, parsed_offsets}
use Rattle.csv_instance.specs.Records.{Record, table_of}
use Rattle.csv_instance.specs.Parse.{parse}
use Rattle.csv_instance.specs.declared.fault.InstanceFault.{InstanceFault}
use Rattle.layout_picture.specs.Rectangles.{rectangles}
use Rattle.log_text.specs.Says.{Says}
use Rattle.log_text.specs.Text.{raw_log_of}
use Rattle.command_words.specs.Options.{Word}
use Rattle.command_words.specs.Forms.{ReadsInstance, reads_of}
use Rattle.command_words.specs.Requests.{Request, names_of}
use Rattle.command_words.specs.declared.verb.Verb.{Verb}
use Rattle.command_words.specs.declared.verb.Verb.TheVariants as verb
use Rattle.command_words.specs.declared.role.Role.{Role}
use Rattle.command_words.specs.Pairs.{name_in}
use Rattle.command_words.specs.declared.role.Role.TheVariants as role
use Rattle.run_course.specs.Complete.{ConcludesOn, IsCalm, IsReadable}
use Rattle.readings.specs.Opens.{IsInput}
use Rattle.run_status.specs.declared.status.Status.{Status}
use Rattle.run_status.specs.declared.status.Status.TheVariants as status
use Rattle.run_status.specs.declared.status.LogCause.{LogCause}
use Rattle.run_status.specs.declared.status.WrongCause.{WrongCause}
use Rattle.dsaplan_core.specs.Courses.{course_with}

-- the name holds this instance
pub record HoldsInstance (I : Instance) (files : FilesSeen) (name : Word) : Type 0 where
  pub file : IsReadable files role.Input name
  pub parsed : parse (table_of file.bytes) ≡ Ok I

-- the name holds bytes that are no instance, for this fault first
pub record HoldsNoInstance (fault : InstanceFault) (files : FilesSeen) (name : Word) : Type 0 where
  pub file : IsReadable files role.Input name
  pub refused : parse (table_of file.bytes) ≡ Err fault

-- the status says that the input is malformed, for this fault, or that memory ran out
abbrev pub IsMalformedFor : InstanceFault → Status → Type 0
IsMalformedFor fault (status.Malformed told) = told ≡ fault
IsMalformedFor fault status.NoMemory = Unit {0}
IsMalformedFor fault status = ⊥

-- the status says that the file of the role is too long, or that memory ran out
abbrev pub IsTooLongFor : Role → Status → Type 0
IsTooLongFor role (status.TooLong told) = told ≡ role
IsTooLongFor role status.NoMemory = Unit {0}
IsTooLongFor role status = ⊥

-- each file that the command reads is readable, and the instance, if it reads one, is this
pub record IsReady (seen : FilesSeen) (r : Request) (I : Instance) : Type 0 where
  pub files : (file : Role) → IsIn file (reads_of r.verb) → IsReadable seen file (name_in r.pairs file)
  pub input : ReadsInstance r.verb → HoldsInstance I seen (name_in r.pairs role.Input)

-- the name holds bytes that say this log, which is accepted for the instance
pub record HoldsLog (I : Instance) (log : Log) (files : FilesSeen) (name : Word) : Type 0 where
  pub bytes : List ℕ
  pub held : file_at files.held name ≡ Some bytes
  pub says : Says bytes (raw_log_of log)
  pub accepted : IsAccepted I log

-- the status says that the command accepted the log, with the log's capacity, the numbers of lines of the log and of
-- its trim, or the number of its lines; or that memory ran out
abbrev pub IsAcceptance : Verb → Log → Status → Type 0
IsAcceptance verb.Refute log (status.Accepted C) = C ≡ log.capacity
IsAcceptance verb.Trim log (status.Trimmed before after) = (before ≡ length log.lines)
    × ((trim : Log) × IsTrimOf log trim × (after ≡ length trim.lines))
IsAcceptance verb.Upgrade log (status.Upgraded lines) = lines ≡ length log.lines
IsAcceptance verb log status.NoMemory = Unit {0}
IsAcceptance verb log status = ⊥

-- the status says that the log is refused, for this cause, or that memory ran out
abbrev pub IsRefusedFor : LogCause → Status → Type 0
IsRefusedFor cause (status.LogRefused told) = told ≡ cause
IsRefusedFor cause status.NoMemory = Unit {0}
IsRefusedFor cause status = ⊥

-- the layout file holds bytes that give the buffers of the input's table these offsets, which are a layout of the
-- instance at the capacity
pub record HoldsGivenLayout (seen : FilesSeen) (r : Request) (I : Instance) (C : ℕ) (offsets : List ℕ) : Type 0 where
  pub table : List Record
  pub input : IsInput seen (name_in r.pairs role.Input) table I
  pub bytes : List ℕ
  pub held : file_at seen.held (name_in r.pairs role.Layout) ≡ Some bytes
  pub parsed : parsed_offsets (ids_of table) (table_of bytes) ≡ Ok offsets
  pub layout : IsLayout I C offsets

-- the status says that the command took the layout for one, and with a picture how many rectangles it has; or that
-- memory ran out
abbrev pub IsApproval : Verb → Instance → List ℕ → Status → Type 0
IsApproval verb.Verify I offsets status.Right = Unit {0}
IsApproval verb.Report I offsets status.Shown = Unit {0}
IsApproval verb.Draw I offsets (status.Drawn count) = count ≡ length (rectangles I offsets)
IsApproval verb I offsets status.NoMemory = Unit {0}
IsApproval verb I offsets status = ⊥

-- the status says that the layout file is wrong, for this cause, or that memory ran out
abbrev pub IsWrongFor : WrongCause → Status → Type 0
IsWrongFor cause (status.Wrong told) = told ≡ cause
IsWrongFor cause status.NoMemory = Unit {0}
IsWrongFor cause status = ⊥

-- no number of faults rose, of a name of the command or of the sink
pub record IsUndisturbed (r : Request) (old new : FilesSeen) (before after : SinkSeen) : Type 0 where
  pub files : (name : Word) → IsIn name (names_of r) → IsCalm old new name
  pub sink : ¬ Rose before.faults after.faults

-- the command concludes with the status from what its files hold, where they are readable, or memory ran out
abbrev pub IsConcluded : FilesSeen → Request → Status → Type 0
IsConcluded seen r status.NoMemory = Unit {0}
IsConcluded seen r s = ConcludesOn seen (course_with r.verb r.pairs) s
