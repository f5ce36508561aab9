-- How a command goes: it reads files, one after the other, and concludes from what they hold.
use Rattle.std.specs.Prelude.{◌≡◌, ◌⊎◌, ℕ, List, [], IsSome}
use Rattle.command_words.specs.Options.{Word}
use Rattle.command_words.specs.declared.role.Role.{Role}
use Rattle.run_status.specs.Lines.{line}
use Rattle.run_status.specs.Spoken.{IsSpoken}
use Rattle.run_status.specs.declared.status.Status.{Status}
use Rattle.run_status.specs.declared.status.Status.TheVariants.{ReadFault, Shown, TooLong}
use Rattle.dsa_outside.specs.Seen.{FilesSeen}
use Rattle.run_course.specs.Readings.{IsWholeFile, HoldsMore, IsUnread}

-- a file that is written: its part in the command, its name, and its new bytes
pub record Write : Type 0 where
  pub role : Role
  pub name : Word
  pub bytes : List ℕ

-- what a command concludes: how the run ends, the text that is printed, and what is written before, in order
pub record Outcome : Type 0 where
  pub status : Status
  pub text : List ℕ
  pub writes : List Write

-- nothing is written, and the status is told by its line
abbrev pub says : Status → Outcome
says status = record { status = status; text = line status; writes = [] }

-- these files are written, and then the status is told by its line
abbrev pub writes : List Write → Status → Outcome
writes files status = record { status = status; text = line status; writes = files }

-- nothing is written, and a report with this text is printed
abbrev pub shows : List ℕ → Outcome
shows text = record { status = Shown; text = text; writes = [] }

-- how a command goes (an interaction tree, as Xia and others have it): it concludes with one of some outcomes, or it
-- reads the file of a role, and goes on as its bytes say
pub data Course : Type 1 where
  Concludes : (Outcome → Type 0) → Course
  Reads : Role → Word → (List ℕ → Course) → Course

-- the command concludes with this outcome alone
abbrev pub Ends : Outcome → Course
Ends outcome = Concludes (λ o. o ≡ outcome)

-- the file of this role could not be read, or holds more bytes than it may, as the status says
abbrev pub IsUnreadable : FilesSeen → FilesSeen → Role → Word → Status → Type 0
IsUnreadable old new role name status =
    ((status ≡ ReadFault role) × IsUnread old new name)
    ⊎ ((status ≡ TooLong role) × (IsSome old.held → HoldsMore old role name))

-- on these files the course comes to this outcome: its own, whose status is spoken, or that of the first file that
-- could not be read whole
abbrev pub Comes : FilesSeen → FilesSeen → Course → Outcome → Type 0
Comes old new (Concludes allowed) outcome = IsSpoken outcome.status × allowed outcome
Comes old new (Reads role name next) outcome =
    (IsUnreadable old new role name outcome.status × (outcome ≡ says outcome.status))
    ⊎ ((bytes : List ℕ) × IsWholeFile old role name bytes × Comes old new (next bytes) outcome)
