-- What a run leaves of the files and the sink, by the course of its command and its status.
use Rattle.std.specs.Prelude.{◌≡◌, ◌⊎◌, ℕ, List, [], ◌∷◌, ◌++◌, Option, Some, None, take}
use Rattle.dsa_outside.specs.Held.{FileMap, with_file, without_file, with_text}
use Rattle.dsa_model.specs.Counts.{Rose}
use Rattle.command_words.specs.declared.role.Role.{Role}
use Rattle.run_status.specs.declared.status.Status.{Status}
use Rattle.run_status.specs.declared.status.Status.TheVariants.{WriteFault, PrintFault, NoMemory}
use Rattle.dsa_outside.specs.Seen.{FilesSeen, SinkSeen}
use Rattle.run_course.specs.Course.{Write, Outcome, Course, Comes, says}

-- what is held once these are written, in order
abbrev pub with_writes : Option FileMap → List Write → Option FileMap
with_writes held [] = held
with_writes held (w ∷ ws) = with_writes (with_file held w.name w.bytes) ws

-- the first writes are made, and no further one
pub record AreBegun (old new : FilesSeen) (writes : List Write) : Type 0 where
  pub made : List Write
  pub rest : List Write
  pub order : writes ≡ made ++ rest
  pub held : new.held ≡ with_writes old.held made

-- the first writes are made, and the next one, of this role, failed: the number of its own name rose and nothing is
-- known of what it holds; all other names hold what the writes before it left
pub record AreBroken (old new : FilesSeen) (writes : List Write) (role : Role) : Type 0 where
  pub made : List Write
  pub lost : Write
  pub rest : List Write
  pub order : writes ≡ made ++ (lost ∷ rest)
  pub its_role : lost.role ≡ role
  pub rose : Rose (old.faults lost.name) (new.faults lost.name)
  pub others : without_file new.held lost.name ≡ without_file (with_writes old.held made) lost.name

-- all writes are made, or the one of this role failed
abbrev pub Leaves : FilesSeen → FilesSeen → List Write → Option Role → Type 0
Leaves old new files None = new.held ≡ with_writes old.held files
Leaves old new files (Some role) = AreBroken old new files role

-- what is told: the outcome once it is written, or that the write of this role has failed
abbrev pub as_told : Outcome → Option Role → Outcome
as_told outcome None = outcome
as_told outcome (Some role) = says (WriteFault role)

-- the course comes to an outcome, whose files are written, or one is not; the status and the text tell which
pub record Tells (course : Course) (old new : FilesSeen) (status : Status) (text : List ℕ) : Type 0 where
  pub outcome : Outcome
  pub lost : Option Role
  pub comes : Comes old new course outcome
  pub files : Leaves old new outcome.writes lost
  pub its_status : status ≡ (as_told outcome lost).status
  pub its_text : text ≡ (as_told outcome lost).text

-- the text has been printed
pub record IsSaid (course : Course) (old new : FilesSeen) (before after : SinkSeen) (status : Status) : Type 0 where
  pub text : List ℕ
  pub tells : Tells course old new status text
  pub printed : after.content ≡ with_text before.content text

-- the sink did not take the text of a status, or took it in part
pub record IsUnsaid (course : Course) (old new : FilesSeen) (before after : SinkSeen) : Type 0 where
  pub status : Status
  pub text : List ℕ
  pub tells : Tells course old new status text
  pub rose : Rose before.faults after.faults
  pub taken : ℕ
  pub prefix : after.content ≡ with_text before.content (take taken text)

-- an outcome's first writes are made, or all, or one failed
pub record IsInterrupted (course : Course) (old new : FilesSeen) : Type 0 where
  pub outcome : Outcome
  pub comes : Comes old new course outcome
  pub files : AreBegun old new outcome.writes ⊎ ((lost : Option Role) × Leaves old new outcome.writes lost)

-- memory ran out: nothing is printed, and the files are as before or some writes of an outcome are made
pub record IsCutShort (course : Course) (old new : FilesSeen) (before after : SinkSeen) : Type 0 where
  pub files : (new.held ≡ old.held) ⊎ IsInterrupted course old new
  pub silent : after.content ≡ before.content

-- what a run on this course leaves of the files and the sink when it ends with the status
abbrev pub Answers : Course → FilesSeen → FilesSeen → SinkSeen → SinkSeen → Status → Type 0
Answers course old new before after PrintFault = IsUnsaid course old new before after
Answers course old new before after NoMemory = IsCutShort course old new before after
Answers course old new before after status = IsSaid course old new before after status
