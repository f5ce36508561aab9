-- How a course concludes where nothing outside it goes wrong.
use Rattle.std.specs.Prelude.{◌≡◌, ◌≤◌, ℕ, List, length, Some}
use Rattle.dsa_outside.specs.Held.{file_at}
use Rattle.dsa_model.specs.Counts.{Rose}
use Rattle.command_words.specs.Options.{Word}
use Rattle.command_words.specs.Roles.{limit_of}
use Rattle.command_words.specs.declared.role.Role.{Role}
use Rattle.dsa_outside.specs.Seen.{FilesSeen}
use Rattle.run_status.specs.Spoken.{IsSpoken}
use Rattle.run_status.specs.declared.status.Status.{Status}
use Rattle.run_course.specs.Course.{Course, Concludes, Reads, Outcome}

-- the name holds bytes, and no more than a file of this role may have
pub record IsReadable (files : FilesSeen) (role : Role) (name : Word) : Type 0 where
  pub bytes : List ℕ
  pub held : file_at files.held name ≡ Some bytes
  pub short : length bytes ≤ limit_of role

-- the name's number of faults did not rise
abbrev pub IsCalm : FilesSeen → FilesSeen → Word → Type 0
IsCalm old new name = ¬ Rose (old.faults name) (new.faults name)

-- the course concludes with this status from what the files hold, where each file that it reads is readable
abbrev pub ConcludesOn : FilesSeen → Course → Status → Type 0
ConcludesOn files (Concludes allowed) status =
    (outcome : Outcome) × IsSpoken outcome.status × allowed outcome × (status ≡ outcome.status)
ConcludesOn files (Reads role name next) status =
    (file : IsReadable files role name) → ConcludesOn files (next file.bytes) status
