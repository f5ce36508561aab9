-- What reading one file comes to.
use Rattle.std.specs.Prelude.{◌≡◌, ◌≤◌, ◌<◌, ◌⊎◌, ℕ, List, length, Some, IsSome}
use Rattle.dsa_outside.specs.Held.{IsMissing, file_at}
use Rattle.dsa_outside.specs.Seen.{FilesSeen}
use Rattle.dsa_model.specs.Counts.{Rose}
use Rattle.command_words.specs.Options.{Word}
use Rattle.command_words.specs.Roles.{limit_of}
use Rattle.command_words.specs.declared.role.Role.{Role}

-- these are all bytes of the file, where that is told, and no more than one of this role may have
pub record IsWholeFile (files : FilesSeen) (role : Role) (name : Word) (bytes : List ℕ) : Type 0 where
  pub held : IsSome files.held → file_at files.held name ≡ Some bytes
  pub short : length bytes ≤ limit_of role

-- the file holds more bytes than one of this role may have
pub record HoldsMore (files : FilesSeen) (role : Role) (name : Word) : Type 0 where
  pub bytes : List ℕ
  pub held : file_at files.held name ≡ Some bytes
  pub long : limit_of role < length bytes

-- a file could not be read: the number of its own name rose, or it is told that there is none of that name
abbrev pub IsUnread : FilesSeen → FilesSeen → Word → Type 0
IsUnread old new name = Rose (old.faults name) (new.faults name) ⊎ IsMissing old.held name
