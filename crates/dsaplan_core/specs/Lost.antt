-- What is left where a file could not be read, is too long, or could not be written.
use Rattle.std.specs.Prelude.{◌≡◌, ◌∷◌, ◌++◌, List, IsSome, Ok}
use Rattle.dsa_terms.specs.Claims.{IsIn}
use Rattle.dsa_outside.specs.Held.{without_file}
use Rattle.dsa_outside.specs.Seen.{FilesSeen}
use Rattle.dsa_model.specs.Counts.{Rose}
use Rattle.command_words.specs.Options.{Word}
use Rattle.command_words.specs.Forms.{reads_of, writes_of}
use Rattle.command_words.specs.Requests.{Request, request_of}
use Rattle.command_words.specs.declared.role.Role.{Role}
use Rattle.command_words.specs.Pairs.{name_in}
use Rattle.run_course.specs.Readings.{HoldsMore, IsUnread}
use Rattle.run_course.specs.Course.{Comes, Outcome, Write}
use Rattle.run_course.specs.Answers.{with_writes}
use Rattle.dsaplan_core.specs.Courses.{course_with}

-- the file of the role is one that the command reads, and it could not be read
pub record MissesFile (words : List Word) (old new : FilesSeen) (role : Role) : Type 0 where
  pub request : Request
  pub asked : request_of words ≡ Ok request
  pub read : IsIn role (reads_of request.verb)
  pub cause : IsUnread old new (name_in request.pairs role)
  pub files : new.held ≡ old.held

-- the file of the role is one that the command reads, and where it is told what files hold, more bytes than it may
pub record HasLongFile (words : List Word) (old new : FilesSeen) (role : Role) : Type 0 where
  pub request : Request
  pub asked : request_of words ≡ Ok request
  pub read : IsIn role (reads_of request.verb)
  pub long : IsSome old.held → HoldsMore old role (name_in request.pairs role)
  pub files : new.held ≡ old.held

-- the write is of a file that the command writes, under the name that the words give it
abbrev pub IsOwnWrite : Request → Write → Type 0
IsOwnWrite r w = IsIn w.role (writes_of r.verb) × (w.name ≡ name_in r.pairs w.role)

-- the command came to an outcome whose writes were made up to that of the role, which failed: the number of its own
-- name rose, nothing is known of what that file holds, and all others hold what the writes before it leave
pub record LosesFile (words : List Word) (old new : FilesSeen) (role : Role) : Type 0 where
  pub request : Request
  pub outcome : Outcome
  pub made : List Write
  pub lost : Write
  pub rest : List Write
  pub asked : request_of words ≡ Ok request
  pub comes : Comes old new (course_with request.verb request.pairs) outcome
  pub order : outcome.writes ≡ made ++ (lost ∷ rest)
  pub its_role : lost.role ≡ role
  pub own : IsOwnWrite request lost
  pub rose : Rose (old.faults lost.name) (new.faults lost.name)
  pub others : without_file new.held lost.name ≡ without_file (with_writes old.held made) lost.name
