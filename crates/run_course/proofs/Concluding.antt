-- What follows from an answer for every command.
use Rattle.std.proofs.Common.{◌≡◌, ℕ, ◌≤◌, List, length, Option, IsSome, Some, None, refl, sym, subst, inl, inr, arith}
use Rattle.dsa_outside.specs.Held.{FileMap, file_at, IsMissing}
use Rattle.command_words.specs.Options.{Word}
use Rattle.command_words.specs.declared.role.Role.{Role}
use Rattle.command_words.specs.Roles.{limit_of}
use Rattle.run_status.specs.declared.status.Status.{Status}
use Rattle.run_status.specs.declared.status.Status.TheVariants as status
use Rattle.dsa_outside.specs.Seen.{FilesSeen, SinkSeen}
use Rattle.run_course.specs.Readings.{HoldsMore}
use Rattle.run_course.specs.Course.{Course, Concludes, Reads, Comes, Outcome}
use Rattle.run_course.specs.Answers.{IsSaid, Leaves, as_told, with_writes}
use Rattle.run_course.specs.Complete.{IsCalm, IsReadable, ConcludesOn}

-- the outcome that the run came to, with all its files written
pub record Came (course : Course) (old new : FilesSeen) (s : Status) : Type 0 where
  pub outcome : Outcome
  pub comes : Comes old new course outcome
  pub its_status : outcome.status ≡ s
  pub files : new.held ≡ with_writes old.held outcome.writes

told_all : (course : Course) (old new : FilesSeen) (s : Status) (o : Outcome) (lost : Option Role) →
    Comes old new course o → Leaves old new o.writes lost → s ≡ (as_told o lost).status →
    ((role : Role) → s ≡ status.WriteFault role → ⊥) → Came course old new s
told_all course old new s o None comes left is kept =
    record { outcome = o; comes = comes; its_status = sym is; files = left }
told_all course old new s o (Some role) comes left is kept = absurd (kept role is)

-- a status of a command's own comes of an outcome
pub came : (course : Course) (old new : FilesSeen) (before after : SinkSeen) (s : Status) →
    ((role : Role) → s ≡ status.WriteFault role → ⊥) → IsSaid course old new before after s → Came course old new s
came course old new before after s kept said =
    told_all course old new s said.tells.outcome said.tells.lost said.tells.comes said.tells.files
    said.tells.its_status kept

same_bytes : (held : Option FileMap) (name : Word) (bytes seen : List ℕ) → file_at held name ≡ Some bytes →
    (IsSome held → file_at held name ≡ Some seen) → bytes ≡ seen
same_bytes None name bytes seen one two = cc
same_bytes (Some m) name bytes seen one two = let e = two refl in cc

not_missing : (held : Option FileMap) (name : Word) (bytes : List ℕ) → file_at held name ≡ Some bytes →
    IsMissing held name → ⊥
not_missing None name bytes one missing = missing
not_missing (Some m) name bytes one missing = cc

is_told : (held : Option FileMap) (name : Word) (bytes : List ℕ) → file_at held name ≡ Some bytes → IsSome held
is_told None name bytes one = cc
is_told (Some m) name bytes one = refl

too_long : (files : FilesSeen) (role : Role) (name : Word) → IsReadable files role name → HoldsMore files role name → ⊥
too_long files role name file more =
    let e : file.bytes ≡ more.bytes = same_bytes files.held name file.bytes more.bytes file.held (λ told. more.held) in
    let short : length more.bytes ≤ limit_of role = subst (λ b. length b ≤ limit_of role) e file.short in
    omega (arith, short, more.long)

-- no call failed on a file that the course may read
abbrev pub IsServed : FilesSeen → FilesSeen → Course → Type 0
IsServed old new (Concludes allowed) = Unit {0}
IsServed old new (Reads role name next) =
    IsCalm old new name × ((bytes : List ℕ) → IsServed old new (next bytes))

-- where no call on its files failed, the course concludes with the status of the outcome that it comes to
pub concludes_on : (old new : FilesSeen) (course : Course) (o : Outcome) → IsServed old new course →
    Comes old new course o → ConcludesOn old course o.status
concludes_on old new (Concludes allowed) o served comes = (o, comes.0, comes.1, refl)
concludes_on old new (Reads role name next) o served (inl (inl (is, inl rose), same)) =
    λ file. absurd (served.0 rose)
concludes_on old new (Reads role name next) o served (inl (inl (is, inr missing), same)) =
    λ file. absurd (not_missing old.held name file.bytes file.held missing)
concludes_on old new (Reads role name next) o served (inl (inr (is, more), same)) =
    λ file. absurd (too_long old role name file (more (is_told old.held name file.bytes file.held)))
concludes_on old new (Reads role name next) o served (inr (bytes, whole, comes)) = λ file.
    let e : file.bytes ≡ bytes = same_bytes old.held name file.bytes bytes file.held whole.held in
    concludes_on old new (next file.bytes) o (served.1 file.bytes)
    (subst (λ b. Comes old new (next b) o) (sym e) comes)
