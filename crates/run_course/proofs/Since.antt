-- What a part of a run found, seen from the start of the run and from its end: what files hold stays until the first
-- write, and no count falls.
use Rattle.std.proofs.Common.{◌≡◌, ℕ, ◌≤◌, inl, inr, List, IsSome, Some, sym, subst, arith}
use Rattle.dsa_outside.specs.Held.{file_at, IsMissing}
use Rattle.dsa_outside.specs.Faults.{NoneFell}
use Rattle.dsa_model.specs.Counts.{Rose}
use Rattle.command_words.specs.Options.{Word}
use Rattle.command_words.specs.declared.role.Role.{Role}
use Rattle.run_status.specs.declared.status.Status.{Status}
use Rattle.dsa_outside.specs.Seen.{FilesSeen}
use Rattle.run_course.specs.Readings.{IsWholeFile, HoldsMore, IsUnread}
use Rattle.run_course.specs.Course.{Course, Concludes, Reads, Comes, Outcome, IsUnreadable}

pub rose_since : (a b c : ℕ) → a ≤ b → Rose b c → Rose a c
rose_since a b c le (inl more) = inl (omega (arith, le, more))
rose_since a b c le (inr end) = inr end

pub rose_until : (a b c : ℕ) → b ≤ c → Rose a b → Rose a c
rose_until a b c le (inl more) = inl (omega (arith, le, more))
rose_until a b c le (inr end) = inr (omega (arith, le, end))

pub whole_since : (old mid : FilesSeen) (role : Role) (name : Word) (bytes : List ℕ) → mid.held ≡ old.held →
    IsWholeFile mid role name bytes → IsWholeFile old role name bytes
whole_since old mid role name bytes same whole = record {
  held = subst (λ h. IsSome h → file_at h name ≡ Some bytes) same whole.held;
  short = whole.short;
}

unread_since : (old mid new : FilesSeen) (name : Word) → mid.held ≡ old.held → NoneFell old.faults mid.faults →
    IsUnread mid new name → IsUnread old new name
unread_since old mid new name same none (inl rose) =
    inl (rose_since (old.faults name) (mid.faults name) (new.faults name) (none name) rose)
unread_since old mid new name same none (inr missing) = inr (subst (λ h. IsMissing h name) same missing)

unread_until : (old mid new : FilesSeen) (name : Word) → NoneFell mid.faults new.faults →
    IsUnread old mid name → IsUnread old new name
unread_until old mid new name none (inl rose) =
    inl (rose_until (old.faults name) (mid.faults name) (new.faults name) (none name) rose)
unread_until old mid new name none (inr missing) = inr missing

more_since : (old mid : FilesSeen) (role : Role) (name : Word) → mid.held ≡ old.held →
    (IsSome mid.held → HoldsMore mid role name) → IsSome old.held → HoldsMore old role name
more_since old mid role name same more told =
    let m = more (subst IsSome (sym same) told) in
    record { bytes = m.bytes; held = subst (λ h. file_at h name ≡ Some m.bytes) same m.held; long = m.long }

pub unreadable_since : (old mid new : FilesSeen) (role : Role) (name : Word) (s : Status) →
    mid.held ≡ old.held → NoneFell old.faults mid.faults →
    IsUnreadable mid new role name s → IsUnreadable old new role name s
unreadable_since old mid new role name s same none (inl is) =
    inl (is.0, unread_since old mid new name same none is.1)
unreadable_since old mid new role name s same none (inr is) = inr (is.0, more_since old mid role name same is.1)

unreadable_until : (old mid new : FilesSeen) (role : Role) (name : Word) (s : Status) →
    NoneFell mid.faults new.faults → IsUnreadable old mid role name s → IsUnreadable old new role name s
unreadable_until old mid new role name s none (inl is) = inl (is.0, unread_until old mid new name none is.1)
unreadable_until old mid new role name s none (inr is) = inr is

-- what the rest of a course comes to, seen from the start of the run
pub comes_since : (old mid new : FilesSeen) (course : Course) (o : Outcome) → mid.held ≡ old.held →
    NoneFell old.faults mid.faults → Comes mid new course o → Comes old new course o
comes_since old mid new (Concludes allowed) o same none comes = comes
comes_since old mid new (Reads role name next) o same none (inl failed) =
    inl (unreadable_since old mid new role name o.status same none failed.0, failed.1)
comes_since old mid new (Reads role name next) o same none (inr read) =
    inr (
      read.0,
      whole_since old mid role name read.0 same read.1,
      comes_since old mid new (next read.0) o same none read.2,
    )

-- what a course came to, seen from the end of the run
pub comes_until : (old mid new : FilesSeen) (course : Course) (o : Outcome) →
    NoneFell mid.faults new.faults → Comes old mid course o → Comes old new course o
comes_until old mid new (Concludes allowed) o none comes = comes
comes_until old mid new (Reads role name next) o none (inl failed) =
    inl (unreadable_until old mid new role name o.status none failed.0, failed.1)
comes_until old mid new (Reads role name next) o none (inr read) =
    inr (read.0, read.1, comes_until old mid new (next read.0) o none read.2)
