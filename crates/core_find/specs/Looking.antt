-- What is known of the members while they are looked at in order.
use Rattle.std.specs.Prelude.{◌≡◌, ℕ, ◌-◌, ◌≤◌, List, [], ◌<◌, length, take, drop, slice_index, Option, Some, None}
use Rattle.std.specs.Global.{Vec}
use Rattle.std.specs.List.{All}
use Rattle.dsa_terms.specs.Buffers.{Instance}
use Rattle.dsa_terms.specs.Claims.{IsIn, Rises, buffers_of}
use Rattle.dsa_terms.specs.Layouts.{IsInfeasible}
use Rattle.dsa_terms.specs.Logs.{IsAccepted, IsLegal, Line, Log, Over, Cases, claim_of}
use Rattle.dsa_terms.specs.Parts.{numbers, whole}
use Rattle.dsa_model.specs.Chosen.{some_of}
use Rattle.core_find.specs.Carried.{IsEnd, named}
use Rattle.core_find.specs.Cores.{AreAmong, IsLeft, without}
use Rattle.core_find.specs.Found.{AreRests, rests_of}
use Rattle.core_find.specs.declared.looking.Looking.{Looking}

-- the members before a place are kept, each with a layout of the others, and those from it on are still to be looked
-- at: what is left of these is left of all
pub record IsLooked (I : Instance) (C : ℕ) (members : List ℕ) (layouts : List (List ℕ)) (place : ℕ) : Type 0 where
  pub rises : Rises members
  pub in_range : All (λ b. b < length I) members
  pub within : place ≤ length members
  pub rests : AreRests I C members layouts place
  pub left : (ms : List ℕ) → IsLeft I C (take place members) (drop place members) ms →
      IsLeft I C [] (numbers (length I)) ms

-- they are some of the members, and do not fit
pub record AreNamed (I : Instance) (C : ℕ) (members few : List ℕ) : Type 0 where
  pub rise : Rises few
  pub among : AreAmong few members
  pub do_not_fit : IsInfeasible (some_of I few) C

-- the log is accepted at C for the instance of the members
abbrev pub IsLogOf : Instance → ℕ → List ℕ → Log → Type 0
IsLogOf I C members log = IsAccepted (some_of I members) log × (log.capacity ≡ C)

-- the stack of a line is over at C with just these buffers of the instance, each with its lowest for its bound
abbrev pub IsStackOver : Instance → ℕ → Line → List ℕ → Type 0
IsStackOver I C (Over l T H G) few = IsLegal I C [] (Over (whole I few) T H G)
IsStackOver I C (Cases l cites) few = ⊥

-- the log is accepted at C for the instance, and its end names just these buffers
pub record IsLogByFew (I : Instance) (C : ℕ) (few : List ℕ) (log : Log) : Type 0 where
  pub accepted : IsAccepted I log
  pub capacity : log.capacity ≡ C
  pub names : (line : Line) → IsEnd log line → buffers_of (claim_of line) ≡ few

-- the members before some were dropped, or where none were, those that there are now
abbrev pub members_before : Option (Vec ℕ) → List ℕ → List ℕ
members_before None members = members
members_before (Some before) members = before.items

-- the members that the last log is of
abbrev pub log_members : Looking → List ℕ
log_members at = members_before at.before at.members.items

-- the members are looked at so far; the last log is of members that there were, and those that its end names are still
-- there and do not fit
pub record IsLooking (I : Instance) (C : ℕ) (at : Looking) : Type 0 where
  pub looked : IsLooked I C at.members.items (rests_of at.rests.items) (length at.rests.items)
  pub names : AreNamed I C at.members.items at.named.items
  pub by_end : (line : Line) → IsEnd at.log line → at.named.items ≡ named (log_members at) (claim_of line)
  pub log_rises : Rises (log_members at)
  pub log_in_range : All (λ b. b < length I) (log_members at)
  pub log_of : IsLogOf I C (log_members at) at.log

-- the member that is looked at next
abbrev pub next_member : Looking → ℕ
next_member at = slice_index at.members.items (length at.rests.items)

-- the last log does not say whether the others fit without the next member: it names it, and its stack, if its end has
-- one, is not over without it
pub record IsUnknown (I : Instance) (C : ℕ) (at : Looking) : Type 0 where
  pub named : IsIn (next_member at) at.named.items
  pub not_over : (line : Line) → IsEnd at.log line →
      IsStackOver I C line (without (next_member at) at.named.items) → ⊥

-- how many members are still to be looked at, and so how often may still be asked
abbrev pub ahead : Looking → ℕ
ahead at = length at.members.items - length at.rests.items
