-- A text on its way to a name: written into a file beside it, given to the disk, and renamed.
use Rattle.std.specs.Prelude.{◌≡◌, ℕ, Bool, true, false, List, ◌++◌, Option, Some}
use Rattle.std.specs.Option.{option_map}

-- what stands on the disk while a text is on its way to a name
pub record DraftState : Type 0 where
  -- what the file beside the name holds
  pub text : List ℕ
  -- it has the permissions of the file that it is to replace
  pub has_rights : Bool
  -- the disk has all of it, and told no error
  pub is_synced : Bool
  -- it stands in the folder, and nothing was asked of taking it away
  pub is_beside : Bool
  -- what the name holds, where it is there
  pub named : Option (List ℕ)

-- the file may take the name: whatever happens to the machine, the name then holds its whole text, or what it held
pub record IsReady (s : DraftState) : Type 0 where
  pub has_rights : s.has_rights ≡ true
  pub is_synced : s.is_synced ≡ true

-- it was given the permissions
abbrev pub with_rights : DraftState → DraftState
with_rights s = record s { has_rights = true }

-- these bytes were written, which the disk need not have yet
abbrev pub written : List ℕ → DraftState → DraftState
written bytes s = record s { text = s.text ++ bytes; is_synced = false }

-- the disk has it all
abbrev pub synced : DraftState → DraftState
synced s = record s { is_synced = true }

-- it took the name
abbrev pub renamed : DraftState → DraftState
renamed s = record s { named = Some s.text; is_beside = false }

-- it was taken away, or the system refused to
abbrev pub removed : DraftState → DraftState
removed s = record s { is_beside = false }

-- what the name holds, where that is told
abbrev pub name_of : Option DraftState → Option (Option (List ℕ))
name_of told = option_map (λ s. s.named) told
