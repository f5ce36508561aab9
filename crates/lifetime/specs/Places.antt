-- Lists by number, as they are filled.
use Rattle.std.specs.Prelude.{ℕ, ◌<◌, cond, List, [], ◌∷◌, ◌++◌, length, map, slice_index_or}
use Rattle.std.specs.List.{All}
use Rattle.dsa_terms.specs.Claims.{Rises}
use Rattle.dsa_terms.specs.Parts.{has, numbers}
use Rattle.lifetime.specs.SectionList.{Section}

-- the members of each section rise, and are below the count
pub record HasMembersBelow (count : ℕ) (x : Section) : Type 0 where
  pub rises : Rises x.members
  pub in_range : All (λ b. b < count) x.members

-- so it is with all sections
abbrev pub AreMembersBelow : ℕ → List Section → Type 0
AreMembersBelow count sections = All (HasMembersBelow count) sections

-- the lists with s put last in that of each member
abbrev pub ends_with : List ℕ → ℕ → List (List ℕ) → List (List ℕ)
ends_with members s lists =
    map (λ b. slice_index_or lists b [] ++ cond (has b members) (s ∷ []) []) (numbers (length lists))
