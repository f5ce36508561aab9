-- What is asked and found: whether buffers fit, and where they do not, which of them alone do not.
use Rattle.std.specs.Prelude.{◌≡◌, ℕ, ◌<◌, List, [], length, map, slice_index_or}
use Rattle.std.specs.Global.{Vec}
use Rattle.std.specs.List.{All, remove}
use Rattle.dsa_terms.specs.Buffers.{Instance}
use Rattle.dsa_terms.specs.Claims.{Rises}
use Rattle.dsa_terms.specs.Layouts.{IsLayout}
use Rattle.dsa_terms.specs.Logs.{IsAccepted}
use Rattle.dsa_model.specs.Chosen.{some_of}
use Rattle.core_find.specs.Cores.{IsCore}
use Rattle.core_find.specs.declared.ask.Asked.{Asked}
use Rattle.core_find.specs.declared.ask.Asked.TheVariants.{Layout, Refuted}
use Rattle.core_find.specs.declared.found.Core.{Core as CoreFound}
use Rattle.core_find.specs.declared.found.Found.{Found}
use Rattle.core_find.specs.declared.found.Found.TheVariants.{Fits, Core}

-- the answer is right for the instance at the capacity: a layout, or an accepted log at it
abbrev pub IsAnswer : Instance → ℕ → Asked → Type 0
IsAnswer I C (Layout offsets) = IsLayout I C offsets.items
IsAnswer I C (Refuted log) = IsAccepted I log × (log.capacity ≡ C)

-- the offsets of each layout
abbrev pub rests_of : List (Vec ℕ) → List (List ℕ)
rests_of rests = map (λ (v : Vec ℕ). v.items) rests

-- there is a layout for each of the first n members, and it is one of all members but the one at its place
pub record AreRests (I : Instance) (C : ℕ) (members : List ℕ) (rests : List (List ℕ)) (n : ℕ) : Type 0 where
  pub count : length rests ≡ n
  pub each : (k : ℕ) → k < n → IsLayout (some_of I (remove members k)) C (slice_index_or rests k [])

-- the members are the core of the instance at C; the log refutes them at C, and each rest is a layout at C of all but
-- the member at its place
pub record IsExplained (I : Instance) (C : ℕ) (found : CoreFound) : Type 0 where
  pub core : IsCore I C found.members.items
  pub rises : Rises found.members.items
  pub in_range : All (λ b. b < length I) found.members.items
  pub accepted : IsAccepted (some_of I found.members.items) found.log
  pub capacity : found.log.capacity ≡ C
  pub rests : AreRests I C found.members.items (rests_of found.rests.items) (length found.members.items)

-- what is found is right: a layout, or the core
abbrev pub IsFound : Instance → ℕ → Found → Type 0
IsFound I C (Fits offsets) = IsLayout I C offsets.items
IsFound I C (Core core) = IsExplained I C core
