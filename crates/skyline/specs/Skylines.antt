-- What is true of a skyline's fields.
use Rattle.std.specs.Prelude.{◌≡◌, ℕ, ◌≤◌, Bool, List, length, reverse, take}
use Rattle.dsa_terms.specs.Buffers.{Instance}
use Rattle.lifetime.specs.SectionList.{SectionList}
use Rattle.skyline.specs.Carried.{Carries}

-- n buffers stand, the first ones of the stack, and there is a place for each member
pub record IsSkyline (I : Instance) (S : SectionList) (members : List ℕ) (n : ℕ) (stack ledges hs : List ℕ)
    (rows : List (List ℕ)) (flags : List Bool) : Type 0 where
  pub depth : n ≤ length members
  pub stack_room : length stack ≡ length members
  pub ledge_room : length ledges ≡ length members
  pub carries : Carries I S members (reverse (take n stack)) (reverse (take n ledges)) hs rows flags
