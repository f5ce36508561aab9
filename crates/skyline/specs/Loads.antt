-- A skyline with what is left to stand, by section.
use Rattle.std.specs.Prelude.{◌≡◌, ℕ, ◌<◌, Bool, List, length, slice_index, reverse, take}
use Rattle.dsa_terms.specs.Buffers.{Instance}
use Rattle.dsa_terms.specs.Claims.{Claim}
use Rattle.dsa_terms.specs.Parts.{whole}
use Rattle.lifetime.specs.SectionList.{count_of, SectionList}
use Rattle.skyline.specs.Standing.{claim_after}
use Rattle.skyline.specs.Skylines.{IsSkyline}
use Rattle.skyline.specs.Overloads.{free_load}

-- the loads are those of the claim that is left
pub record HasLoads (I : Instance) (S : SectionList) (l : Claim) (loads : List ℕ) : Type 0 where
  pub count : length loads ≡ count_of S
  pub each : (s : ℕ) → s < count_of S → slice_index loads s ≡ free_load I S l s

-- a skyline with the loads of its last claim
pub record IsLoaded (I : Instance) (S : SectionList) (members : List ℕ) (n : ℕ) (stack ledges hs : List ℕ)
    (rows : List (List ℕ)) (flags : List Bool) (ls : List ℕ) : Type 0 where
  pub sky : IsSkyline I S members n stack ledges hs rows flags
  pub loads : HasLoads I S (claim_after I (whole I members) (reverse (take n stack))) ls
