-- What is stacked at each section by one modulus, of buffers that are taken by falling floor.
use Rattle.std.specs.Prelude.{◌≡◌, ℕ, ◌<◌, ◌≤◌, ◌⊎◌, true, List, length, slice_index_or}
use Rattle.std.specs.List.{filter}
use Rattle.dsa_terms.specs.Buffers.{Instance, buffer, floor, is_live}
use Rattle.dsa_terms.specs.Claims.{IsIn}
use Rattle.lifetime.specs.SectionList.{SectionList, count_of, start_of}
use Rattle.lower_bounds.specs.Stacks.{is_counted, spare_of, stack_in, total_of}
use Rattle.lower_bounds.specs.declared.tallies.Tally.{Tally}

-- the value is the greatest stack of these buffers over all heights, and the height the least that comes to it: the
-- floor of one of them
pub record IsTallest (I : Instance) (G : ℕ) (members : List ℕ) (value height : ℕ) : Type 0 where
  pub most : (H : ℕ) → stack_in I H G members ≤ value
  pub reached : stack_in I height G members ≡ value
  pub lowest : (H : ℕ) → 1 ≤ value → stack_in I H G members ≡ value → height ≤ H
  pub from : (value ≡ 0) ⊎ ((b : ℕ) × IsIn b members × (is_counted I G b ≡ true) × (floor (buffer I b) ≡ height))

-- the sums over those that are counted, and the tallest stack
pub record IsTally (I : Instance) (G : ℕ) (members : List ℕ) (x : Tally) : Type 0 where
  pub total : x.total ≡ total_of I G (filter (is_counted I G) members)
  pub spare : x.spare ≡ spare_of I G (filter (is_counted I G) members)
  pub tallest : IsTallest I G members x.value x.height

-- what stands at a place that is no section's
abbrev pub no_tally : Tally
no_tally = record { total = 0; spare = 0; value = 0; height = 0 }

-- those of these buffers that are live at the start of section s
unfoldable pub members_among : Instance → SectionList → List ℕ → ℕ → List ℕ
members_among I S seen s = filter (λ b. is_live (buffer I b) (start_of S s)) seen

-- a tally for each section, of those of these buffers that are live there
pub record AreTallies (I : Instance) (S : SectionList) (G : ℕ) (seen : List ℕ) (tallies : List Tally) : Type 0 where
  pub count : length tallies ≡ count_of S
  pub each : (s : ℕ) → s < count_of S → IsTally I G (members_among I S seen s) (slice_index_or tallies s no_tally)
