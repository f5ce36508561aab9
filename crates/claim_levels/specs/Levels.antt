-- The levels of a claim, and what is kept beside them.
use Rattle.std.specs.Prelude.{◌≡◌, ◌^◌, ◌⊎◌, ℕ, ◌+◌, ◌<◌, ◌≤◌, List, length, slice_index, map}
use Rattle.std.specs.List.{All}
use Rattle.dsa_terms.specs.Buffers.{Instance}
use Rattle.dsa_terms.specs.Claims.{Claim, Entry, IsIn, Rises, buffers_of, child, number_of, up}
use Rattle.dsa_terms.specs.Parts.{numbers}
use Rattle.dsa_model.specs.Buffer.{buffer_limit}
use Rattle.canonical_order.specs.Claims.{HasBuffer, IsBoundedBy, entry_of}
use Rattle.canonical_order.specs.Levels.{AreLevels}

-- levels, beside the claim of the buffers that have one, with what is one less for their bounds
pub record AreKept (levels : List ℕ) (ground : Claim) : Type 0 where
  -- there are no more than buffers may be
  pub few : length levels ≤ buffer_limit
  -- none is above 2^55
  pub low : All (λ level. level ≤ 2 ^ 55) levels
  -- buffers rise
  pub rises : Rises (buffers_of ground)
  -- each buffer of the claim has a level, one more than its bound
  pub each : (e : Entry) → IsIn e ground → slice_index levels e.0 ≡ e.1 + 1
  -- and each buffer that has a level is in the claim
  pub all : (b : ℕ) → 0 < slice_index levels b → HasBuffer ground b

-- where some buffer has a level, this one has, and it is before all others that have one by level and number
pub record IsLeastLevel (levels : List ℕ) (b : ℕ) : Type 0 where
  pub some : (c : ℕ) → 0 < slice_index levels c → 0 < slice_index levels b
  pub before : (c : ℕ) → 0 < slice_index levels c →
      (slice_index levels b < slice_index levels c) ⊎ ((slice_index levels b ≡ slice_index levels c) × (b ≤ c))

-- the buffers that have a level, rising
pub record AreLeft (levels left : List ℕ) : Type 0 where
  pub rises : Rises left
  -- each of them has one
  pub some : (b : ℕ) → IsIn b left → 0 < slice_index levels b
  -- and each that has one is among them
  pub all : (b : ℕ) → 0 < slice_index levels b → IsIn b left

-- levels, beside the buffers that have one, and a number that no level is above
pub record AreLed (levels left : List ℕ) (top : ℕ) : Type 0 where
  -- there are no more than buffers may be
  pub few : length levels ≤ buffer_limit
  -- none is above 2^55
  pub low : All (λ level. level ≤ 2 ^ 55) levels
  -- nor above the number
  pub under : All (λ level. level ≤ top) levels
  -- which is low itself
  pub limit : top ≤ 2 ^ 55
  pub listed : AreLeft levels left

-- the levels are those of a claim that has the buffer, and no bound of the child by it is above 2^54
pub record HasLowChild (I : Instance) (levels : List ℕ) (b : ℕ) : Type 0 where
  pub above : Claim
  pub are : AreLevels I above levels
  pub has : HasBuffer above b
  pub low : IsBoundedBy (2 ^ 54) (child I above (entry_of above b))

-- ---- all levels of a claim
-- the level of the buffer: one more than its up in the claim, and 0 where it is not in it
abbrev pub level_of : Instance → Claim → ℕ → ℕ
level_of I l b = number_of (map (λ (e : Entry). (e.0, up I e + 1)) l) b

-- the levels of the claim
abbrev pub levels_of : Instance → Claim → List ℕ
levels_of I l = map (level_of I l) (numbers (length I))
