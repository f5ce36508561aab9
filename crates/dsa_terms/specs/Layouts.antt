-- Layouts of an instance at a capacity.
use Rattle.std.specs.Prelude.{◌≡◌, ℕ, ◌+◌, ◌-◌, ◌%◌, ◌<◌, ◌≤◌, ◌≢◌, ◌⊎◌, List, length, slice_index}
use Rattle.dsa_terms.specs.Buffers.{Buffer, Instance, buffer, IsLive}

-- x is a multiple of a
abbrev pub IsMultiple : ℕ → ℕ → Type 0
IsMultiple x a = x % a ≡ 0

-- b at x ends at or below c at y, or c at y ends at or below b at x
abbrev pub IsApart : Buffer → ℕ → Buffer → ℕ → Type 0
IsApart b x c y = (x + b.size ≤ y) ⊎ (y + c.size ≤ x)

-- a layout: an offset for each buffer, aligned, at or above its lowest, within C, and any two buffers apart at each
-- moment at which both live
pub record IsLayout (I : Instance) (C : ℕ) (offsets : List ℕ) : Type 0 where
  pub count : length offsets ≡ length I
  pub aligned : (b : ℕ) → b < length I → IsMultiple (slice_index offsets b) (buffer I b).alignment
  pub above : (b : ℕ) → b < length I → (buffer I b).lowest ≤ slice_index offsets b
  pub within : (b : ℕ) → b < length I → slice_index offsets b + (buffer I b).size ≤ C
  pub apart : (b c t : ℕ) → b < length I → c < length I → b ≢ c →
      IsLive (buffer I b) t → IsLive (buffer I c) t →
      IsApart (buffer I b) (slice_index offsets b) (buffer I c) (slice_index offsets c)

-- some layout fits at C
abbrev pub IsFeasible : Instance → ℕ → Type 0
IsFeasible I C = (offsets : List ℕ) × IsLayout I C offsets

-- no layout fits at C
abbrev pub IsInfeasible : Instance → ℕ → Type 0
IsInfeasible I C = (offsets : List ℕ) → IsLayout I C offsets → ⊥

-- C is the least capacity: some layout fits, and none at one less
abbrev pub IsLeast : Instance → ℕ → Type 0
IsLeast I C = IsFeasible I C × ((C ≡ 0) ⊎ IsInfeasible I (C - 1))
