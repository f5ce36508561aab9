-- How a claim stands to the levels of another one.
use Rattle.std.specs.Prelude.{◌≡◌, ℕ, ◌<◌, ◌≤◌, List, slice_index}
use Rattle.dsa_terms.specs.Claims.{Claim, Entry, IsIn}
use Rattle.line_index.specs.declared.look.Look.{Look}
use Rattle.line_index.specs.declared.look.Look.TheVariants.{Covers, Unmet, Lacks}

-- the entry is one of k, and its bound is not met, though its buffer has a level
pub record IsUnmet (k : Claim) (levels : List ℕ) (e : Entry) : Type 0 where
  pub among : IsIn e k
  pub has : 0 < slice_index levels e.0
  pub unmet : slice_index levels e.0 ≤ e.1

-- the entry is one of k, and its buffer has no level
pub record IsLacked (k : Claim) (levels : List ℕ) (e : Entry) : Type 0 where
  pub among : IsIn e k
  pub none : slice_index levels e.0 ≡ 0

-- what is seen of k: each bound is met, that one is not met though its buffer has a level, or that buffer has none
abbrev pub IsLook : Claim → List ℕ → Look → Type 0
IsLook k levels Covers = (e : Entry) → IsIn e k → e.1 < slice_index levels e.0
IsLook k levels (Unmet b bound) = IsUnmet k levels (b, bound)
IsLook k levels (Lacks b bound) = IsLacked k levels (b, bound)
