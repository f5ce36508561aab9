-- The moment at which the log of the bound stands.
use Rattle.std.specs.Prelude.{◌≡◌, ◌≢◌, ℕ, ◌<◌, ◌≤◌, length}
use Rattle.dsa_terms.specs.Bounds.{bound_modulus, highest_at, lower_bound}
use Rattle.dsa_terms.specs.Buffers.{Instance, buffer, IsLive}

-- all that is live at u is live at s
abbrev pub HasAllOf : Instance → ℕ → ℕ → Type 0
HasAllOf I s u = (b : ℕ) → b < length I → IsLive (buffer I b) u → IsLive (buffer I b) s

-- all that is live from t up to s is live at s
abbrev pub Gathers : Instance → ℕ → ℕ → Type 0
Gathers I t s = (t ≤ s) × ((u : ℕ) → t ≤ u → u ≤ s → HasAllOf I s u)

-- of the moments that gather from the first one on that reaches the bound by its modulus, s is the first that has most
pub record IsBoundMoment (I : Instance) (s : ℕ) : Type 0 where
  pub first : ℕ
  pub reached : highest_at I first (bound_modulus I) ≡ lower_bound I
  pub none_before : (u : ℕ) → u < first → highest_at I u (bound_modulus I) ≢ lower_bound I
  pub gathers : Gathers I first s
  pub most : (u : ℕ) → Gathers I first u → HasAllOf I s u
  pub less_before : (u : ℕ) → first ≤ u → u < s → HasAllOf I u s → ⊥
