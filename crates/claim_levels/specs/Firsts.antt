-- The buffer of a claim that comes first.
use Rattle.std.specs.Prelude.{◌≡◌, ◌<◌, ◌⊎◌, ℕ}
use Rattle.dsa_terms.specs.Buffers.{Instance}
use Rattle.dsa_terms.specs.Claims.{Claim, Entry, IsIn, up}

-- the up of e is lower than that of f, or as high, with the smaller number
abbrev pub IsBefore : Instance → Entry → Entry → Type 0
IsBefore I e f = (up I e < up I f) ⊎ ((up I e ≡ up I f) × (e.0 < f.0))

-- the buffer is that of an entry of the claim which is before all others
pub record IsFirst (I : Instance) (l : Claim) (b : ℕ) : Type 0 where
  pub f : Entry
  pub among : IsIn f l
  pub is : f.0 ≡ b
  pub before : (e : Entry) → IsIn e l → (e ≡ f) ⊎ IsBefore I f e
