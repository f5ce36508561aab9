-- Whether a line of a log covers a claim.
use Rattle.std.specs.Prelude.{◌≡◌, ℕ, ◌≤◌, List, slice_get, Some}
use Rattle.dsa_terms.specs.Buffers.{Instance}
use Rattle.dsa_terms.specs.Claims.{Claim, Covers}
use Rattle.dsa_terms.specs.Logs.{Line, claim_of}
use Rattle.dsa_model.specs.Limits.{number_limit}

-- the line of that number covers the claim, and its number is at most 2^60
pub record IsCoveredBy (I : Instance) (lines : List Line) (l : Claim) (k : ℕ) : Type 0 where
  pub limit : k ≤ number_limit
  pub line : Line
  pub stands : slice_get lines k ≡ Some line
  pub covers : Covers I (claim_of line) l

-- no line covers the claim
abbrev pub NoneCovers : Instance → List Line → Claim → Type 0
NoneCovers I lines l = (k : ℕ) (line : Line) → slice_get lines k ≡ Some line → Covers I (claim_of line) l → ⊥
