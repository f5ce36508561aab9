-- Lines that refute a claim without earlier lines.
use Rattle.std.specs.Prelude.{ℕ, ◌<◌, ◌≤◌, List, length}
use Rattle.dsa_terms.specs.Buffers.{Instance, buffer}
use Rattle.dsa_terms.specs.Claims.{Claim, Covers}
use Rattle.dsa_terms.specs.Logs.{Line, IsLegal, claim_of}
use Rattle.refute_log.specs.Lines.{IsWithin}

-- no buffer of the instance is larger than that
abbrev pub AreSizesWithin : Instance → ℕ → Type 0
AreSizesWithin I most = (b : ℕ) → b < length I → (buffer I b).size ≤ most

-- the line is legal after any lines, its numbers are within their limits, and it covers the claim
pub record RefutesAtOnce (I : Instance) (C : ℕ) (l : Claim) (line : Line) : Type 0 where
  pub legal : (earlier : List Line) → IsLegal I C earlier line
  pub within : IsWithin line
  pub covers : Covers I (claim_of line) l
