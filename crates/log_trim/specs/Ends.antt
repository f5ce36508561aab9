-- The ends of logs.
use Rattle.std.specs.Prelude.{◌≡◌, slice_get, Some}
use Rattle.dsa_terms.specs.Claims.{Claim}
use Rattle.dsa_terms.specs.Logs.{Line, Log, claim_of}

-- the log's end is a line of that claim
pub record IsEndClaim (log : Log) (l : Claim) : Type 0 where
  pub line : Line
  pub there : slice_get log.lines log.final ≡ Some line
  pub claim : claim_of line ≡ l
