-- What a look-up in a log answers.
use Rattle.std.specs.Prelude.{◌≡◌, ℕ, List, slice_get, Some}
use Rattle.dsa_terms.specs.Buffers.{Instance}
use Rattle.dsa_terms.specs.Claims.{Claim, Covers}
use Rattle.dsa_terms.specs.Logs.{Line, claim_of}

-- the line of that number is there, and its claim covers the claim
abbrev pub IsCoveringLine : Instance → List Line → Claim → ℕ → Type 0
IsCoveringLine I lines l k = (line : Line) × (slice_get lines k ≡ Some line) × Covers I (claim_of line) l
