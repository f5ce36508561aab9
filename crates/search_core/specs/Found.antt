-- What the search finds of a claim.
use Rattle.std.specs.Prelude.{◌≡◌, ℕ, List, Some, None}
use Rattle.dsa_terms.specs.Buffers.{Instance}
use Rattle.dsa_terms.specs.Claims.{Claim}
use Rattle.dsa_terms.specs.Logs.{Line}
use Rattle.dsa_terms.specs.Search.{first}
use Rattle.line_index.specs.Covered.{IsCoveredBy}
use Rattle.search_core.specs.declared.found.Found.{Found}
use Rattle.search_core.specs.declared.found.Found.TheVariants as found

-- the first layout of the claim, or a line that covers a claim that has none
abbrev pub IsFound : Instance → ℕ → Claim → List Line → Found → Type 0
IsFound I C l lines (found.Seats seats) = first I C l ≡ Some seats.items
IsFound I C l lines (found.Line k) = (first I C l ≡ None) × IsCoveredBy I lines l k
