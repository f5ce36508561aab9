-- The columns of a picture: the moments at which something changes.
use Rattle.std.specs.Prelude.{ℕ, ◌+◌, ◌<◌, ◌≤◌, Bool, not, List, map, length, slice_index}
use Rattle.std.specs.Bool.{beq}
use Rattle.std.specs.List.{filter, list_any}
use Rattle.dsa_terms.specs.Buffers.{Buffer, Instance, is_live}
use Rattle.dsa_terms.specs.Logs.{greatest}
use Rattle.dsa_terms.specs.Parts.{numbers}
use Rattle.lifetime.specs.Runs.{was_live}

-- the buffer begins or ends to be live at t: of t and the moment before it, it is live at one alone
unfoldable pub turns_at : ℕ → Buffer → Bool
turns_at t b = not (beq (was_live b t) (is_live b t))

-- the columns: the moments at which some buffer begins or ends to be live, rising; none is after the last upper
unfoldable pub columns_of : Instance → List ℕ
columns_of I =
    filter (λ t. list_any (turns_at t) I) (numbers (greatest (map (λ (b : Buffer). b.upper) I) + 1))

-- moment t lies in column k: not before its moment, and before that of the next column, if there is one
pub record IsInColumn (moments : List ℕ) (t k : ℕ) : Type 0 where
  pub in_range : k < length moments
  pub begun : slice_index moments k ≤ t
  pub not_next : k + 1 < length moments → t < slice_index moments (k + 1)
