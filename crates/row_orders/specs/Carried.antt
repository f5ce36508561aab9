-- Offsets by places of an order, and by the numbers that stand there.
use Rattle.std.specs.Prelude.{ℕ, ◌<◌, ◌==◌, List, length, map, slice_index}
use Rattle.std.specs.List.{All, position_or_len}
use Rattle.dsa_terms.specs.Claims.{IsIn}
use Rattle.dsa_terms.specs.Parts.{numbers}

-- each number below the length is in the list, which has no others: so each stands there once
pub record HasEachOnce (order : List ℕ) : Type 0 where
  pub in_range : All (λ b. b < length order) order
  pub each : (b : ℕ) → b < length order → IsIn b order

-- the place of b in the order
unfoldable pub place_in : List ℕ → ℕ → ℕ
place_in order b = position_or_len (λ c. c == b) order

-- for each number the offset that stands at its place in the order
unfoldable pub carried_back : (order offsets : List ℕ) → List ℕ
carried_back order offsets = map (λ b. slice_index offsets (place_in order b)) (numbers (length order))
