-- The buffers by rising lower.
use Rattle.std.specs.Prelude.{◌≡◌, ℕ, ◌<◌, ◌≤◌, List, length}
use Rattle.std.specs.List.{All}
use Rattle.std.specs.List.Sorted.{IsNonDecreasingBy}
use Rattle.dsa_terms.specs.Buffers.{Instance, buffer}
use Rattle.dsa_terms.specs.Claims.{IsIn}
use Rattle.dsa_search_laws.specs.PartsByTime.{start_of}
use Rattle.dsa_model.specs.Lists.{pair_at}

-- a buffer's number behind its lower
abbrev pub lower_entry : Instance → ℕ → ℕ × ℕ
lower_entry I b = ((buffer I b).lower, b)

-- the lower and the number are those of one buffer
pub record IsLowerEntry (I : Instance) (e : ℕ × ℕ) : Type 0 where
  pub in_range : e.1 < length I
  pub lower : e.0 ≡ (buffer I e.1).lower

-- each buffer stands there behind its lower, in as many entries as there are buffers, and lowers never fall
pub record AreByLower (I : Instance) (entries : List (ℕ × ℕ)) : Type 0 where
  pub sorted : IsNonDecreasingBy (λ (e : ℕ × ℕ). e.0) entries
  pub each : All (IsLowerEntry I) entries
  pub complete : (b : ℕ) → b < length I → IsIn (lower_entry I b) entries
  pub count : length entries ≡ length I

-- no buffer at an earlier place reaches past the lower at this one
abbrev pub BeginsAt : Instance → List (ℕ × ℕ) → ℕ → Type 0
BeginsAt I order i = (k : ℕ) → k < i → (buffer I (pair_at order k).1).upper ≤ (pair_at order i).0

-- the places from `first` to before `next` are those of one part, which begins at the lower of the first of them
pub record IsRun (I : Instance) (order : List (ℕ × ℕ)) (first next : ℕ) : Type 0 where
  pub some : first < next
  pub within : next ≤ length order
  pub same : (k : ℕ) → first ≤ k → k < next → start_of I (pair_at order k).1 ≡ (pair_at order first).0
  pub ended : next < length order → BeginsAt I order next
