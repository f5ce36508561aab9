-- Walks from buffer to buffer by what cites need.
use Rattle.std.specs.Prelude.{◌≡◌, ◌⊎◌, ℕ, true, false, Bool, List, length, slice_index_or}
use Rattle.dsa_terms.specs.Buffers.{Instance}
use Rattle.dsa_terms.specs.Claims.{Claim, IsIn}
use Rattle.canonical_order.specs.Claims.{HasBuffer}

-- the buffer is marked
abbrev pub IsMarked : List Bool → ℕ → Type 0
IsMarked marks b = slice_index_or marks b false ≡ true

-- the buffers are of the claim
abbrev pub AreOf : Claim → List ℕ → Type 0
AreOf l bs = (b : ℕ) → IsIn b bs → HasBuffer l b

-- one mark for each buffer of the instance, and the buffers of the claim are those marked, which are yet to be met, and
-- those met
pub record IsWalk (I : Instance) (l : Claim) (unmet : List Bool) (met : List ℕ) : Type 0 where
  pub count : length unmet ≡ length I
  pub of_claim : AreOf l met
  pub marked : (b : ℕ) → IsMarked unmet b → HasBuffer l b × (IsIn b met → ⊥)
  pub each : (b : ℕ) → HasBuffer l b → IsMarked unmet b ⊎ IsIn b met
