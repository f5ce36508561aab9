-- Bounds, and which one is the best.
use Rattle.std.specs.Prelude.{◌≡◌, ℕ, ◌<◌, ◌≤◌, ◌⊎◌, List}
use Rattle.dsa_terms.specs.Bounds.{heights, highest_at, stack}
use Rattle.dsa_terms.specs.Buffers.{Instance}
use Rattle.dsa_terms.specs.Claims.{IsIn}
use Rattle.dsa_terms.specs.Layouts.{IsMultiple}
use Rattle.lifetime.specs.SectionList.{SectionList, count_of, start_of}
use Rattle.lower_bounds.specs.declared.value.Bound.{Bound}

-- the bound is of the instance: it is 0, or what is stacked at its moment by its modulus, from its height on, comes to
-- it, and the height is a multiple of the modulus
abbrev pub IsBoundOf : Instance → Bound → Type 0
IsBoundOf I b =
    (b.capacity ≡ 0)
    ⊎ ((1 ≤ b.modulus) × IsMultiple b.height b.modulus × (b.capacity ≡ stack I b.moment b.height b.modulus))

-- the bound that says nothing
abbrev pub no_bound : Bound
no_bound = record { capacity = 0; moment = 0; modulus = 1; height = 0 }

-- the greatest stack over all heights at the start of a section
abbrev pub stack_at : Instance → SectionList → ℕ → ℕ → ℕ
stack_at I S G s = highest_at I (start_of S s) G

-- of the heights in question it is the least from which the stack at t comes to the value
pub record IsLeastHeight (I : Instance) (t G value height : ℕ) : Type 0 where
  pub among : IsIn height (heights I G)
  pub reached : stack I t height G ≡ value
  pub least : (H : ℕ) → stack I t H G ≡ value → height ≤ H

-- one of the first n sections comes to the bound with this modulus at the bound's moment, from the bound's height on
-- and from no lower one, and none before it comes to as much
pub record IsFirstToReach (I : Instance) (S : SectionList) (G n : ℕ) (b : Bound) : Type 0 where
  pub place : ℕ
  pub in_range : place < n
  pub moment : start_of S place ≡ b.moment
  pub reached : stack_at I S G place ≡ b.capacity
  pub height : IsLeastHeight I b.moment G b.capacity b.height
  pub first : (s : ℕ) → s < place → stack_at I S G s < b.capacity

-- none of the first n sections comes to more than the new bound with this modulus; the new bound is the old one, or is
-- above it and one of these sections is the first to come to it
pub record IsRaised (I : Instance) (S : SectionList) (G n : ℕ) (old new : Bound) : Type 0 where
  pub most : (s : ℕ) → s < n → stack_at I S G s ≤ new.capacity
  pub found : (new ≡ old) ⊎ ((old.capacity < new.capacity) × (new.modulus ≡ G) × IsFirstToReach I S G n new)

-- no section comes to more with one of these moduli; of those that come to as much the modulus is the least, and of its
-- sections it is the first
pub record IsBest (I : Instance) (S : SectionList) (moduli : List ℕ) (b : Bound) : Type 0 where
  pub most : (G s : ℕ) → IsIn G moduli → s < count_of S → stack_at I S G s ≤ b.capacity
  pub found : (b ≡ no_bound) ⊎ ((0 < b.capacity) × IsIn b.modulus moduli × IsFirstToReach I S b.modulus (count_of S) b)
  pub least : (G s : ℕ) → IsIn G moduli → G < b.modulus → s < count_of S →
      (b ≡ no_bound) ⊎ (stack_at I S G s < b.capacity)
