-- Slots of buffers that are all of one width: each gets the least that is free while it lives.
use Rattle.std.specs.Prelude.{◌≡◌, ◌≢◌, ℕ, ◌+◌, ◌<◌, ◌≤◌, not, nat_lt, true, List, [], ◌∷◌, ◌++◌, map, length}
use Rattle.std.specs.List.{filter, position_or_len}
use Rattle.dsa_terms.specs.Bounds.{moments}
use Rattle.dsa_terms.specs.Buffers.{Buffer, Instance, buffer, is_live}
use Rattle.dsa_terms.specs.Claims.{Entry, IsIn, number_of, Rises}
use Rattle.dsa_terms.specs.Logs.{greatest}
use Rattle.dsa_terms.specs.Sorts.{ordered_by, IsOrdered}
use Rattle.dsa_terms.specs.Orders.{rises_by}
use Rattle.dsa_terms.specs.Parts.{has, numbers}
use Rattle.size_classes.specs.Plain.{HasNoGaps}

-- buffers of the instance, in rising order, none of which has gaps
pub record AreMembers (I : Instance) (members : List ℕ) : Type 0 where
  pub rises : Rises members
  pub each : (b : ℕ) → IsIn b members → (b < length I) × HasNoGaps I b

-- those that are live at t
unfoldable pub live_among : Instance → List ℕ → ℕ → List ℕ
live_among I members t = filter (λ b. is_live (buffer I b) t) members

-- the greatest number of members that are live at one moment
unfoldable pub most_live : Instance → List ℕ → ℕ
most_live I members = greatest (map (λ t. length (live_among I members t)) (moments I))

-- the members by lower, ties to the smaller number
abbrev pub in_turn : Instance → List ℕ → List ℕ
in_turn I members = ordered_by (rises_by (λ (b : Buffer). b.lower) I) members

-- the slots of those before b that last longer than b's lower
unfoldable pub held : Instance → ℕ → List Entry → List ℕ
held I b before = map (λ e. e.1) (filter (λ e. nat_lt (buffer I b).lower (buffer I e.0).upper) before)

-- the least number from 0 that is not one of these
unfoldable pub least_free : List ℕ → ℕ
least_free slots = position_or_len (λ s. not (has s slots)) (numbers (length slots))

-- the buffers before, each with its slot, and b with the least slot that none of them holds at b's lower
abbrev pub with_slot : Instance → List Entry → ℕ → List Entry
with_slot I before b = before ++ (b, least_free (held I b before)) ∷ []

-- the buffers before, and those that follow, one after another
abbrev pub slotted : Instance → List ℕ → List Entry → List Entry
slotted I [] before = before
slotted I (b ∷ following) before = slotted I following (with_slot I before b)

-- the slot of a member
unfoldable pub slot_of : Instance → List ℕ → ℕ → ℕ
slot_of I members b = number_of (slotted I (in_turn I members) []) b

-- c is taken before b: by lower, ties to the smaller number
abbrev pub IsTakenBefore : Instance → ℕ → ℕ → Type 0
IsTakenBefore I c b = rises_by (λ (b : Buffer). b.lower) I c b ≡ true

-- the slots of members: that of b is held by none that is taken before b and has its upper above b's lower, and each
-- lesser one is held by such a one
pub record IsSlotting (I : Instance) (members : List ℕ) (slot : ℕ → ℕ) : Type 0 where
  pub free : (b c : ℕ) → IsIn b members → IsIn c members → IsTakenBefore I c b →
      (buffer I b).lower < (buffer I c).upper → slot c ≢ slot b
  pub least : (b s : ℕ) → IsIn b members → s < slot b →
      (c : ℕ) × IsIn c members × IsTakenBefore I c b × ((buffer I b).lower < (buffer I c).upper) × (slot c ≡ s)

-- buffers of the instance one after another by lower, ties to the smaller number
pub record AreTurns (I : Instance) (turns : List ℕ) : Type 0 where
  pub ordered : IsOrdered (rises_by (λ (b : Buffer). b.lower) I) turns
  pub in_range : (b : ℕ) → IsIn b turns → b < length I
  pub few : length turns ≤ length I

-- how many slots these are: one more than the greatest, and 0 for none
unfoldable pub slot_count : List ℕ → ℕ
slot_count slots = greatest (map (λ s. s + 1) slots)
