-- Pools of slots: numbers that are taken up to a moment, and come back then.
use Rattle.std.specs.Prelude.{◌≡◌, ◌≢◌, ◌↔◌, ℕ, ◌+◌, ◌<◌, ◌≤◌, ◌⊎◌, List, []}
use Rattle.dsa_terms.specs.Claims.{IsIn}

-- the slots in use, each after the moment at which it comes back; those that came back; and how many there are in all
pub record Pool : Type 0 where
  pub busy : List (ℕ × ℕ)
  pub free : List ℕ
  pub count : ℕ

-- the pool of these parts
abbrev pub pool_of : List (ℕ × ℕ) → List ℕ → ℕ → Pool
pool_of busy free count = record { busy = busy; free = free; count = count }

-- no slot was ever taken
abbrev pub no_slots : Pool
no_slots = pool_of [] [] 0

-- what a pool keeps: each slot that is in use or came back is below the count
pub record IsPool (p : Pool) : Type 0 where
  pub busy : (e : ℕ × ℕ) → IsIn e p.busy → e.1 < p.count
  pub free : (s : ℕ) → IsIn s p.free → s < p.count

-- the slot can be taken: it came back, or it was never taken
abbrev pub IsFree : Pool → ℕ → Type 0
IsFree p s = IsIn s p.free ⊎ (p.count ≤ s)

-- the slot is the least that can be taken
pub record IsLeastFree (p : Pool) (slot : ℕ) : Type 0 where
  pub free : IsFree p slot
  pub least : (s : ℕ) → IsFree p s → slot ≤ s

-- s is the slot of e, which is in use up to the moment or less
pub record IsEnded (moment s : ℕ) (e : ℕ × ℕ) : Type 0 where
  pub slot : e.1 ≡ s
  pub ended : e.0 ≤ moment

-- the slots that were in use up to the moment or less have come back, and the others are as before
pub record IsReleased (moment : ℕ) (old new : Pool) : Type 0 where
  pub count : new.count ≡ old.count
  pub busy : (e : ℕ × ℕ) → IsIn e new.busy ↔ (IsIn e old.busy × (moment < e.0))
  pub free : (s : ℕ) → IsFree new s ↔ (IsFree old s ⊎ ((e : ℕ × ℕ) × IsIn e old.busy × IsEnded moment s e))

-- the slot can no longer be taken, and the others are as before
pub record IsTakenOut (slot : ℕ) (old new : Pool) : Type 0 where
  pub least : IsLeastFree old slot
  pub free : (s : ℕ) → IsFree new s ↔ (IsFree old s × (s ≢ slot))
  pub below : slot < new.count
  pub grows : old.count ≤ new.count
  pub by_one : new.count ≤ old.count + 1

-- the least slot that could be taken is in use up to the end, and the others are as before
pub record IsTaken (end slot : ℕ) (old new : Pool) : Type 0 where
  pub out : IsTakenOut slot old new
  pub busy : (e : ℕ × ℕ) → IsIn e new.busy ↔ (IsIn e old.busy ⊎ (e ≡ (end, slot)))
