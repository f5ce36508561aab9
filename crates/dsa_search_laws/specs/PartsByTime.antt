-- The parts as they are computed, by the cut at which each begins, and what it is that no cut lies between two buffers.
use Rattle.std.specs.Prelude.{◌≡◌, ℕ, zero, suc, ◌≤◌, true, cond, not, ◌==◌, List, map, length}
use Rattle.std.specs.List.{filter}
use Rattle.dsa_terms.specs.Buffers.{Buffer, Instance, buffer}
use Rattle.dsa_terms.specs.Logs.{greatest}
use Rattle.dsa_terms.specs.Parts.{is_cut, is_empty, numbers}

-- the greatest cut at or below t
unfoldable pub last_cut : Instance → ℕ → ℕ
last_cut I zero = 0
last_cut I (suc t) = cond (is_cut I (suc t)) (suc t) (last_cut I t)

-- the cut at which the part of buffer b begins
unfoldable pub start_of : Instance → ℕ → ℕ
start_of I b = last_cut I (buffer I b).lower

-- the buffers whose part begins at t
abbrev pub members : Instance → ℕ → List ℕ
members I t = filter (λ b. start_of I b == t) (numbers (length I))

-- the buffers whose part begins at one moment, for each moment in turn where there are any
unfoldable pub parts_by_time : Instance → List (List ℕ)
parts_by_time I =
    filter (λ p. not (is_empty p)) (map (members I) (numbers (suc (greatest (map (λ (b : Buffer). b.lower) I)))))

-- a cut t lies between b and c
abbrev pub Separates : ℕ → Buffer → Buffer → Type 0
Separates t b c = (b.upper ≤ t) × (t ≤ c.lower)

-- no cut lies between the two buffers, whichever comes first
pub record IsUncut (I : Instance) (b c : ℕ) : Type 0 where
  pub forth : (t : ℕ) → is_cut I t ≡ true → Separates t (buffer I b) (buffer I c) → ⊥
  pub back : (t : ℕ) → is_cut I t ≡ true → Separates t (buffer I c) (buffer I b) → ⊥
