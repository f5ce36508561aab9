-- Ranges of moments: a range (a, b) is the moments from a up to and not including b.
use Rattle.std.specs.Prelude.{◌≡◌, ℕ, ◌+◌, ◌<◌, ◌≤◌, ⊤, Bool, if◌then◌else◌, nat_lt, List, [], ◌∷◌}
use Rattle.std.specs.List.{list_any}
use Rattle.dsa_terms.specs.Buffers.{Buffer, is_live, is_within}

-- the moment lies in one of the ranges
abbrev pub is_in : List (ℕ × ℕ) → ℕ → Bool
is_in ranges t = list_any (is_within t) ranges

-- the range of these ends, and none where it would be empty
abbrev pub range_of : (from to : ℕ) → List (ℕ × ℕ)
range_of from to = if nat_lt from to then (from, to) ∷ [] else []

-- the ranges begin at or after `from` and rise, none is empty, and there is a moment between each and the next
abbrev pub AreApartFrom : ℕ → List (ℕ × ℕ) → Type 0
AreApartFrom from [] = ⊤
AreApartFrom from (range ∷ ranges) = (from ≤ range.0) × (range.0 < range.1) × AreApartFrom (range.1 + 1) ranges

-- the ranges are the greatest runs of moments at which the buffer is live, in rising order
pub record AreLiveRanges (b : Buffer) (ranges : List (ℕ × ℕ)) : Type 0 where
  pub apart : AreApartFrom 0 ranges
  pub live : (t : ℕ) → is_live b t ≡ is_in ranges t
