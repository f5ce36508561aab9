-- Instances in which every buffer can go to any offset and holds its storage throughout its lifetime.
use Rattle.std.specs.Prelude.{◌≡◌, ℕ, ◌<◌, ◌≤◌, not, ◌||◌, nat_lt, Bool, [], length, position, Option}
use Rattle.dsa_terms.specs.Buffers.{Buffer, Instance, buffer}
use Rattle.dsa_terms.specs.Parts.{is_empty}

-- the buffer has no gaps
abbrev pub HasNoGaps : Instance → ℕ → Type 0
HasNoGaps I b = (buffer I b).gaps ≡ []

-- the buffer has no gap, no alignment above 1 and no lowest above 0
abbrev pub IsPlainAt : Instance → ℕ → Type 0
IsPlainAt I b = HasNoGaps I b × ((buffer I b).alignment ≤ 1) × ((buffer I b).lowest ≡ 0)

-- so is each buffer
abbrev pub IsPlain : Instance → Type 0
IsPlain I = (b : ℕ) → b < length I → IsPlainAt I b

-- the buffer has a gap, an alignment above 1 or a lowest above 0
abbrev pub is_rough : Buffer → Bool
is_rough b = not (is_empty b.gaps) || nat_lt 1 b.alignment || nat_lt 0 b.lowest

-- the least buffer that is
unfoldable pub first_rough : Instance → Option ℕ
first_rough I = position is_rough I
