-- Bits in a row, packed into words.
use Rattle.std.specs.Prelude.{ℕ, ◌<◌, ◌/◌, ◌%◌, ◌==◌, Bool, List, length, slice_index}
use Rattle.std.specs.Int.{bit_at}

-- the words have a bit for the place, and so for each place before it
abbrev pub Reaches : List ℕ → ℕ → Type 0
Reaches words place = place / 64 < length words

-- the bit of the place is set: words have 64 bits each, and the lowest comes first
unfoldable pub is_set : List ℕ → ℕ → Bool
is_set words place = bit_at (slice_index words (place / 64)) (place % 64) == 1
