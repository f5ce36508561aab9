-- Lows by the levels of a claim.
use Rattle.std.specs.Prelude.{ℕ, ◌-◌, Bool, nat_lt, List, map, Option, slice_index}
use Rattle.std.specs.List.{filter}
use Rattle.skyline.specs.Overloads.{least_of}

-- whether the buffer has a level, and so is in the claim
abbrev pub has_level : List ℕ → ℕ → Bool
has_level levels b = nat_lt 0 (slice_index levels b)

-- the low of a buffer that has a level
abbrev pub low_of : List ℕ → ℕ → ℕ
low_of levels b = slice_index levels b - 1

-- the least low of those of the buffers that have a level, and none where none has
abbrev pub least_low : List ℕ → List ℕ → Option ℕ
least_low levels buffers = least_of (map (low_of levels) (filter (has_level levels) buffers))
