-- Seats: buffers, each with its offset.
use Rattle.std.specs.Prelude.{ℕ, List, map, slice_index}
use Rattle.dsa_terms.specs.Claims.{Claim, Entry, buffers_of}

-- the buffer with its offset
abbrev pub seat_at : List ℕ → ℕ → Entry
seat_at offsets b = (b, slice_index offsets b)

-- the buffers of the claim, each with its offset
abbrev pub seats_by : List ℕ → Claim → List Entry
seats_by offsets l = map (seat_at offsets) (buffers_of l)
