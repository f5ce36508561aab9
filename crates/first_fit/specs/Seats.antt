-- Seats: placed buffers with the addresses that they take.
use Rattle.std.specs.Prelude.{◌^◌, ◌<◌, ◌≤◌, List, length}
use Rattle.std.specs.List.{All}
use Rattle.std.specs.List.Sorted.{IsNonDecreasingBy}
use Rattle.dsa_terms.specs.Buffers.{Instance}
use Rattle.dsa_terms.specs.Claims.{Entry}
use Rattle.dsa_terms.specs.Fits.{top}
use Rattle.first_fit.specs.declared.seats.Seat.{Seat}

-- the seat of a placed buffer
abbrev pub seat_of : Instance → Entry → Seat
seat_of I e = record { buffer = e.0; span = record { start = e.1; stop = top I e } }

-- a seat of a buffer of the instance that ends at 2^53 or below, so that no sum leaves 64 bits
pub record IsSeat (I : Instance) (s : Seat) : Type 0 where
  pub in_range : s.buffer < length I
  pub limit : s.span.stop ≤ 2 ^ 53

-- the starts never fall
abbrev pub AreInOrder : List Seat → Type 0
AreInOrder seats = IsNonDecreasingBy (λ (s : Seat). s.span.start) seats

-- seats of buffers of the instance, by rising start
pub record AreSeats (I : Instance) (seats : List Seat) : Type 0 where
  pub each : All (IsSeat I) seats
  pub in_order : AreInOrder seats
