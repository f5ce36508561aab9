-- One more seat among those that are in order.
use Rattle.std.proofs.Common.{◌≡◌, ℕ, ◌≤◌, Bool, true, false, List, ◌∷◌, length, insert, leb, slice_index_or, arith}
use Rattle.std.proofs.lemmas.Bool.Decides.{nat_tests}
use Rattle.std.proofs.lemmas.List.Sorted.{IsNonDecreasingBy-insert, IsPermutation-insert}
use Rattle.std.specs.List.Sorted.{IsPartitionPoint, IsPermutation}
use Rattle.first_fit.specs.Seats.{AreInOrder}
use Rattle.first_fit.specs.declared.seats.Seat.{Seat}

-- whether the seat starts at the address or below
abbrev pub starts_by : ℕ → Seat → Bool
starts_by x s = leb s.span.start x

low : (a b : ℕ) → leb a b ≡ true → a ≤ b
low a b h = grind (arith, nat_tests)

high : (a b : ℕ) → leb a b ≡ false → b ≤ a
high a b h = grind (arith, nat_tests)

pub stay_in_order : (seats more : List Seat) (i : ℕ) (seat : Seat) → AreInOrder seats → i ≤ length seats →
    IsPartitionPoint (λ s. starts_by seat.span.start s ≡ true) (λ s. starts_by seat.span.start s ≡ false) seats i →
    more ≡ insert seats i seat → AreInOrder more
stay_in_order seats more i seat up within p e = rw e (IsNonDecreasingBy-insert (λ (s : Seat). s.span.start) seats i
    seat up within
    (λ k d lt. low (slice_index_or seats k d).span.start seat.span.start (p.0 k d (omega arith) lt))
    (λ k d le lt. high (slice_index_or seats k d).span.start seat.span.start (p.1 k d le lt)))

pub one_more : (seats more : List Seat) (i : ℕ) (seat : Seat) → more ≡ insert seats i seat →
    IsPermutation (seat ∷ seats) more
one_more seats more i seat e = rw e (IsPermutation-insert seats i seat)
