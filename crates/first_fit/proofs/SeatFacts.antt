-- Seats of two buffers of size 3 aligned to four, and ranges below an address.
use Rattle.std.proofs.Common.{◌≡◌, ◌+◌, ◌^◌, ℕ, zero, suc, ◌<◌, ◌≤◌, inl, inr, [], ◌∷◌, refl, ap, subst, sym, lit<, lit≤, arith}
use Rattle.dsa_terms.specs.Buffers.{buffer}
use Rattle.dsa_terms.specs.Claims.{IsIn}
use Rattle.dsa_terms.specs.Fits.{top}
use Rattle.dsa_terms.proofs.Examples.{two_of_four}
use Rattle.dsa_terms.proofs.Places.{all_from_in}
use Rattle.first_fit.specs.Free.{IsBelow}
use Rattle.first_fit.specs.Seats.{AreInOrder, AreSeats, IsSeat, seat_of}
use Rattle.first_fit.specs.declared.seats.Seat.{Seat}

abbrev seat : ℕ → ℕ → ℕ → Seat
seat b start stop = record { buffer = b; span = record { start = start; stop = stop } }

second_seat : seat_of two_of_four (1, 4) ≡ seat 1 4 7
unfolding top buffer
second_seat = refl

not_a_byte_more : seat_of two_of_four (1, 4) ≡ seat 1 4 8 → ⊥
unfolding top buffer
not_a_byte_more e = apart (ap (λ (s : Seat). s.span.stop) e)
  where
    apart : ◌≡◌ {A = ℕ} 7 8 → ⊥
    apart k = omega arith

low_seat : IsSeat two_of_four (seat 0 0 3)
low_seat = record { in_range = lit< tt; limit = lit≤ tt }

high_seat : IsSeat two_of_four (seat 1 4 7)
high_seat = record { in_range = lit< tt; limit = lit≤ tt }

no_third : IsSeat two_of_four (seat 2 4 7) → ⊥
no_third s = let k : 2 < 2 = s.in_range in omega arith

past_the_limit : IsSeat two_of_four (seat 1 4 (2 ^ 53 + 1)) → ⊥
past_the_limit s = let k : 2 ^ 53 + 1 ≤ 2 ^ 53 = s.limit in omega arith

rising : AreInOrder (seat 0 0 3 ∷ seat 1 4 7 ∷ [])
rising zero zero d le lt = lit≤ tt
rising zero (suc zero) d le lt = lit≤ tt
rising (suc zero) (suc zero) d le lt = lit≤ tt
rising (suc i) zero d le lt = absurd (omega arith)
rising (suc (suc i)) (suc zero) d le lt = absurd (omega arith)
rising i (suc (suc j)) d le lt = absurd (omega arith)

not_falling : AreInOrder (seat 1 4 7 ∷ seat 0 0 3 ∷ []) → ⊥
not_falling up = let k : 4 ≤ 0 = up 0 1 (seat 0 0 0) (lit≤ tt) (lit< tt) in omega arith

both_seats : AreSeats two_of_four (seat 0 0 3 ∷ seat 1 4 7 ∷ [])
both_seats = record { each = all_from_in (IsSeat two_of_four) (seat 0 0 3 ∷ seat 1 4 7 ∷ []) each; in_order = rising }
  where
    each : (s : Seat) → IsIn s (seat 0 0 3 ∷ seat 1 4 7 ∷ []) → IsSeat two_of_four s
    each s (inl e) = subst (IsSeat two_of_four) (sym e) low_seat
    each s (inr (inl e)) = subst (IsSeat two_of_four) (sym e) high_seat
    each s (inr (inr i)) = absurd i

not_the_other_way : AreSeats two_of_four (seat 1 4 7 ∷ seat 0 0 3 ∷ []) → ⊥
not_the_other_way are = not_falling are.in_order

from_4 : IsBelow 4 (record { start = 4; stop = 7 })
from_4 = record { some = lit< tt; below = lit≤ tt }

from_above_3 : IsBelow 3 (record { start = 4; stop = 7 }) → ⊥
from_above_3 s = let k : 4 ≤ 3 = s.below in omega arith

no_addresses : IsBelow 4 (record { start = 4; stop = 4 }) → ⊥
no_addresses s = let k : 4 < 4 = s.some in omega arith
