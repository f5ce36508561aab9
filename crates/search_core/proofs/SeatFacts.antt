-- Seats by offsets: of the buffers of the claim alone, whatever its bounds.
use Rattle.std.proofs.Common.{◌≡◌, [], ◌∷◌, refl}
use Rattle.search_core.specs.Seats.{seats_by}

first_and_third : seats_by (7 ∷ 0 ∷ 9 ∷ []) ((0, 1) ∷ (2, 5) ∷ []) ≡ (0, 7) ∷ (2, 9) ∷ []
first_and_third = refl

none_for_no_buffer : seats_by (7 ∷ 0 ∷ 9 ∷ []) [] ≡ []
none_for_no_buffer = refl

at_0_past_the_offsets : seats_by (7 ∷ []) ((1, 5) ∷ []) ≡ (1, 0) ∷ []
at_0_past_the_offsets = refl
