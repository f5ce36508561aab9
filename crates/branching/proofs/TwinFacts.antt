-- Worked facts: three buffers, of which the first two are alike and the third has another alignment.
use Rattle.std.proofs.Common.{◌≡◌, ℕ, true, false, [], ◌∷◌, refl, nat_lt, arith}
use Rattle.std.proofs.lemmas.Bool.Decides.{nat_tests}
use Rattle.branching.proofs.Words.{Buffer, Instance, buffer, have_same_moments, is_live, some_before, up, is_twin, two_of_four}
use Rattle.prune_rules.specs.Twins.{are_alike}
use Rattle.branching.specs.TwinMarks.{AreTwinMarks, HasNoTwin}

abbrev aligned : ℕ → Buffer
aligned alignment = record { lower = 0; upper = 1; size = 3; alignment = alignment; gaps = []; lowest = 0 }

abbrev three : Instance
three = aligned 2 ∷ aligned 2 ∷ aligned 4 ∷ []

first_two_are_alike : are_alike (aligned 2) (aligned 2) ≡ true
unfolding have_same_moments some_before is_live
first_two_are_alike = refl

last_two_are_not : are_alike (aligned 2) (aligned 4) ≡ false
last_two_are_not = refl

a_twin_is_marked : AreTwinMarks three (false ∷ false ∷ false ∷ []) → ⊥
unfolding have_same_moments some_before is_twin up is_live buffer
a_twin_is_marked h = let k : true ≡ false = h 1 refl (0, 0) (1, 0) refl in absurd cc

none_need_be_told : AreTwinMarks three []
none_need_be_told b h = absurd cc

-- ---- of two buffers that are alike the first one has no twin before it, and the second one has
none_below_zero : (n : ℕ) → nat_lt n 0 ≡ false
none_below_zero n = grind (arith, nat_tests)

first_has_none : HasNoTwin two_of_four 0
unfolding is_twin
first_has_none f e q = rw (q, none_below_zero f.0) refl

second_has_one : HasNoTwin two_of_four 1 → ⊥
unfolding have_same_moments some_before is_twin up is_live buffer
second_has_one h = let k : true ≡ false = h (0, 0) (1, 0) refl in absurd cc
