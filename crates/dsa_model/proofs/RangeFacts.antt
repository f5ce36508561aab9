-- Worked facts of ranges of moments.
use Rattle.std.proofs.Common.{◌≡◌, ℕ, true, false, not, ◌||◌, ◌&&◌, nat_le, nat_lt, [], ◌∷◌, map, Some, None, replicate, refl, arith}
use Rattle.std.proofs.lemmas.Bool.Decides.{nat_tests}
use Rattle.dsa_terms.specs.Buffers.{is_live}
use Rattle.dsa_model.specs.Buffer.{gap_list_fault, lasting}
use Rattle.dsa_model.specs.LiveRanges.{AreApartFrom, AreLiveRanges, is_in, range_of}
use Rattle.dsa_model.specs.declared.buffer_fault.BufferFault.TheVariants as fault

-- ---- moments in ranges: 2..4 and 6..7
in_two : map (is_in ((2, 4) ∷ (6, 7) ∷ [])) (1 ∷ 2 ∷ 3 ∷ 4 ∷ 5 ∷ 6 ∷ 7 ∷ [])
    ≡ false ∷ true ∷ true ∷ false ∷ false ∷ true ∷ false ∷ []
in_two = refl

-- ---- no range is empty
of_two_moments : range_of 3 5 ≡ (3, 5) ∷ []
of_two_moments = refl

of_none : range_of 5 5 ≡ []
of_none = refl

of_less_than_none : range_of 6 5 ≡ []
of_less_than_none = refl

-- ---- ranges that are apart: 2..4 and 5..7
apart : AreApartFrom 2 ((2, 4) ∷ (5, 7) ∷ [])
apart = (omega arith, omega arith, (omega arith, omega arith, tt))

begins_too_early : AreApartFrom 3 ((2, 4) ∷ (5, 7) ∷ []) → ⊥
begins_too_early h = let k = h.0 in omega arith

touching : AreApartFrom 2 ((2, 4) ∷ (4, 7) ∷ []) → ⊥
touching h = let k = h.2.0 in omega arith

empty : AreApartFrom 2 ((2, 4) ∷ (5, 5) ∷ []) → ⊥
empty h = let k = h.2.1 in omega arith

falling : AreApartFrom 2 ((5, 7) ∷ (2, 4) ∷ []) → ⊥
falling h = let k = h.2.0 in omega arith

-- ---- live ranges: a lifetime 0..10 with the gaps 5..7 and 4..6 is live in 0..4 and 7..10
around_gaps : AreLiveRanges (lasting 0 10 ((5, 7) ∷ (4, 6) ∷ [])) ((0, 4) ∷ (7, 10) ∷ [])
unfolding is_live
around_gaps = record {
  apart = (omega arith, omega arith, (omega arith, omega arith, tt));
  live = λ t. live t;
}
  where
    live : (t : ℕ) →
        (nat_le 0 t && nat_lt t 10 && not ((nat_le 5 t && nat_lt t 7) || ((nat_le 4 t && nat_lt t 6) || false)))
        ≡ ((nat_le 0 t && nat_lt t 4) || ((nat_le 7 t && nat_lt t 10) || false))
    live t = grind (arith, nat_tests)

in_the_gap : AreLiveRanges (lasting 0 10 ((4, 6) ∷ [])) ((0, 10) ∷ []) → ⊥
unfolding is_live
in_the_gap h = let k = h.live 4 in cc

one_missing : AreLiveRanges (lasting 0 10 ((4, 6) ∷ [])) ((0, 4) ∷ []) → ⊥
unfolding is_live
one_missing h = let k = h.live 6 in cc

-- ---- the gaps by themselves: nothing is said of what they leave
gap_of_all_is_a_gap : gap_list_fault (lasting 2 9 ((2, 9) ∷ [])) ≡ None
gap_of_all_is_a_gap = refl

gap_too_many : gap_list_fault (lasting 0 2 (replicate 65 (0, 1))) ≡ Some fault.TooManyGaps
gap_too_many = refl
