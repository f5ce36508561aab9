-- Moments that two buffers share or agree at, and the first overlap of two.
use Rattle.std.proofs.Common.{◌≡◌, ℕ, zero, suc, ◌+◌, ◌<◌, ◌≤◌, ◌⊎◌, inl, inr, true, false, [], ◌∷◌, map, Some, None, refl, arith}
use Rattle.dsa_terms.specs.Buffers.{Buffer, Instance, is_live, buffer, some_before, do_share}
use Rattle.dsa_terms.proofs.Moments.{do_share-false, and_true}
use Rattle.dsa_terms.proofs.Lists.{true_or_false}
use Rattle.dsa_model.specs.Buffer.{buffer_of, lasting}
use Rattle.dsa_model.specs.Moments.{IsLeastFrom, IsLeastMoment, are_live}
use Rattle.dsa_model.specs.LayoutFaults.{is_unaligned, is_above, are_apart, IsOverlap}

-- a lifetime 0..10 with the gap 4..6
abbrev gapped : Buffer
gapped = lasting 0 10 ((4, 6) ∷ [])

-- ---- both live: beside 4..7 from 6 on
live_together :
    map (are_live gapped (lasting 4 7 [])) (3 ∷ 4 ∷ 5 ∷ 6 ∷ 7 ∷ []) ≡ false ∷ false ∷ false ∷ true ∷ false ∷ []
unfolding is_live
live_together = refl

first_at_6 : IsLeastFrom (are_live gapped (lasting 4 7 [])) 0 6
unfolding is_live
first_at_6 = record { not_before = omega arith; holds = refl; least = λ t from lt. least t lt }
  where
    least : (t : ℕ) → t < 6 → are_live gapped (lasting 4 7 []) t ≡ false
    least zero lt = refl
    least (suc zero) lt = refl
    least (suc (suc zero)) lt = refl
    least (suc (suc (suc zero))) lt = refl
    least (suc (suc (suc (suc zero)))) lt = refl
    least (suc (suc (suc (suc (suc zero))))) lt = refl
    least (suc (suc (suc (suc (suc (suc t)))))) lt = absurd (omega arith)

-- the moment 6 is the answer, and no answer would be wrong
answer_6 : IsLeastMoment (are_live gapped (lasting 4 7 [])) 0 (Some 6)
answer_6 = first_at_6

not_no_answer : IsLeastMoment (are_live gapped (lasting 4 7 [])) 0 None → ⊥
unfolding is_live
not_no_answer none = let h = none 6 (omega arith) in cc

-- beside 0..3 the moments 0, 1 and 2: from 1 on 1 is the least, and neither 2 nor 0
least_from_1 : IsLeastFrom (are_live gapped (lasting 0 3 [])) 1 1
unfolding is_live
least_from_1 = record { not_before = omega arith; holds = refl; least = λ t from lt. absurd (omega arith) }

later_is_not_least : IsLeastFrom (are_live gapped (lasting 0 3 [])) 1 2 → ⊥
unfolding is_live
later_is_not_least l = let h = l.least 1 (omega arith) (omega arith) in cc

before_is_not_least : IsLeastFrom (are_live gapped (lasting 0 3 [])) 1 0 → ⊥
before_is_not_least l = let h = l.not_before in omega arith

not_live_at_5 : IsLeastFrom (are_live gapped (lasting 4 7 [])) 0 5 → ⊥
unfolding is_live
not_live_at_5 l = let h = l.holds in cc

-- beside 4..6, which fills the gap, there is none
none_in_gap : IsLeastMoment (are_live gapped (lasting 4 6 [])) 0 None
unfolding do_share some_before is_live
none_in_gap t from = close (true_or_false (are_live gapped (lasting 4 6 []) t))
  where
    close : (are_live gapped (lasting 4 6 []) t ≡ true) ⊎ (are_live gapped (lasting 4 6 []) t ≡ false) →
        are_live gapped (lasting 4 6 []) t ≡ false
    close (inl h) =
        let q = and_true (is_live gapped t) (is_live (lasting 4 6 []) t) h in
        absurd (do_share-false gapped (lasting 4 6 []) t refl q.0 q.1)
    close (inr h) = h

-- ---- offsets: 6 is no multiple of 4, and 8 is
not_aligned : map (is_unaligned (buffer_of 0 1 3 4 [] 0)) (0 ∷ 6 ∷ 8 ∷ []) ≡ false ∷ true ∷ false ∷ []
not_aligned = refl

-- size 3 at 4 ends at 7
ends_above : map (λ C. is_above C (buffer_of 0 1 3 4 [] 0) 4) (6 ∷ 7 ∷ []) ≡ true ∷ false ∷ []
ends_above = refl

-- size 3 at 0 and size 5 at 3 meet, in either order
met : are_apart (buffer_of 0 1 3 1 [] 0) 0 (buffer_of 0 1 5 1 [] 0) 3 ≡ true
met = refl

met_above : are_apart (buffer_of 0 1 3 1 [] 0) 5 (buffer_of 0 1 5 1 [] 0) 0 ≡ true
met_above = refl

one_nearer : are_apart (buffer_of 0 1 3 1 [] 0) 0 (buffer_of 0 1 5 1 [] 0) 2 ≡ false
one_nearer = refl

one_nearer_above : are_apart (buffer_of 0 1 3 1 [] 0) 4 (buffer_of 0 1 5 1 [] 0) 0 ≡ false
one_nearer_above = refl

-- ---- overlaps: size 4 in 0..5 and in 4..8, at 0 and 2, from moment 4 on
abbrev crossed : Instance
crossed = buffer_of 0 5 4 1 [] 0 ∷ buffer_of 4 8 4 1 [] 0 ∷ []

crossing : IsOverlap crossed (0 ∷ 2 ∷ []) 0 1 4
unfolding buffer is_live
crossing = record {
  in_order = omega arith;
  in_range = omega arith;
  not_apart = not_apart;
  first_moment = record { not_before = omega arith; holds = refl; least = λ t from lt. least t lt };
}
  where
    not_apart : (0 + 4 ≤ 2) ⊎ (2 + 4 ≤ 0) → ⊥
    not_apart (inl h) = omega arith
    not_apart (inr h) = omega arith

    least : (t : ℕ) → t < 4 → are_live (buffer crossed 0) (buffer crossed 1) t ≡ false
    least zero lt = refl
    least (suc zero) lt = refl
    least (suc (suc zero)) lt = refl
    least (suc (suc (suc zero))) lt = refl
    least (suc (suc (suc (suc t)))) lt = absurd (omega arith)

-- at 0 and 4 they are apart, the first comes first, and there is no third
apart : IsOverlap crossed (0 ∷ 4 ∷ []) 0 1 4 → ⊥
unfolding buffer
apart o = o.not_apart (inl (omega arith))

second_first : IsOverlap crossed (0 ∷ 2 ∷ []) 1 0 4 → ⊥
second_first o = let h = o.in_order in omega arith

no_third : IsOverlap crossed (0 ∷ 2 ∷ []) 0 2 4 → ⊥
no_third o = let h = o.in_range in omega arith

-- at 3 the second is not live yet
not_yet : IsOverlap crossed (0 ∷ 2 ∷ []) 0 1 3 → ⊥
unfolding buffer is_live
not_yet o = let h = o.first_moment.holds in cc
