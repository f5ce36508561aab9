-- Where a buffer of size 3 ends, and one of size 1 that stands at multiples of 4 alone.
use Rattle.std.proofs.Common.{◌≡◌, ◌^◌, ◌<◌, ◌≤◌, [], ◌∷◌, inl, inr, refl, arith}
use Rattle.branching.proofs.Words.{buffer, Claim, Entry, IsIn, up, small_below}
use Rattle.conflicts.specs.Ends.{end_of}
use Rattle.claim_levels.proofs.LevelFacts.{differ}
use Rattle.branching.specs.Endings.{IsLeastEnding}

-- the bound 2 is met at 4
five_for_aligned : end_of small_below (1, 2) ≡ 5
unfolding end_of up buffer
five_for_aligned = refl

abbrev claim : Claim
claim = (0, 1) ∷ (1, 0) ∷ []

-- buffer 0 ends at 4, and buffer 1 at 1
one_is_least : IsLeastEnding small_below claim 2 (record { buffer = 1; end = 1 })
unfolding end_of up buffer
one_is_least = record { least = least; is_end = λ lt. (inr (inl refl), refl) }
  where
    least : (e : Entry) → IsIn e claim → e.0 < 2 → 1 ≤ end_of small_below e
    least e (inl q) lt = rw q (omega arith)
    least e (inr (inl q)) lt = rw q (omega arith)
    least e (inr (inr z)) lt = absurd z

four_is_not : IsLeastEnding small_below claim 2 (record { buffer = 0; end = 4 }) → ⊥
unfolding end_of up buffer
four_is_not h = let k : 4 ≤ 1 = h.least (1, 0) (inr (inl refl)) (omega arith) in omega arith

-- of the buffers below 1 it is
four_of_the_first : IsLeastEnding small_below claim 1 (record { buffer = 0; end = 4 })
unfolding end_of up buffer
four_of_the_first = record { least = least; is_end = λ lt. (inl refl, refl) }
  where
    least : (e : Entry) → IsIn e claim → e.0 < 1 → 4 ≤ end_of small_below e
    least e (inl q) lt = rw q (omega arith)
    least e (inr (inl q)) lt = absurd (let k : e.0 ≡ 1 = rw q refl in omega arith)
    least e (inr (inr z)) lt = absurd z

-- none ends at 0
zero_is_no_end : IsLeastEnding small_below claim 2 (record { buffer = 1; end = 0 }) → ⊥
unfolding end_of up buffer
zero_is_no_end h = differ 0 1 (omega arith) (h.is_end (omega arith)).1

above_all_of_none : IsLeastEnding small_below [] 2 (record { buffer = 0; end = 2 ^ 63 })
above_all_of_none = record { least = λ e i lt. absurd i; is_end = λ lt. absurd (omega arith) }
