-- Worked facts: a log of one line, by which a buffer cannot start at 3 or above, and claims that it covers or not.
use Rattle.std.proofs.Common.{◌≡◌, ℕ, [], ◌∷◌, inl, inr, refl, sym, ap, arith}
use Rattle.dsa_terms.specs.Buffers.{Buffer, Instance, buffer}
use Rattle.dsa_terms.specs.Claims.{Covers, Entry, up}
use Rattle.dsa_terms.specs.Logs.{Line, Over, claim_of}
use Rattle.line_index.specs.Covered.{IsCoveredBy, NoneCovers}

abbrev plain : ℕ → ℕ → ℕ → ℕ → Buffer
plain lower upper size alignment = record
    { lower = lower; upper = upper; size = size; alignment = alignment; gaps = []; lowest = 0 }

-- a buffer of size 3 beside one of size 1 that stands at multiples of 4 alone
abbrev two : Instance
two = plain 0 1 3 1 ∷ plain 0 1 1 4 ∷ []

abbrev tall : Line
tall = Over ((1, 3) ∷ []) 0 3 1

-- the low of buffer 1 with the bound 1 is 4
tall_covers : Covers two (claim_of tall) ((1, 1) ∷ [])
unfolding up buffer
tall_covers e (inl q) =
    ((1, 1), inl refl, ap (λ (e : Entry). e.0) (sym q), (let b : e.1 ≡ 3 = ap (λ (e : Entry). e.1) q in omega arith))
tall_covers e (inr j) = absurd j

covers_a_lower_bound : IsCoveredBy two (tall ∷ []) ((1, 1) ∷ []) 0
covers_a_lower_bound = record { limit = omega arith; line = tall; stands = refl; covers = tall_covers }

there_is_no_second_line : IsCoveredBy two (tall ∷ []) ((1, 1) ∷ []) 1 → ⊥
there_is_no_second_line c = let e = c.stands in absurd cc

no_line_covers : NoneCovers two [] ((1, 1) ∷ [])
no_line_covers k line at covers = cc

one_covers : NoneCovers two (tall ∷ []) ((1, 1) ∷ []) → ⊥
one_covers h = h 0 tall refl tall_covers
