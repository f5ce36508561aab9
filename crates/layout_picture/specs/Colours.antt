-- The colours of the buffers, as numbers from 0 to 7.
use Rattle.std.specs.Prelude.{ℕ, zero, suc, ◌+◌, ◌%◌, ◌==◌, ◌&&◌, ◌||◌, Bool, not, nat_lt, List, [], ◌∷◌, ◌++◌, length, slice_index, slice_index_or}
use Rattle.std.specs.List.{filter, list_any}
use Rattle.dsa_terms.specs.Buffers.{Instance, buffer, do_share}
use Rattle.dsa_terms.specs.Parts.{numbers}

-- where buffer b ends
abbrev pub end_of : Instance → List ℕ → ℕ → ℕ
end_of I offsets b = slice_index offsets b + (buffer I b).size

-- one ends where the other begins, and they share a moment
abbrev pub lie_upon : Instance → List ℕ → ℕ → ℕ → Bool
lie_upon I offsets b c =
    ((end_of I offsets b == slice_index offsets c) || (end_of I offsets c == slice_index offsets b))
    && do_share (buffer I b) (buffer I c)

-- the lifetime of one ends where that of the other begins
abbrev pub follow : Instance → ℕ → ℕ → Bool
follow I b c = ((buffer I b).upper == (buffer I c).lower) || ((buffer I c).upper == (buffer I b).lower)

-- some place is in both
abbrev pub overlap : Instance → List ℕ → ℕ → ℕ → Bool
overlap I offsets b c =
    nat_lt (slice_index offsets b) (end_of I offsets c) && nat_lt (slice_index offsets c) (end_of I offsets b)

-- buffers b and c touch: one lies upon the other, or one follows the other over a place that is in both
unfoldable pub touch : Instance → List ℕ → ℕ → ℕ → Bool
touch I offsets b c = lie_upon I offsets b c || (follow I b c && overlap I offsets b c)

-- buffer b has colour k, and touches the first one that has none
abbrev pub takes : Instance → List ℕ → List ℕ → ℕ → ℕ → Bool
takes I offsets colours k b = (slice_index colours b == k) && touch I offsets b (length colours)

-- some buffer takes colour k from the first one that has none
unfoldable pub is_taken : Instance → List ℕ → List ℕ → ℕ → Bool
is_taken I offsets colours k = list_any (takes I offsets colours k) (numbers (length colours))

-- the colour of the next buffer: the first of eight that is not taken, or by its number where all are
unfoldable pub next_colour : Instance → List ℕ → List ℕ → ℕ
next_colour I offsets colours =
    slice_index_or (filter (λ k. not (is_taken I offsets colours k)) (numbers 8)) 0 (length colours % 8)

-- the colours of the first n buffers
unfoldable pub colours_below : Instance → List ℕ → ℕ → List ℕ
colours_below I offsets zero = []
colours_below I offsets (suc n) =
    let before = colours_below I offsets n in before ++ next_colour I offsets before ∷ []

-- the colours of all buffers
unfoldable pub colours_of : Instance → List ℕ → List ℕ
colours_of I offsets = colours_below I offsets (length I)
