-- The three orders in which the starts take the buffers.
use Rattle.std.specs.Prelude.{ℕ, ◌-◌, ◌*◌, Bool, List, [], ◌∷◌, length}
use Rattle.dsa_terms.specs.Buffers.{Buffer, Instance, buffer}
use Rattle.dsa_terms.specs.Sorts.{comes_first, ordered_by}
use Rattle.dsa_terms.specs.Parts.{numbers}

-- the greater measure comes first, and of equal ones the smaller number
unfoldable pub falls_by : (Buffer → ℕ) → Instance → ℕ → ℕ → Bool
falls_by measure I b c = comes_first (measure (buffer I c)) (measure (buffer I b)) b c

-- the smaller measure comes first, and of equal ones the smaller number
unfoldable pub rises_by : (Buffer → ℕ) → Instance → ℕ → ℕ → Bool
rises_by measure I b c = comes_first (measure (buffer I b)) (measure (buffer I c)) b c

-- size times lifetime, gaps included
abbrev pub area : Buffer → ℕ
area b = b.size * (b.upper - b.lower)

-- all numbers by size falling, by lower rising, and by size times lifetime falling
unfoldable pub orders : Instance → List (List ℕ)
orders I =
    ordered_by (falls_by (λ (b : Buffer). b.size) I) (numbers (length I))
    ∷ ordered_by (rises_by (λ (b : Buffer). b.lower) I) (numbers (length I))
    ∷ ordered_by (falls_by area I) (numbers (length I))
    ∷ []
