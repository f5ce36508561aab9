-- The search without exclusions, the height of its seats, and the most work of a search.
use Rattle.std.specs.Prelude.{ℕ, zero, suc, ◌+◌, ◌*◌, max, true, List, [], ◌∷◌, length, Option}
use Rattle.dsa_terms.specs.Buffers.{Instance, buffer}
use Rattle.dsa_terms.specs.Claims.{Claim, Entry}
use Rattle.dsa_terms.specs.Search.{Rule, first_of}

-- all of them
abbrev pub all_taken : Rule
all_taken l e = true

-- the first placement where every buffer is a choice
unfoldable pub plain_first : Instance → ℕ → Claim → Option (List Entry)
plain_first I C l = first_of all_taken (length l) I C l

-- the greatest offset with its size, and 0 for no seats
abbrev pub height : Instance → List Entry → ℕ
height I [] = 0
height I (e ∷ es) = max (e.1 + (buffer I e.0).size) (height I es)

-- how many claims a search through k buffers can look at
abbrev pub most_work : ℕ → ℕ
most_work zero = 1
most_work (suc k) = 1 + suc k * most_work k
