-- Lists as the code keeps them.
use Rattle.std.specs.Prelude.{ℕ, List, slice_index_or}
use Rattle.std.specs.Global.{Vec}

-- the numbers of a vector
abbrev pub items_of : Vec ℕ → List ℕ
items_of v = v.items

-- the pair at a place, or (0, 0) past the end
abbrev pub pair_at : List (ℕ × ℕ) → ℕ → ℕ × ℕ
pair_at pairs k = slice_index_or pairs k (0, 0)
