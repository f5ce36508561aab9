-- The six starts, the best of them, and the plan and the hunt that stand on them.
use Rattle.std.specs.Prelude.{ℕ, nat_le, List, [], ◌++◌, map, slice_index_or, Option}
use Rattle.std.specs.List.{list_all, position_or_len}
use Rattle.dsa_terms.specs.Buffers.{Instance}
use Rattle.dsa_terms.specs.Plans.{layout_height, plan, hunt}
use Rattle.dsa_terms.specs.Fits.{first_fit, best_fit}
use Rattle.dsa_terms.specs.Orders.{orders}

-- first-fit over each of the three orders, then best-fit over each
unfoldable pub starts : Instance → List (List ℕ)
starts I = map (first_fit I) (orders I) ++ map (best_fit I) (orders I)

-- the place of the first of the heights that none is below
unfoldable pub lowest_place : List ℕ → ℕ
lowest_place heights = position_or_len (λ h. list_all (nat_le h) heights) heights

-- the first start of least height
unfoldable pub best_start : Instance → List ℕ
best_start I = slice_index_or (starts I) (lowest_place (map (layout_height I) (starts I))) []

-- the plan over the six starts
unfoldable pub planned : Instance → ℕ → Option (List ℕ)
planned I C = plan (starts I) I C

-- the hunt over the six starts
unfoldable pub hunted : Instance → ℕ → ℕ → ℕ
hunted I a b = hunt (starts I) I a b
