-- What stands beside a buffer in time.
use Rattle.std.specs.Prelude.{◌≡◌, ◌*◌, ◌+◌, ◌<◌, length}
use Rattle.std.specs.List.{All}
use Rattle.dsa_terms.specs.Buffers.{Instance}
use Rattle.placing_search.specs.declared.sides.Sides.{Sides}

-- a column on the left and one on the right for each buffer, within all columns
pub record AreSidesOf (I : Instance) (s : Sides) : Type 0 where
  pub left_count : length s.left.items ≡ length I
  pub right_count : length s.right.items ≡ length I
  pub left : All (λ column. column < 2 * length I + 2) s.left.items
  pub right : All (λ column. column < 2 * length I + 2) s.right.items
  pub columns : length s.bare.items ≡ 2 * length I + 2
  pub load_count : length s.loads.items ≡ 2 * length I + 2
