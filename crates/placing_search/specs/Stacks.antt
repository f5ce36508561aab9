-- Stacks of all buffers.
use Rattle.std.specs.Prelude.{◌≡◌, ◌+◌, ◌*◌, ◌/◌, ◌^◌, ◌≤◌, length}
use Rattle.std.specs.List.{All}
use Rattle.dsa_terms.specs.Buffers.{Instance}
use Rattle.first_fit.specs.Rules.{IsOrderOf}
use Rattle.placing_search.specs.declared.stacking.Stack.{Stack}

-- an order of all buffers, an end for each place in it, for each buffer a bit and an offset that is not too large, and
-- a height and a load for each column
pub record IsStackOf (I : Instance) (s : Stack) : Type 0 where
  pub each_once : IsOrderOf I s.order.items
  pub end_count : length s.ends.items ≡ length I
  pub count : length s.lows.items ≡ length I
  pub bits : length s.unstacked.items ≡ length I / 64 + 1
  pub columns : length s.tops.items ≡ 2 * length I + 2
  pub load_count : length s.loads.items ≡ 2 * length I + 2
  pub limit : All (λ low. low ≤ 2 ^ 61) s.lows.items
