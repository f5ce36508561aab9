-- What holds along a climb and between climbs.
use Rattle.std.proofs.Common.{◌≡◌, ℕ, ◌<◌, ◌≤◌, ◌^◌, List, [], ◌∷◌, length, arith}
use Rattle.std.specs.List.{swap}
use Rattle.std.proofs.lemmas.List.Sorted.{IsPermutation-swap}
use Rattle.dsa_terms.specs.Buffers.{Instance}
use Rattle.dsa_terms.specs.Plans.{layout_height}
use Rattle.first_fit.specs.Rules.{IsOrderOf}
use Rattle.first_fit.specs.Starts.{IsStart}
use Rattle.placing_search.specs.Rankings.{IsRankingOf}
use Rattle.placing_search.specs.Stacks.{IsStackOf}
use Rattle.placing_search.specs.declared.rankings.Ranking.{Ranking}
use Rattle.placing_search.specs.declared.stacking.Stack.{Stack}
use Rattle.first_fit.specs.declared.start_list.Start.{Start}
use Rattle.row_orders.proofs.Sorting.{order_moved}

-- an order with two stacks and the height of the better one, after some of the placings
pub record IsClimbing (I : Instance) (ranking : Ranking) (best next : Stack) (height made passes : ℕ) : Type 0 where
  pub ranked : IsRankingOf I ranking
  pub best_stack : IsStackOf I best
  pub next_stack : IsStackOf I next
  pub limit : height ≤ 2 ^ 60
  pub within : made ≤ passes

-- the best layout after some of the placings, none of which was made where there was nothing to gain
pub record IsImproving (I : Instance) (start best : Start) (floor made passes : ℕ) : Type 0 where
  pub layout : IsStart I best
  pub height : best.height ≤ start.height
  pub within : made ≤ passes
  pub idle : start.height ≤ floor → (best ≡ start) × (made ≡ 0)

-- where a layout is higher than 0 there are buffers
pub some_buffers : (I : Instance) (s : Start) (floor : ℕ) → IsStart I s → floor < s.height → 0 < length I
unfolding layout_height
some_buffers [] s floor h lt = let e = h.height in absurd (omega arith)
some_buffers (b ∷ I) s floor h lt = omega arith

-- two buffers of an order that change their places leave an order
pub order_swapped : (I : Instance) (xs ys : List ℕ) (a b : ℕ) → a < length xs → b < length xs → ys ≡ swap xs a b →
    IsOrderOf I xs → IsOrderOf I ys
order_swapped I xs ys a b la lb e o = order_moved I xs ys (IsPermutation-swap xs ys a b la lb e) o
