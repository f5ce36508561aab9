-- Orders of the buffers with the place of each.
use Rattle.std.specs.Prelude.{◌≡◌, ◌<◌, length}
use Rattle.std.specs.List.{All}
use Rattle.dsa_terms.specs.Buffers.{Instance}
use Rattle.first_fit.specs.Rules.{IsOrderOf}
use Rattle.placing_search.specs.declared.rankings.Ranking.{Ranking}

-- an order of all buffers, and for each of them a place that is within it
pub record IsRankingOf (I : Instance) (r : Ranking) : Type 0 where
  pub each_once : IsOrderOf I r.order.items
  pub count : length r.places.items ≡ length I
  pub in_range : All (λ place. place < length I) r.places.items
