-- Steps that are too few.
use Rattle.std.specs.Prelude.{◌≡◌, ◌<◌, ◌≤◌, ℕ}
use Rattle.dsa_terms.specs.Bounds.{lower_bound}
use Rattle.dsa_terms.specs.Buffers.{Instance}
use Rattle.dsa_terms.specs.Parts.{whole_work}
use Rattle.dsa_terms.specs.Plans.{layout_height}
use Rattle.dsa_terms.specs.Starts.{best_start, hunted}
use Rattle.planner.specs.LeastCapacity.{TakesMoreThan}

-- k units are too few to decide C, which the lower bound L and the height H of the best start leave open
pub record IsShortOfWork (I : Instance) (C k L H : ℕ) : Type 0 where
  pub few : k < whole_work I C
  pub low : L ≡ lower_bound I
  pub high : H ≡ layout_height I (best_start I)
  pub not_below : L ≤ C
  pub below : C < H

-- k units are too few to hunt for the least capacity, which they leave open from L to H, between the lower bound and
-- the height of the best start: to halve to these ends and search once more may take more
pub record IsShortOfHunt (I : Instance) (k L H : ℕ) : Type 0 where
  pub few : k < hunted I (lower_bound I) (layout_height I (best_start I))
  pub from_bound : lower_bound I ≤ L
  pub to_best : H ≤ layout_height I (best_start I)
  pub one_more : TakesMoreThan I k L H
