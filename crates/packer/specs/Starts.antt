-- The bracket from which packing goes on.
use Rattle.std.specs.Prelude.{◌≡◌, ◌-◌, ◌<◌, ◌≤◌, ◌^◌}
use Rattle.std.specs.declared.option.Option.TheVariants.{Some}
use Rattle.dsa_terms.specs.Bounds.{lower_bound}
use Rattle.dsa_terms.specs.Buffers.{Instance}
use Rattle.dsa_terms.specs.Logs.{Log}
use Rattle.dsa_terms.specs.Plans.{layout_height}
use Rattle.dsa_terms.specs.Starts.{best_start}
use Rattle.min_capacity.specs.Brackets.{IsBracket}
use Rattle.min_capacity.specs.declared.brackets.Bracket.{Bracket}
use Rattle.planner.specs.Decides.{IsBoundLog}

-- a bracket from the lower bound, with the bound's log below it, to a layout that is no higher than the best start
pub record IsOpenFrom (I : Instance) (b : Bracket) : Type 0 where
  pub bracket : IsBracket I b
  pub positive : 1 ≤ b.low
  pub at_bound : b.low ≡ lower_bound I
  pub bound_log : Log
  pub its_log : b.log ≡ Some bound_log
  pub by_bound : IsBoundLog I (b.low - 1) bound_log
  pub to_best : b.high ≤ layout_height I (best_start I)
  pub limit : b.high < 2 ^ 54
