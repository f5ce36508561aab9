-- Brackets that are reached within a number of steps.
use Rattle.std.specs.Prelude.{ℕ, ◌-◌, ◌≤◌, ◌⊎◌, ⊤, length, Option}
use Rattle.std.specs.declared.option.Option.TheVariants.{Some, None}
use Rattle.dsa_terms.specs.Bounds.{lower_bound}
use Rattle.dsa_terms.specs.Buffers.{Instance}
use Rattle.dsa_terms.specs.Logs.{Log}
use Rattle.dsa_terms.specs.Plans.{layout_height}
use Rattle.dsa_terms.specs.Starts.{best_start}
use Rattle.min_capacity.specs.Brackets.{IsBracket}
use Rattle.min_capacity.specs.declared.brackets.Bracket.{Bracket}
use Rattle.planner.specs.Decides.{IsBoundLog}

-- there is no log, or it is the bound's at one less than `low`, or it has no more lines than steps
abbrev pub IsLogWithin : Instance → ℕ → ℕ → Option Log → Type 0
IsLogWithin I steps low None = ⊤
IsLogWithin I steps low (Some log) = IsBoundLog I (low - 1) log ⊎ (length log.lines ≤ steps)

-- a bracket between the lower bound and the best start, whose log takes no more than the steps
pub record IsReached (I : Instance) (steps : ℕ) (b : Bracket) : Type 0 where
  pub bracket : IsBracket I b
  pub positive : 1 ≤ b.low
  pub from_bound : lower_bound I ≤ b.low
  pub to_best : b.high ≤ layout_height I (best_start I)
  pub log : IsLogWithin I steps b.low b.log
