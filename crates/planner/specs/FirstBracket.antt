-- The bracket from which the least capacity is sought: the lower bound and the best start.
use Rattle.std.specs.Prelude.{◌≡◌, ℕ, ◌-◌, ◌<◌, ◌≤◌, ◌^◌, Option}
use Rattle.std.specs.declared.option.Option.TheVariants.{Some, None}
use Rattle.dsa_terms.specs.Bounds.{bound_modulus, heights, lower_bound, stack}
use Rattle.dsa_terms.specs.Buffers.{Instance}
use Rattle.dsa_terms.specs.Claims.{IsIn}
use Rattle.dsa_terms.specs.Layouts.{IsLayout}
use Rattle.dsa_terms.specs.Logs.{Log}
use Rattle.dsa_terms.specs.Plans.{layout_height}
use Rattle.dsa_terms.specs.Starts.{best_start}
use Rattle.lower_bounds.specs.Best.{IsBoundOf}
use Rattle.lower_bounds.specs.BoundMoment.{IsBoundMoment}
use Rattle.lower_bounds.specs.declared.value.Bound.{Bound}
use Rattle.min_capacity.specs.declared.brackets.Bracket.{Bracket}
use Rattle.planner.specs.Decides.{IsStackRefutation}

-- the lower bound of the instance, with its modulus, its moment and the least height that reaches it there
pub record IsLowerBound (I : Instance) (b : Bound) : Type 0 where
  pub capacity : b.capacity ≡ lower_bound I
  pub modulus : b.modulus ≡ bound_modulus I
  pub moment : 1 ≤ b.capacity → IsBoundMoment I b.moment
  pub reached : IsBoundOf I b
  pub from : 1 ≤ b.capacity → IsIn b.height (heights I b.modulus)
  pub least : (H : ℕ) → IsIn H (heights I b.modulus) → stack I b.moment H b.modulus ≡ b.capacity → b.height ≤ H

-- there is no log where the bound is 0, and else it is the bound's at one less
abbrev pub IsLogBelow : Instance → ℕ → Option Log → Type 0
IsLogBelow I bound None = bound ≡ 0
IsLogBelow I bound (Some log) = (1 ≤ bound) × IsStackRefutation I (bound - 1) log

-- from the lower bound, with the log below it, to the height of the best start, which is its layout and ends below 2^54
pub record IsFirstBracket (I : Instance) (b : Bracket) : Type 0 where
  pub low : b.low ≡ lower_bound I
  pub log : IsLogBelow I (lower_bound I) b.log
  pub high : b.high ≡ layout_height I (best_start I)
  pub limit : b.high < 2 ^ 54
  pub best : b.layout.items ≡ best_start I
  pub layout : IsLayout I b.high b.layout.items
