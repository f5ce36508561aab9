-- What is found of the least capacity.
use Rattle.std.specs.Prelude.{◌≡◌, ℕ, ◌+◌, ◌-◌, ◌/◌, ◌<◌, ◌≤◌, ◌↔◌, ◌⊎◌, ⊤, List, [], length, IfSome, Option}
use Rattle.std.specs.declared.option.Option.TheVariants.{Some, None}
use Rattle.dsa_terms.specs.Bounds.{lower_bound}
use Rattle.dsa_terms.specs.Buffers.{Instance}
use Rattle.dsa_terms.specs.Layouts.{IsLayout, IsLeast}
use Rattle.dsa_terms.specs.Logs.{Log}
use Rattle.dsa_terms.specs.Parts.{whole_work}
use Rattle.dsa_terms.specs.Plans.{layout_height}
use Rattle.dsa_terms.specs.Starts.{best_start, hunted, planned}
use Rattle.min_capacity.specs.declared.brackets.Bracket.{Bracket}
use Rattle.min_capacity.specs.declared.brackets.Least.{Least}
use Rattle.min_capacity.specs.declared.brackets.Least.TheVariants.{Exact, Open}
use Rattle.planner.specs.Decides.{LeavesNoLayout}
use Rattle.planner.specs.FirstBracket.{IsLogBelow}
use Rattle.planner.specs.Openings.{AreGiven, AreTooFew, StaysOpen}

-- there is no log for the capacity 0, and else it is one by which no layout fits within one less
abbrev pub RefutesBelow : Instance → ℕ → Option Log → Type 0
RefutesBelow I C None = C ≡ 0
RefutesBelow I C (Some log) = (1 ≤ C) × LeavesNoLayout I (C - 1) log

-- both ends are the least capacity, with the plan at it and the log below it; it is 0 for no buffers alone
pub record IsExactly (I : Instance) (b : Bracket) : Type 0 where
  pub ends_met : b.low ≡ b.high
  pub least : IsLeast I b.high
  pub chosen : planned I b.high ≡ Some b.layout.items
  pub layout : IsLayout I b.high b.layout.items
  pub its_height : layout_height I b.layout.items ≡ b.high
  pub refuted_below : RefutesBelow I b.high b.log
  pub zero_for_none : (I ≡ []) ↔ (b.high ≡ 0)

-- the work of halving from the lower bound and the height of the best start on
abbrev pub work_of_least : Instance → ℕ
work_of_least I = hunted I (lower_bound I) (layout_height I (best_start I))

-- the least capacity is open, and its searches were cut short
pub record IsOpenAfter (I : Instance) (steps : Option ℕ) (b : Bracket) : Type 0 where
  pub below_log : Log
  pub its_log : b.log ≡ Some below_log
  pub stays_open : StaysOpen I b.low b.high b.layout.items below_log
  pub from_bound : lower_bound I ≤ b.low
  pub to_best : b.high ≤ layout_height I (best_start I)
  pub too_few : AreTooFew steps (work_of_least I)

-- the least capacity is found, or stays open
abbrev pub FindsLeast : Instance → Option ℕ → Least → Type 0
FindsLeast I steps (Exact b) = IsExactly I b
FindsLeast I steps (Open b) = IsOpenAfter I steps b

-- to halve to these ends and search once more, at their middle, is more work than k; so k and the work of halving from
-- these ends on are together below the whole work and that of the one search
abbrev pub TakesMoreThan : Instance → ℕ → ℕ → ℕ → Type 0
TakesMoreThan I k low high = k + hunted I low high < work_of_least I + whole_work I ((low + high) / 2)

-- where it stays open, to halve to its ends and search once more is more work than the steps
abbrev pub HasHalved : Instance → Option ℕ → Least → Type 0
HasHalved I steps (Exact b) = ⊤
HasHalved I steps (Open b) = IfSome steps (λ k. TakesMoreThan I k b.low b.high)

-- the layout is the best start, or n is one at least
abbrev pub IsLayoutWithin : Instance → ℕ → List ℕ → Type 0
IsLayoutWithin I n offsets = (offsets ≡ best_start I) ⊎ (1 ≤ n)

-- the log is the bound's, or the lower end is above the bound and the log has no more than n lines
abbrev pub IsLogWithin : Instance → ℕ → ℕ → Option Log → Type 0
IsLogWithin I n low log =
    IsLogBelow I (lower_bound I) log
    ⊎ ((refutation : Log) × (log ≡ Some refutation) × (lower_bound I < low) × (length refutation.lines ≤ n))

-- where a number of steps is given, they are enough for a layout and a log below `low`: one for a layout that is not
-- the best start, and one for each line of a log that is not the bound's, which comes only where `low` is above the
-- bound
pub record AreWithinSteps (I : Instance) (steps : Option ℕ) (low : ℕ) (offsets : List ℕ) (refutation : Option Log) :
    Type 0 where
  pub layout_steps : ℕ
  pub log_steps : ℕ
  pub layout : IsLayoutWithin I layout_steps offsets
  pub log : IsLogWithin I log_steps low refutation
  pub given : AreGiven steps (layout_steps + log_steps)

-- the same of the layout and the log of a bracket
abbrev pub IsWithinSteps : Instance → Option ℕ → Bracket → Type 0
IsWithinSteps I steps b = AreWithinSteps I steps b.low b.layout.items b.log

-- where the lower end is the lower bound, the log is the bound's
abbrev pub IsByBoundAtLow : Instance → Bracket → Type 0
IsByBoundAtLow I b = b.low ≡ lower_bound I → IsLogBelow I (lower_bound I) b.log
