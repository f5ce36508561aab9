-- What stays open where the steps are used up.
use Rattle.std.specs.Prelude.{◌≡◌, ℕ, ◌-◌, ◌<◌, ◌≤◌, List, Option, IfSome, Some, length}
use Rattle.dsa_terms.specs.Bounds.{lower_bound}
use Rattle.dsa_terms.specs.Buffers.{Instance}
use Rattle.dsa_terms.specs.Layouts.{IsLayout}
use Rattle.dsa_terms.specs.Logs.{Log}
use Rattle.dsa_terms.specs.Parts.{whole_work}
use Rattle.dsa_terms.specs.Plans.{layout_height}
use Rattle.dsa_terms.specs.Starts.{best_start, planned}
use Rattle.dsa_search_laws.specs.Searches.{most_work}
use Rattle.min_capacity.specs.declared.brackets.Bracket.{Bracket}
use Rattle.planner.specs.Decides.{IsBoundLog, LeavesNoLayout}

-- the least capacity is open between the ends: the plan at the upper one is so high, and below the lower one none fits
pub record StaysOpen (I : Instance) (low high : ℕ) (offsets : List ℕ) (log : Log) : Type 0 where
  pub ends_apart : low < high
  pub positive : 1 ≤ low
  pub chosen : planned I high ≡ Some offsets
  pub layout : IsLayout I high offsets
  pub its_height : layout_height I offsets ≡ high
  pub refuted_below : LeavesNoLayout I (low - 1) log

-- so many steps are no more than were given, if a number was
abbrev pub AreGiven : Option ℕ → ℕ → Type 0
AreGiven steps n = IfSome steps (λ k. n ≤ k)

-- no number of steps is given, or at least the most that a search of all buffers can take
abbrev pub AreEnough : Instance → Option ℕ → Type 0
AreEnough I steps = IfSome steps (λ k. most_work (length I) ≤ k)

-- a number of steps was given, and it is below the work that may be needed
pub record AreTooFew (steps : Option ℕ) (work : ℕ) : Type 0 where
  pub number : ℕ
  pub given : steps ≡ Some number
  pub below_work : number < work

-- the capacity is open: between the lower bound, with its log, and the best start; its search was cut short
pub record IsSpentAt (I : Instance) (C : ℕ) (steps : Option ℕ) (b : Bracket) : Type 0 where
  pub bound_log : Log
  pub its_log : b.log ≡ Some bound_log
  pub stays_open : StaysOpen I b.low b.high b.layout.items bound_log
  pub low_is_bound : b.low ≡ lower_bound I
  pub high_is_best : b.high ≡ layout_height I (best_start I)
  pub layout_is_best : b.layout.items ≡ best_start I
  pub by_bound : IsBoundLog I (b.low - 1) bound_log
  pub from_low : b.low ≤ C
  pub below_high : C < b.high
  pub too_few : AreTooFew steps (whole_work I C)
