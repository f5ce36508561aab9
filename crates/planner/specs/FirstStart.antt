-- The first start that is within a capacity, and the best start.
use Rattle.std.specs.Prelude.{◌≡◌, ℕ, List, nat_le, find, Option, Some, None}
use Rattle.dsa_terms.specs.Buffers.{Instance}
use Rattle.dsa_terms.specs.Plans.{layout_height}
use Rattle.dsa_terms.specs.Starts.{best_start, starts}
use Rattle.first_fit.specs.Starts.{IsStart, offsets_in}
use Rattle.first_fit.specs.declared.start_list.Start.{Start}
use Rattle.planner.specs.declared.starting.Fitting.{Fitting}
use Rattle.planner.specs.declared.starting.Fitting.TheVariants.{Within, Past}

-- the first of the six starts whose height is at most C, if there is one
abbrev pub start_within : Instance → ℕ → Option (List ℕ)
start_within I C = find (λ offsets. nat_le (layout_height I offsets) C) (starts I)

-- a start, with its height, that is the best one
pub record IsBestStart (I : Instance) (s : Start) : Type 0 where
  pub start : IsStart I s
  pub best : offsets_in s ≡ best_start I

-- these offsets are the first start within the capacity, or there is none and this is the best start
abbrev pub IsFittingOf : Instance → ℕ → Fitting → Type 0
IsFittingOf I C (Within offsets) = start_within I C ≡ Some offsets.items
IsFittingOf I C (Past best) = (start_within I C ≡ None) × IsBestStart I best
