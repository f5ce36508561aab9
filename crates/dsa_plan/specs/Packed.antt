-- What packing answers of an instance.
use Rattle.std.specs.Prelude.{◌≡◌, ◌<◌, ◌≤◌, ◌-◌, ℕ, List, Option, min}
use Rattle.dsa_terms.specs.Bounds.{lower_bound}
use Rattle.dsa_terms.specs.Buffers.{Instance}
use Rattle.dsa_terms.specs.Layouts.{IsInfeasible, IsLayout, IsLeast}
use Rattle.dsa_terms.specs.Logs.{Log}
use Rattle.dsa_terms.specs.Plans.{layout_height}
use Rattle.dsa_terms.specs.Starts.{best_start}
use Rattle.dsa_model.specs.Limits.{number_limit}
use Rattle.packer.specs.Packs.{RefutesOneLess}
use Rattle.dsa_plan.specs.declared.answers.LeastAnswer.{LeastAnswer}
use Rattle.dsa_plan.specs.declared.answers.LeastAnswer.TheVariants.{Least, Open}

-- how many of so many steps are taken
abbrev pub taken : ℕ → ℕ
taken steps = min steps number_limit

-- the capacity is the least one, and the offsets are a layout of that height; a log refutes one byte less, the bound's
-- or one with no more lines than steps
pub record IsPackedLeast (I : Instance) (C steps : ℕ) (offsets : List ℕ) : Type 0 where
  pub refutation : Option Log
  pub refuted : RefutesOneLess I C steps refutation
  pub least : IsLeast I C
  pub layout : IsLayout I C offsets
  pub its_height : layout_height I offsets ≡ C

-- the least capacity lies between the ends, and the offsets are a layout of the height of the upper one, which is no
-- higher than the best start; a log refutes one byte less than the lower one, the bound's or one with no more lines
-- than steps
pub record IsPackedBetween (I : Instance) (low high steps : ℕ) (offsets : List ℕ) : Type 0 where
  pub refutation : Option Log
  pub refuted : RefutesOneLess I low steps refutation
  pub ends_apart : low < high
  pub from_bound : lower_bound I ≤ low
  pub none_below : IsInfeasible I (low - 1)
  pub to_best : high ≤ layout_height I (best_start I)
  pub layout : IsLayout I high offsets
  pub its_height : layout_height I offsets ≡ high

-- what each answer says of the least capacity and the offsets; a fault and want of memory say nothing of them
abbrev pub IsPackAnswer : Instance → ℕ → List ℕ → LeastAnswer → Type 0
IsPackAnswer I steps offsets (Least C) = IsPackedLeast I C steps offsets
IsPackAnswer I steps offsets (Open low high) = IsPackedBetween I low high steps offsets
IsPackAnswer I steps offsets _ = Unit {0}
