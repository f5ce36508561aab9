-- What the answers say of an instance.
use Rattle.std.specs.Prelude.{◌≡◌, ◌<◌, ◌≤◌, ◌-◌, ℕ, List, length, Option, None, IfSome}
use Rattle.dsa_terms.specs.Bounds.{lower_bound}
use Rattle.dsa_terms.specs.Buffers.{Instance}
use Rattle.dsa_terms.specs.Layouts.{IsInfeasible, IsLeast}
use Rattle.dsa_terms.specs.Logs.{Log}
use Rattle.dsa_terms.specs.Parts.{whole_work}
use Rattle.dsa_terms.specs.Plans.{layout_height}
use Rattle.dsa_terms.specs.Starts.{best_start, planned}
use Rattle.planner.specs.Decides.{IsAnswered, LeavesNoLayout}
use Rattle.planner.specs.FirstStart.{start_within}
use Rattle.planner.specs.LeastCapacity.{AreWithinSteps, RefutesBelow, TakesMoreThan, work_of_least}
use Rattle.planner.specs.Openings.{AreGiven, AreTooFew}
use Rattle.dsa_plan.specs.declared.answers.Answer.{Answer}
use Rattle.dsa_plan.specs.declared.answers.Answer.TheVariants.{Fits, DoesNotFit, Open}
use Rattle.dsa_plan.specs.declared.answers.LeastAnswer.{LeastAnswer}
use Rattle.dsa_plan.specs.declared.answers.LeastAnswer.TheVariants.{Least, Open as LeftOpen}

-- the offsets are the plan, a layout; where no start is within the capacity, a step at least is given, if a number is
pub record IsPlanned (I : Instance) (C : ℕ) (steps : Option ℕ) (offsets : List ℕ) : Type 0 where
  pub plan : IsAnswered (planned I C) I C offsets
  pub searched : start_within I C ≡ None → AreGiven steps 1

-- there is no plan, and no layout by a log; where the lower bound leaves the capacity open, a step is given for each of
-- its lines, if a number is
pub record IsRefused (I : Instance) (C : ℕ) (steps : Option ℕ) : Type 0 where
  pub no_plan : planned I C ≡ None
  pub infeasible : IsInfeasible I C
  pub refutation : Log
  pub refuted : LeavesNoLayout I C refutation
  pub searched : lower_bound I ≤ C → AreGiven steps (length refutation.lines)

-- the steps are fewer than the work of the search, and neither the bound nor the starts decide
pub record IsCutShort (I : Instance) (C : ℕ) (steps : Option ℕ) : Type 0 where
  pub from_bound : lower_bound I ≤ C
  pub below_best : C < layout_height I (best_start I)
  pub too_few : AreTooFew steps (whole_work I C)

-- what each answer says of the capacity and the offsets; a fault of the arrays and want of memory say nothing of them
abbrev pub IsAnswer : Instance → ℕ → Option ℕ → List ℕ → Answer → Type 0
IsAnswer I C steps offsets Fits = IsPlanned I C steps offsets
IsAnswer I C steps offsets DoesNotFit = IsRefused I C steps
IsAnswer I C steps offsets Open = IsCutShort I C steps
IsAnswer I C steps offsets _ = Unit {0}

-- there is a log by which none fits within one byte less, unless `low` is 0, and the steps are enough for it and for
-- the offsets, where the starts and the bound do not give them
pub record HasLogBelow (I : Instance) (low : ℕ) (steps : Option ℕ) (offsets : List ℕ) : Type 0 where
  pub refutation : Option Log
  pub refuted : RefutesBelow I low refutation
  pub within_steps : AreWithinSteps I steps low offsets refutation

-- the capacity is the least one, and the offsets are the plan at it, a layout of that height; the steps are enough for
-- it and for a log by which none fits within one byte less, where the starts and the bound do not give them
pub record IsLeastPlan (I : Instance) (C : ℕ) (steps : Option ℕ) (offsets : List ℕ) : Type 0 where
  pub least : IsLeast I C
  pub plan : IsAnswered (planned I C) I C offsets
  pub its_height : layout_height I offsets ≡ C
  pub log : HasLogBelow I C steps offsets

-- the least capacity lies between the ends, the offsets are the plan at the upper one, a layout of that height; the
-- steps are fewer than the work that is left, and enough for what the starts and the bound do not give
pub record IsBetween (I : Instance) (steps : Option ℕ) (low high : ℕ) (offsets : List ℕ) : Type 0 where
  pub ends_apart : low < high
  pub from_bound : lower_bound I ≤ low
  pub none_below : IsInfeasible I (low - 1)
  pub to_best : high ≤ layout_height I (best_start I)
  pub plan : IsAnswered (planned I high) I high offsets
  pub its_height : layout_height I offsets ≡ high
  pub too_few : AreTooFew steps (work_of_least I)
  pub halved : IfSome steps (λ k. TakesMoreThan I k low high)
  pub log : HasLogBelow I low steps offsets

-- what each answer says of the least capacity and the offsets; a fault and want of memory say nothing of them
abbrev pub IsLeastAnswer : Instance → Option ℕ → List ℕ → LeastAnswer → Type 0
IsLeastAnswer I steps offsets (Least C) = IsLeastPlan I C steps offsets
IsLeastAnswer I steps offsets (LeftOpen low high) = IsBetween I steps low high offsets
IsLeastAnswer I steps offsets _ = Unit {0}

-- the answer is the least capacity, and it is found
abbrev pub IsFoundLeast : Instance → LeastAnswer → Type 0
IsFoundLeast I (Least C) = IsLeast I C
IsFoundLeast I _ = ⊥
