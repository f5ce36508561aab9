-- How the commands go that decide: a layout, a log by which there is none, or both.
use Rattle.std.specs.Prelude.{◌≡◌, ◌<◌, ◌≤◌, ◌-◌, ◌↔◌, ℕ, List, [], length, Option, Some, None}
use Rattle.dsa_terms.specs.Buffers.{Instance}
use Rattle.dsa_terms.specs.Bounds.{lower_bound}
use Rattle.dsa_terms.specs.Layouts.{IsLayout, IsLeast}
use Rattle.dsa_terms.specs.Logs.{Log}
use Rattle.dsa_terms.specs.Plans.{layout_height}
use Rattle.dsa_terms.specs.Starts.{best_start, planned}
use Rattle.csv_instance.specs.Records.{Record}
use Rattle.planner.specs.Decides.{IsBoundLog, LeavesNoLayout}
use Rattle.planner.specs.FirstStart.{start_within}
use Rattle.planner.specs.LeastCapacity.{AreWithinSteps, RefutesBelow}
use Rattle.planner.specs.Openings.{AreGiven, StaysOpen}
use Rattle.planner.specs.Shortage.{IsShortOfHunt, IsShortOfWork}
use Rattle.run_status.specs.declared.status.Status.{Status}
use Rattle.run_status.specs.declared.status.Status.TheVariants.{Feasible, Infeasible, Least, Open}
use Rattle.run_course.specs.Course.{Course, Outcome, Concludes}
use Rattle.readings.specs.Input.{opened}
use Rattle.writings.specs.Answers.{Gives}
use Rattle.writings.specs.Writings.{Names}

-- ---- a capacity is decided
-- the layout is the plan at the capacity; where no start is within it, a step at least is given, if a number is
pub record IsPlanWithin (I : Instance) (C : ℕ) (steps : Option ℕ) (offsets : List ℕ) : Type 0 where
  pub planned : planned I C ≡ Some offsets
  pub layout : IsLayout I C offsets
  pub searched : start_within I C ≡ None → AreGiven steps 1

-- no layout fits within the capacity, by this log without waste that is accepted at it: the bound's where the capacity
-- is below the lower bound, and else one with a step given for each line, if a number is
pub record IsProofWithin (I : Instance) (C : ℕ) (steps : Option ℕ) (log : Log) : Type 0 where
  pub refuted : LeavesNoLayout I C log
  pub by_bound : C < lower_bound I → IsBoundLog I C log
  pub searched : lower_bound I ≤ C → AreGiven steps (length log.lines)

-- the steps ran out: the best start and the bound's log
pub record IsUndecided (I : Instance) (C : ℕ) (steps : Option ℕ) (low high : ℕ) (offsets : List ℕ) (log : Log) :
    Type 0 where
  pub number : ℕ
  pub given : steps ≡ Some number
  pub short : IsShortOfWork I C number low high
  pub best : offsets ≡ best_start I
  pub stays_open : StaysOpen I low high offsets log
  pub by_bound : IsBoundLog I (low - 1) log

-- what `solve` answers, with the capacity in bytes, and the steps, where a number is given, in units
abbrev pub IsSolved : Instance → (C : ℕ) → Option ℕ → Status → Option (List ℕ) → Option Log → Type 0
IsSolved I C steps (Feasible D) (Some offsets) None = (D ≡ C) × IsPlanWithin I D steps offsets
IsSolved I C steps (Infeasible D) None (Some log) = (D ≡ C) × IsProofWithin I D steps log
IsSolved I C steps (Open low high) (Some offsets) (Some log) = IsUndecided I C steps low high offsets log
IsSolved I C steps status layout log = ⊥

-- what `solve` concludes of the instance of a table
abbrev pub Solves : (C : ℕ) → Option ℕ → Names → List Record → Instance → Outcome → Type 0
Solves C steps names table I o = Gives (IsSolved I C steps) names table o

-- how `solve` goes
abbrev pub solve : (C : ℕ) → Option ℕ → Names → Course
solve C steps names = opened names.input (λ table I. Concludes (Solves C steps names table I))

-- ---- the least capacity is sought
-- C is the least capacity that has a layout: the plan at it, of that height, and a log that refutes one byte less,
-- unless C is 0; where a number of steps is given, they are enough for what the starts and the bound do not give
pub record IsFound (I : Instance) (steps : Option ℕ) (C : ℕ) (offsets : List ℕ) (log : Option Log) : Type 0 where
  pub is_least : IsLeast I C
  pub zero_for_none : (I ≡ []) ↔ (C ≡ 0)
  pub planned : planned I C ≡ Some offsets
  pub layout : IsLayout I C offsets
  pub its_height : layout_height I offsets ≡ C
  pub refuted : RefutesBelow I C log
  pub within_steps : AreWithinSteps I steps C offsets log

-- the steps ran out: the plan at the upper end, of that height, and a log that refutes one byte less than the lower
-- end; the steps are enough for what the starts and the bound do not give
pub record IsLeftOpen (I : Instance) (steps : Option ℕ) (low high : ℕ) (offsets : List ℕ) (log : Log) : Type 0 where
  pub number : ℕ
  pub given : steps ≡ Some number
  pub short : IsShortOfHunt I number low high
  pub stays_open : StaysOpen I low high offsets log
  pub within_steps : AreWithinSteps I steps low offsets (Some log)

-- what `least` answers
abbrev pub IsSought : Instance → Option ℕ → Status → Option (List ℕ) → Option Log → Type 0
IsSought I steps (Least C) (Some offsets) log = IsFound I steps C offsets log
IsSought I steps (Open low high) (Some offsets) (Some log) = IsLeftOpen I steps low high offsets log
IsSought I steps status layout log = ⊥

-- what `least` concludes of the instance of a table
abbrev pub Finds : Option ℕ → Names → List Record → Instance → Outcome → Type 0
Finds steps names table I o = Gives (IsSought I steps) names table o

-- how `least` goes
abbrev pub least : Option ℕ → Names → Course
least steps names = opened names.input (λ table I. Concludes (Finds steps names table I))
