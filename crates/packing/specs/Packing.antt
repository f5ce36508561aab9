-- How `pack` goes: a layout that need not be the plan, and a log without needless lines.
use Rattle.std.specs.Prelude.{◌≡◌, ◌<◌, ◌≤◌, ◌-◌, ◌↔◌, ℕ, List, [], Option, Some, None, IfSome}
use Rattle.dsa_terms.specs.Buffers.{Instance}
use Rattle.dsa_terms.specs.Bounds.{lower_bound}
use Rattle.dsa_terms.specs.Layouts.{IsLayout, IsLeast}
use Rattle.dsa_terms.specs.Logs.{Log}
use Rattle.dsa_terms.specs.Plans.{layout_height}
use Rattle.dsa_terms.specs.Starts.{best_start}
use Rattle.csv_instance.specs.Records.{Record}
use Rattle.packer.specs.Packs.{RefutesOneLess, RefutesWithin}
use Rattle.run_status.specs.declared.status.Status.{Status}
use Rattle.run_status.specs.declared.status.Status.TheVariants.{Feasible, Infeasible, Least, Open}
use Rattle.run_course.specs.Course.{Course, Outcome, Concludes}
use Rattle.readings.specs.Input.{opened}
use Rattle.writings.specs.Answers.{Gives}
use Rattle.writings.specs.Writings.{Names}

-- C is the least capacity that has a layout: one of that height, and a log that refutes one byte less, unless C is 0
pub record IsPackedLeast (I : Instance) (steps C : ℕ) (offsets : List ℕ) (log : Option Log) : Type 0 where
  pub is_least : IsLeast I C
  pub zero_for_none : (I ≡ []) ↔ (C ≡ 0)
  pub layout : IsLayout I C offsets
  pub its_height : layout_height I offsets ≡ C
  pub refuted : RefutesOneLess I C steps log

-- the ends are no worse than the lower bound and the best start, and a capacity that is given lies between them
pub record AreEnds (I : Instance) (within : Option ℕ) (low high : ℕ) : Type 0 where
  pub from_bound : lower_bound I ≤ low
  pub to_best : high ≤ layout_height I (best_start I)
  pub between : IfSome within (λ C. (low ≤ C) × (C < high))

-- the least capacity stays open between such ends: a layout of the upper end's height, and a log that refutes one byte
-- less than the lower end
pub record IsPackedBetween (I : Instance) (within : Option ℕ) (steps low high : ℕ) (offsets : List ℕ) (log : Log) :
    Type 0 where
  pub ends_apart : low < high
  pub positive : 1 ≤ low
  pub ends : AreEnds I within low high
  pub layout : IsLayout I high offsets
  pub its_height : layout_height I offsets ≡ high
  pub refuted : RefutesWithin I (low - 1) steps log

-- what `pack` answers: of a capacity that is given (in bytes), a layout within it, or a log that refutes it; where none
-- is given, the least one; or that it stays open; the steps are units
abbrev pub IsPacked : Instance → Option ℕ → (steps : ℕ) → Status → Option (List ℕ) → Option Log → Type 0
IsPacked I within steps (Feasible C) (Some offsets) None = (within ≡ Some C) × IsLayout I C offsets
IsPacked I within steps (Infeasible C) None (Some log) = (within ≡ Some C) × RefutesWithin I C steps log
IsPacked I within steps (Least C) (Some offsets) log = (within ≡ None) × IsPackedLeast I steps C offsets log
IsPacked I within steps (Open low high) (Some offsets) (Some log) = IsPackedBetween I within steps low high offsets log
IsPacked I within steps status layout log = ⊥

-- what `pack` concludes of the instance of a table
abbrev pub Packs : Option ℕ → (steps : ℕ) → Names → List Record → Instance → Outcome → Type 0
Packs within steps names table I o = Gives (IsPacked I within steps) names table o

-- how `pack` goes
abbrev pub pack : Option ℕ → (steps : ℕ) → Names → Course
pack within steps names = opened names.input (λ table I. Concludes (Packs within steps names table I))
