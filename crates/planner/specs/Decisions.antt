-- What is decided of a capacity.
use Rattle.std.specs.Prelude.{ℕ, ◌↔◌, length, Option}
use Rattle.dsa_terms.specs.Buffers.{Instance}
use Rattle.dsa_terms.specs.Layouts.{IsFeasible, IsInfeasible}
use Rattle.dsa_terms.specs.Starts.{planned}
use Rattle.planner.specs.Decides.{IsAnswered, IsBoundLog, LeavesNoLayout}
use Rattle.planner.specs.Openings.{IsSpentAt}
use Rattle.planner.specs.declared.decision.Decision.{Decision}
use Rattle.planner.specs.declared.decision.Decision.TheVariants.{Layout, Refuted, Open}

-- the plan, the first start within the capacity or else the search's layout; or a log by which there is none; or open
abbrev pub Decides : Instance → ℕ → Option ℕ → Decision → Type 0
Decides I C steps (Layout offsets) = IsAnswered (planned I C) I C offsets.items
Decides I C steps (Refuted log) = LeavesNoLayout I C log
Decides I C steps (Open b) = IsSpentAt I C steps b

-- the decision is a layout
abbrev pub IsLaidOut : Decision → Type 0
IsLaidOut (Layout offsets) = Unit {0}
IsLaidOut (Refuted log) = ⊥
IsLaidOut (Open b) = ⊥

-- the decision is a log
abbrev pub IsByLog : Decision → Type 0
IsByLog (Layout offsets) = ⊥
IsByLog (Refuted log) = Unit {0}
IsByLog (Open b) = ⊥

-- the decision is a layout exactly where some layout fits, and a log exactly where none does
abbrev pub IsExact : Instance → ℕ → Decision → Type 0
IsExact I C decision = (IsLaidOut decision ↔ IsFeasible I C) × (IsByLog decision ↔ IsInfeasible I C)

-- the decision is the bound's log of one line
abbrev pub IsByBound : Instance → ℕ → Decision → Type 0
IsByBound I C (Layout offsets) = ⊥
IsByBound I C (Refuted log) = IsBoundLog I C log
IsByBound I C (Open b) = ⊥

-- how many steps a search took for the decision at least: one for a layout, and one for each line of a log
abbrev pub decision_steps : Decision → ℕ
decision_steps (Layout offsets) = 1
decision_steps (Refuted log) = length log.lines
decision_steps (Open b) = 0
