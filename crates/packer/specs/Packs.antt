-- What packing comes to within a number of steps: a layout that need not be the plan, and a log without needless lines.
use Rattle.std.specs.Prelude.{◌≡◌, ℕ, ◌+◌, ◌-◌, ◌*◌, ◌/◌, ◌^◌, ◌<◌, ◌≤◌, ◌↔◌, ◌⊎◌, [], length, min, Option}
use Rattle.std.specs.declared.option.Option.TheVariants.{Some, None}
use Rattle.dsa_terms.specs.Bounds.{lower_bound}
use Rattle.dsa_terms.specs.Buffers.{Instance}
use Rattle.dsa_terms.specs.Layouts.{IsInfeasible, IsLayout, IsLeast}
use Rattle.dsa_terms.specs.Logs.{IsAccepted, Log}
use Rattle.dsa_terms.specs.Plans.{layout_height}
use Rattle.dsa_terms.specs.Starts.{best_start}
use Rattle.dsa_terms.specs.Trims.{IsCited}
use Rattle.min_capacity.specs.declared.brackets.Bracket.{Bracket}
use Rattle.min_capacity.specs.declared.brackets.Least.{Least}
use Rattle.min_capacity.specs.declared.brackets.Least.TheVariants.{Exact, Open}
use Rattle.planner.specs.Decides.{IsBoundLog}
use Rattle.planner.specs.declared.decision.Decision.{Decision}
use Rattle.planner.specs.declared.decision.Decision.TheVariants as decision

-- the last line is the log's end, and each line but the last is cited by a later one
pub record IsTrimmed (log : Log) : Type 0 where
  pub last : log.final + 1 ≡ length log.lines
  pub cited : (k : ℕ) → k + 1 < length log.lines → IsCited log.lines k

-- the log is accepted at the capacity, so no layout fits within it; no line is needless; and it is the bound's log of
-- one line, or has no more lines than steps
pub record RefutesWithin (I : Instance) (C steps : ℕ) (log : Log) : Type 0 where
  pub accepted : IsAccepted I log
  pub its_capacity : log.capacity ≡ C
  pub infeasible : IsInfeasible I C
  pub trimmed : IsTrimmed log
  pub few : IsBoundLog I C log ⊎ (length log.lines ≤ steps)

-- there is no log for the capacity 0, and else one by which no layout fits within one less
abbrev pub RefutesOneLess : Instance → ℕ → ℕ → Option Log → Type 0
RefutesOneLess I C steps None = C ≡ 0
RefutesOneLess I C steps (Some log) = (1 ≤ C) × RefutesWithin I (C - 1) steps log

-- a layout as high as the upper end, and a log below the lower end
pub record IsBetween (I : Instance) (steps : ℕ) (b : Bracket) : Type 0 where
  pub layout : IsLayout I b.high b.layout.items
  pub its_height : layout_height I b.layout.items ≡ b.high
  pub refuted_below : RefutesOneLess I b.low steps b.log

-- both ends are the least capacity, which is 0 for no buffers alone
pub record IsPackedTight (I : Instance) (steps : ℕ) (b : Bracket) : Type 0 where
  pub between : IsBetween I steps b
  pub ends_met : b.low ≡ b.high
  pub least : IsLeast I b.high
  pub zero_for_none : (I ≡ []) ↔ (b.high ≡ 0)

-- the least capacity is open between ends that are no worse than the lower bound and the best start
pub record IsPackedOpen (I : Instance) (steps : ℕ) (b : Bracket) : Type 0 where
  pub between : IsBetween I steps b
  pub ends_apart : b.low < b.high
  pub positive : 1 ≤ b.low
  pub from_bound : lower_bound I ≤ b.low
  pub to_best : b.high ≤ layout_height I (best_start I)

-- the steps that are for placing buffers anew: a sixth of all, but at most 2^16
abbrev pub placing_steps : ℕ → ℕ
placing_steps steps = min (steps / 6) (2 ^ 16)

-- how many pairs of buffers it counts to place n buffers anew once
abbrev pub placing_pairs : ℕ → ℕ
placing_pairs n = n * n + 2 ^ 14

-- how often n buffers are placed anew in so many steps, at 2^17 pairs a step
abbrev pub placings : (n steps : ℕ) → ℕ
placings n steps = placing_steps steps * 2 ^ 17 / placing_pairs n

-- the searches have used all the other steps
abbrev pub AreUsedUp : (steps before after : ℕ) → Type 0
AreUsedUp steps before after = after ≡ before + (steps - placing_steps steps)

-- the least capacity is found, or stays open
abbrev pub Packs : Instance → ℕ → Least → Type 0
Packs I steps (Exact b) = IsPackedTight I steps b
Packs I steps (Open b) = IsPackedOpen I steps b

-- a layout within the capacity; a log by which there is none; or ends between which the capacity stays open
abbrev pub PacksWithin : Instance → ℕ → ℕ → Decision → Type 0
PacksWithin I C steps (decision.Layout offsets) = IsLayout I C offsets.items
PacksWithin I C steps (decision.Refuted log) = RefutesWithin I C steps log
PacksWithin I C steps (decision.Open b) = IsPackedOpen I steps b × (b.low ≤ C) × (C < b.high)

-- the fact holds where the capacity stays open
abbrev pub IfLeftOpen : Decision → Type 0 → Type 0
IfLeftOpen (decision.Layout offsets) P = Unit {0}
IfLeftOpen (decision.Refuted log) P = Unit {0}
IfLeftOpen (decision.Open b) P = P
