-- Brackets round the least capacity, and how they narrow.
use Rattle.std.specs.Prelude.{◌≡◌, ℕ, ◌+◌, ◌-◌, ◌/◌, ◌<◌, ◌≤◌, ◌⊎◌, Option}
use Rattle.std.specs.declared.option.Option.TheVariants.{Some, None}
use Rattle.dsa_terms.specs.Buffers.{Instance}
use Rattle.dsa_terms.specs.Layouts.{IsLayout}
use Rattle.dsa_terms.specs.Logs.{IsAccepted, Log}
use Rattle.dsa_terms.specs.Plans.{layout_height}
use Rattle.dsa_model.specs.Limits.{number_limit}
use Rattle.refute_log.specs.Answers.{Answer, Offsets, Refutation}
use Rattle.refute_log.specs.Halvings.{halving}
use Rattle.min_capacity.specs.declared.brackets.Bracket.{Bracket}
use Rattle.min_capacity.specs.declared.brackets.Least.{Least}
use Rattle.min_capacity.specs.declared.brackets.Least.TheVariants.{Exact, Open}

-- no capacity below `low` has a layout: there is none to refute where `low` is 0, and else a log is accepted at low - 1
abbrev pub Refutes : Instance → ℕ → Option Log → Type 0
Refutes I low None = low ≡ 0
Refutes I low (Some log) = IsAccepted I log × (low ≡ log.capacity + 1)

-- ends in order and within the limit, a layout of height `high`, and a log below `low`
pub record IsBracket (I : Instance) (b : Bracket) : Type 0 where
  pub ordered : b.low ≤ b.high
  pub limit : b.high ≤ number_limit
  pub layout : IsLayout I b.high b.layout.items
  pub height : layout_height I b.layout.items ≡ b.high
  pub log : Refutes I b.low b.log

-- the layout is the start's, or was given at a capacity that is at least `high` and below the start's `high`
abbrev pub LayoutComes : (ℕ → Answer → Type 0) → Bracket → Bracket → Type 0
LayoutComes gives start b =
    (b.layout.items ≡ start.layout.items)
    ⊎ ((C : ℕ) × (b.high ≤ C) × (C < start.high) × gives C (Offsets b.layout.items))

-- the log is the start's, or was given at `low - 1`
abbrev pub LogComes : (ℕ → Answer → Type 0) → Bracket → Bracket → Type 0
LogComes gives start b =
    (b.log ≡ start.log) ⊎ ((log : Log) × (b.log ≡ Some log) × gives (b.low - 1) (Refutation log))

-- a bracket within the start's, whose layout and whose log are the start's or were given
pub record Narrows (I : Instance) (gives : ℕ → Answer → Type 0) (start b : Bracket) : Type 0 where
  pub bracket : IsBracket I b
  pub low : start.low ≤ b.low
  pub high : b.high ≤ start.high
  pub layout : LayoutComes gives start b
  pub log : LogComes gives start b

-- the layout is the start's, or its charge is within the cost
abbrev pub LayoutIsPaid : (Answer → ℕ) → ℕ → Bracket → Bracket → Type 0
LayoutIsPaid charge cost start b =
    (b.layout.items ≡ start.layout.items) ⊎ (charge (Offsets b.layout.items) ≤ cost)

-- the log is the start's, or the lower end has risen and the log's charge is within the cost
abbrev pub LogIsPaid : (Answer → ℕ) → ℕ → Bracket → Bracket → Type 0
LogIsPaid charge cost start b =
    (b.log ≡ start.log)
    ⊎ ((log : Log) × (b.log ≡ Some log) × (start.low < b.low) × (charge (Refutation log) ≤ cost))

-- the units from `before` to `after` pay for the layout and for the log together
pub record ArePaid (charge : Answer → ℕ) (before after : ℕ) (start b : Bracket) : Type 0 where
  pub layout_cost : ℕ
  pub log_cost : ℕ
  pub layout : LayoutIsPaid charge layout_cost start b
  pub log : LogIsPaid charge log_cost start b
  pub paid : before + layout_cost + log_cost ≤ after

-- what halving can still take is short of what it could take from the start by the units used, but for one call
abbrev pub IsShort : (ℕ → ℕ) → (ℕ → Option ℕ) → ℕ → ℕ → Bracket → Bracket → Type 0
IsShort most turn before after start b =
    after + halving most turn b.low b.high
    < before + halving most turn start.low start.high + most ((b.low + b.high) / 2)

-- the bracket that is found
abbrev pub bracket_of : Least → Bracket
bracket_of (Exact b) = b
bracket_of (Open b) = b

-- the fact holds where the ends have met
abbrev pub IfExact : Least → Type 0 → Type 0
IfExact (Exact b) P = P
IfExact (Open b) P = Unit {0}

-- the fact holds where the bracket stays open
abbrev pub IfOpen : Least → Type 0 → Type 0
IfOpen (Exact b) P = Unit {0}
IfOpen (Open b) P = P
