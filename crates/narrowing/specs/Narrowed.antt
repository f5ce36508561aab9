-- Brackets that are narrowed by answers.
use Rattle.std.specs.Prelude.{◌≡◌, ℕ, ◌+◌, ◌<◌, ◌≤◌, ◌⊎◌, length}
use Rattle.std.specs.declared.option.Option.TheVariants.{Some}
use Rattle.dsa_terms.specs.Buffers.{Instance}
use Rattle.dsa_terms.specs.Logs.{Log}
use Rattle.dsa_terms.specs.Plans.{layout_height}
use Rattle.refute_log.specs.declared.decided.Decided.{Decided}
use Rattle.refute_log.specs.declared.decided.Decided.TheVariants.{Layout, Refuted, Spent}
use Rattle.min_capacity.specs.Brackets.{IsBracket}
use Rattle.min_capacity.specs.declared.brackets.Bracket.{Bracket}

-- how many lines the log of an answer has
abbrev pub lines_of : Decided → ℕ
lines_of (Layout offsets) = 0
lines_of (Refuted log) = length log.lines
lines_of Spent = 0

-- each capacity from the lower end on and below the upper end may be asked
abbrev pub MayBeAsked : (ℕ → Type 0) → Bracket → Type 0
MayBeAsked within b = (C : ℕ) → b.low ≤ C → C < b.high → within C

-- the bracket with a layout for its upper end, with a log at C for its lower end, or as it was
abbrev pub after_answer : Instance → ℕ → Bracket → Decided → Bracket
after_answer I C b (Layout offsets) = record b { high = layout_height I offsets.items; layout = offsets }
after_answer I C b (Refuted log) = record b { low = C + 1; log = Some log }
after_answer I C b Spent = b

-- the layout is the start's, or lower than it
abbrev pub LayoutFalls : Bracket → Bracket → Type 0
LayoutFalls start b = (b.layout.items ≡ start.layout.items) ⊎ (b.high < start.high)

-- a bracket within the start's, whose layout is the start's or lower than it
pub record IsNarrowed (I : Instance) (start b : Bracket) : Type 0 where
  pub bracket : IsBracket I b
  pub low : start.low ≤ b.low
  pub high : b.high ≤ start.high
  pub layout : LayoutFalls start b

-- the log is the start's, or the lower end has risen and the units from `before` to `after` pay for each of its lines
abbrev pub IsLogPaid : ℕ → ℕ → Bracket → Bracket → Type 0
IsLogPaid before after start b =
    (b.log ≡ start.log)
    ⊎ ((log : Log) × (b.log ≡ Some log) × (start.low < b.low) × (before + length log.lines ≤ after))

-- the log is one at C
abbrev pub IsLogAt : ℕ → Bracket → Type 0
IsLogAt C b = (log : Log) × (b.log ≡ Some log) × (log.capacity ≡ C)

-- C is decided: the layout is within it, or the lower end is one above it, with a log at C
abbrev pub IsDecidedAt : ℕ → Bracket → Type 0
IsDecidedAt C b = (b.high ≤ C) ⊎ ((b.low ≡ C + 1) × IsLogAt C b)

-- the bracket is the start's, and C lies inside it
pub record IsLeftOpen (C : ℕ) (start b : Bracket) : Type 0 where
  pub same : b ≡ start
  pub low : b.low ≤ C
  pub high : C < b.high
