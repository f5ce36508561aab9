-- What the answers of the code stand for, and what they promise.
use Rattle.std.specs.Prelude.{◌≡◌, ℕ, Option}
use Rattle.std.specs.declared.option.Option.TheVariants.{Some, None}
use Rattle.dsa_terms.specs.Buffers.{Instance}
use Rattle.dsa_terms.specs.Layouts.{IsFeasible, IsInfeasible, IsLayout}
use Rattle.dsa_terms.specs.Logs.{IsAccepted}
use Rattle.dsa_terms.specs.Plans.{layout_height}
use Rattle.refute_log.specs.Answers.{Answer, Offsets, Refutation, NoAnswer}
use Rattle.refute_log.specs.declared.decided.Decided.{Decided}
use Rattle.refute_log.specs.declared.decided.Decided.TheVariants.{Layout, Refuted, Spent}

-- the answer as a value
abbrev pub answer_of : Decided → Answer
answer_of (Layout offsets) = Offsets offsets.items
answer_of (Refuted log) = Refutation log
answer_of Spent = NoAnswer

-- the answer is right for the instance at the capacity: a layout, or an accepted log at it
abbrev pub IsRight : Instance → ℕ → Decided → Type 0
IsRight I C (Layout offsets) = IsLayout I C offsets.items
IsRight I C (Refuted log) = IsAccepted I log × (log.capacity ≡ C)
IsRight I C Spent = Unit {0}

-- a layout comes only where some layout fits, and a log only where none does; so each comes exactly there, or Spent
abbrev pub Settles : Instance → ℕ → Decided → Type 0
Settles I C (Layout offsets) = IsFeasible I C
Settles I C (Refuted log) = IsInfeasible I C
Settles I C Spent = Unit {0}

-- the answer turns out as said: a layout has that height, and a refutation comes only where there is none
abbrev pub TurnsOut : Instance → Option ℕ → Decided → Type 0
TurnsOut I turn (Layout offsets) = turn ≡ Some (layout_height I offsets.items)
TurnsOut I turn (Refuted log) = turn ≡ None
TurnsOut I turn Spent = Unit {0}

-- the fact holds where the answer is Spent
abbrev pub IfSpent : Decided → Type 0 → Type 0
IfSpent (Layout offsets) P = Unit {0}
IfSpent (Refuted log) P = Unit {0}
IfSpent Spent P = P
