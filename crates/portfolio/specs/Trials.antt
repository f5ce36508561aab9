-- The trials of a portfolio.
use Rattle.std.specs.Prelude.{ℕ}
use Rattle.std.specs.Global.{Vec}
use Rattle.dsa_terms.specs.Buffers.{Instance}
use Rattle.first_fit.specs.Rules.{IsOrderOf}

-- whose capacities are tried, and how many units were used so far
pub record Trials : Type 0 where
  pub subject : Instance
  pub units : ℕ

-- nothing was tried
abbrev pub at_start : Instance → Trials
at_start I = record { subject = I; units = 0 }

-- the numbers of a vector are an order of the instance's buffers
abbrev pub IsOtherOrder : Instance → Vec ℕ → Type 0
IsOtherOrder I order = IsOrderOf I order.items
