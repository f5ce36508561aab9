-- A search as its callers see it.
use Rattle.std.specs.Prelude.{ℕ, Option}
use Rattle.dsa_terms.specs.Buffers.{Instance}
use Rattle.search_core.specs.Meters.{Units}

-- its instance, its units, and how often its budget was spent
pub record Course : Type 0 where
  pub subject : Instance
  pub units : Units
  pub spends : ℕ

-- the course of a search that has not begun
abbrev pub at_start : Instance → Option ℕ → Course
at_start I most = record { subject = I; units = record { most = most; used = 0 }; spends = 0 }
