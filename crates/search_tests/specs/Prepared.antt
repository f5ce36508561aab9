-- The decider of the tests: it has a layout at 12 and a log at 11, and no other answer.
use Rattle.std.specs.Prelude.{◌≡◌, ℕ, cond, nat_le, List, Option}
use Rattle.std.specs.declared.option.Option.TheVariants.{Some, None}
use Rattle.dsa_terms.specs.Buffers.{Instance}
use Rattle.dsa_terms.specs.Layouts.{IsLayout}
use Rattle.dsa_terms.specs.Logs.{IsAccepted, Log}
use Rattle.dsa_terms.specs.Plans.{layout_height}

-- its instance, and how often it was spent
pub record PreparedValue : Type 0 where
  pub subject : Instance
  pub spends : ℕ

-- a layout of height 12
pub record IsOfTwelve (I : Instance) (offsets : List ℕ) : Type 0 where
  pub layout : IsLayout I 12 offsets
  pub height : layout_height I offsets ≡ 12

-- a layout of height 12, and an accepted log at 11
pub record AreRight (I : Instance) (offsets : List ℕ) (log : Log) : Type 0 where
  pub of_twelve : IsOfTwelve I offsets
  pub accepted : IsAccepted I log
  pub its_capacity : log.capacity ≡ 11

-- the height 12 from 12 on, and none below
abbrev pub twelve_from_twelve : ℕ → Option ℕ
twelve_from_twelve C = cond (nat_le 12 C) (Some 12) None
