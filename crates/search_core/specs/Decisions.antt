-- What the search answers at a capacity.
use Rattle.std.specs.Prelude.{◌≡◌, ℕ, ◌^◌, ⊤, cond, length, min, nat_le, Option, Some, option_map, unwrap_or}
use Rattle.dsa_terms.specs.Buffers.{Instance}
use Rattle.dsa_terms.specs.Lean.{IsLean}
use Rattle.dsa_terms.specs.Logs.{Log, IsAccepted}
use Rattle.dsa_terms.specs.Parts.{searched}
use Rattle.dsa_terms.specs.Plans.{layout_height}
use Rattle.refute_log.specs.Answers.{Answer, Offsets, Refutation, NoAnswer}

-- an accepted log at the capacity, without waste
pub record IsRefutation (I : Instance) (C : ℕ) (log : Log) : Type 0 where
  pub accepted : IsAccepted I log
  pub capacity : log.capacity ≡ C
  pub lean : IsLean I log

-- the layout is the first one of each part, put together; a refutation is an accepted log without waste
abbrev pub IsGiven : Instance → ℕ → Answer → Type 0
IsGiven I C (Offsets offsets) = searched I C ≡ Some offsets
IsGiven I C (Refutation log) = IsRefutation I C log
IsGiven I C NoAnswer = ⊤

-- the height of the first layout of each part, put together, if each part has one
abbrev pub turn_of : Instance → ℕ → Option ℕ
turn_of I C = option_map (layout_height I) (searched I C)

-- the number of units, and 2^64 where there is none
abbrev pub allowance_of : Option ℕ → ℕ
allowance_of most = unwrap_or most (2 ^ 64)

-- so many units where the allowance is a number of them, and none where there is no number
abbrev pub where_numbered : ℕ → ℕ → ℕ
where_numbered allowance n = cond (nat_le (2 ^ 64) allowance) 0 n

-- the least number of units for an answer: one for a layout of some buffers, and one for each line of a log
abbrev pub charge_of : Instance → ℕ → Answer → ℕ
charge_of I allowance (Offsets offsets) = where_numbered allowance (min 1 (length I))
charge_of I allowance (Refutation log) = where_numbered allowance (length log.lines)
charge_of I allowance NoAnswer = 0
