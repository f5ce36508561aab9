-- What deciding a capacity comes to: a layout that is the answer, or a log.
use Rattle.std.specs.Prelude.{◌≡◌, ◌≤◌, ℕ, List, Option, Some}
use Rattle.dsa_terms.specs.Bounds.{bound_modulus, heights, lower_bound, stack, stack_log}
use Rattle.dsa_terms.specs.Buffers.{Instance}
use Rattle.dsa_terms.specs.Claims.{IsIn}
use Rattle.dsa_terms.specs.Layouts.{IsLayout, IsInfeasible}
use Rattle.dsa_terms.specs.Lean.{IsLean}
use Rattle.dsa_terms.specs.Logs.{Log, IsAccepted}
use Rattle.lower_bounds.specs.BoundMoment.{IsBoundMoment}

-- the answer is these offsets, and they are a layout
pub record IsAnswered (answer : Option (List ℕ)) (I : Instance) (C : ℕ) (offsets : List ℕ) : Type 0 where
  pub chosen : answer ≡ Some offsets
  pub layout : IsLayout I C offsets

-- a log without waste by which no layout fits within the capacity
pub record LeavesNoLayout (I : Instance) (C : ℕ) (log : Log) : Type 0 where
  pub accepted : IsAccepted I log
  pub its_capacity : log.capacity ≡ C
  pub infeasible : IsInfeasible I C
  pub lean : IsLean I log

-- the one line of the stack that is as high as the lower bound, at the bound's moment, by its modulus and from the
-- least height with which it is as high
pub record IsBoundLog (I : Instance) (C : ℕ) (log : Log) : Type 0 where
  pub moment : ℕ
  pub height : ℕ
  pub its_moment : IsBoundMoment I moment
  pub from : IsIn height (heights I (bound_modulus I))
  pub reached : stack I moment height (bound_modulus I) ≡ lower_bound I
  pub least : (H : ℕ) → IsIn H (heights I (bound_modulus I)) → stack I moment H (bound_modulus I) ≡ lower_bound I →
      height ≤ H
  pub one_line : log ≡ stack_log I moment height (bound_modulus I) C

-- a log that refutes the capacity by the one line of the lower bound's stack
pub record IsStackRefutation (I : Instance) (C : ℕ) (log : Log) : Type 0 where
  pub refutation : LeavesNoLayout I C log
  pub by_bound : IsBoundLog I C log
