-- Calls that are to fail, by their numbers.
use Rattle.std.specs.Prelude.{ℕ, ◌==◌, Bool, cond, List}
use Rattle.std.specs.List.{list_any}
use Rattle.dsa_model.specs.Counts.{one_more}

-- the numbers of the calls that are to fail, the number of the next call, and how many calls were made to fail
pub record CallState : Type 0 where
  pub failing : List ℕ
  pub next : ℕ
  pub faults : ℕ

-- the next call is to fail
abbrev pub is_due : CallState → Bool
is_due c = list_any (λ k. k == c.next) c.failing

-- the state after the next call: it is counted, and so is its fault where it is to fail
abbrev pub after_call : CallState → CallState
after_call c = record c { next = one_more c.next; faults = cond (is_due c) (one_more c.faults) c.faults }
