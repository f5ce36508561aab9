-- The log of a search, while it grows.
use Rattle.std.specs.Prelude.{◌≡◌, ℕ, ◌<◌, List, ◌++◌, slice_get, take, Some}
use Rattle.dsa_terms.specs.Buffers.{Instance}
use Rattle.dsa_terms.specs.Claims.{Claim, Covers, Entry, IsIn}
use Rattle.dsa_terms.specs.Lean.{IsLeanLine}
use Rattle.dsa_terms.specs.Logs.{Line, claim_of}
use Rattle.canonical_order.specs.Claims.{HasBuffer}
use Rattle.refute_log.specs.Logs.{OpenLog, Belongs}

-- some lines more, which have buffers of the claim alone
pub record Extends (l : Claim) (before after : List Line) : Type 0 where
  pub more : List Line
  pub is : after ≡ before ++ more
  pub among : (line : Line) (e : Entry) → IsIn line more → IsIn e (claim_of line) → HasBuffer l e.0

-- no line is covered by an earlier one
abbrev pub AreUncovered : Instance → List Line → Type 0
AreUncovered I lines = (j k : ℕ) (earlier line : Line) → j < k → slice_get lines j ≡ Some earlier →
    slice_get lines k ≡ Some line →
    Covers I (claim_of earlier) (claim_of line) → ⊥

-- a log of the instance at the capacity, each line of which is lean and covered by no earlier one
pub record IsSearchLog (I : Instance) (C : ℕ) (log : OpenLog) : Type 0 where
  pub belongs : Belongs I log
  pub capacity : log.capacity ≡ C
  pub lean : (k : ℕ) (line : Line) → slice_get log.lines k ≡ Some line → IsLeanLine I C (take k log.lines) line
  pub uncovered : AreUncovered I log.lines
