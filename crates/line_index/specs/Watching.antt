-- What becomes of the watches of lines.
use Rattle.std.specs.Prelude.{◌≡◌, ℕ, ◌<◌, ◌≤◌, ◌⊎◌, List, length, slice_get, slice_index, Some}
use Rattle.dsa_terms.specs.Claims.{Entry, IsIn}
use Rattle.dsa_terms.specs.Logs.{Line, claim_of}
use Rattle.line_index.specs.declared.watch_row.Mark.{Mark}
use Rattle.line_index.specs.Looks.{IsUnmet}
use Rattle.line_index.specs.Rows.{row_of}
use Rattle.line_index.specs.Watches.{Fails, RulesOut}

-- lines that had watches have these still, and at least n have one
pub record AreExtended (before after : List Entry) (n : ℕ) : Type 0 where
  pub same : (k : ℕ) (e : Entry) → slice_get before k ≡ Some e → slice_get after k ≡ Some e
  pub count : n ≤ length after

-- each line has the watch that it had, or one that is not met at these levels though its buffer has one
abbrev pub AreMoved : List Line → List ℕ → List Entry → List Entry → Type 0
AreMoved lines levels before after = (k : ℕ) (line : Line) → slice_get lines k ≡ Some line →
    (slice_get after k ≡ slice_get before k)
    ⊎ ((e : Entry) × (slice_get after k ≡ Some e) × IsUnmet (claim_of line) levels e)

-- each line that had an entry of its claim for a watch has it still, or one that is not met at these levels though its
-- buffer has one
abbrev pub AreOwnMoved : List Line → List ℕ → List Entry → List Entry → Type 0
AreOwnMoved lines levels before after = (k : ℕ) (line : Line) (e : Entry) → slice_get lines k ≡ Some line →
    slice_get before k ≡ Some e → IsIn e (claim_of line) →
    (slice_get after k ≡ Some e) ⊎ ((f : Entry) × (slice_get after k ≡ Some f) × IsUnmet (claim_of line) levels f)

-- the watch of the line of that number rules out that the line covers the claim of the levels
abbrev pub IsWatched : List Line → List Entry → List ℕ → ℕ → Type 0
IsWatched lines watches levels k = (line : Line) → slice_get lines k ≡ Some line →
    (e : Entry) × (slice_get watches k ≡ Some e) × RulesOut levels (claim_of line) e

-- the watches of buffer b with bounds from `low` on and below its level fail at the levels
abbrev pub FailAt : List Line → List Entry → List ℕ → ℕ → ℕ → Type 0
FailAt lines watches levels b low = (k : ℕ) (line : Line) (e : Entry) → slice_get lines k ≡ Some line →
    slice_get watches k ≡ Some e → e.0 ≡ b → low ≤ e.1 → e.1 < slice_index levels b → Fails levels (claim_of line) e

-- those of them that are in row p fail
abbrev pub FailInRow : List Line → List Entry → ℕ → List ℕ → ℕ → ℕ → ℕ → Type 0
FailInRow lines watches scale levels b low p = (k : ℕ) (line : Line) (e : Entry) → slice_get lines k ≡ Some line →
    slice_get watches k ≡ Some e → row_of scale e ≡ p → low ≤ e.1 → e.1 < slice_index levels b →
    Fails levels (claim_of line) e

-- if the mark is of buffer b and of the watch of its line, then that fails at the levels
abbrev pub FailsAtMark : List Line → List Entry → List ℕ → ℕ → Mark → Type 0
FailsAtMark lines watches levels b m = (line : Line) → slice_get lines m.line ≡ Some line →
    slice_get watches m.line ≡ Some (b, m.bound) → Fails levels (claim_of line) (b, m.bound)
