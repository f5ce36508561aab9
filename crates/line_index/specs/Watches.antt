-- Watches and marks: for each line of a log one entry of its claim, which shows that the line does not cover a claim,
-- and marks of lines in rows, each with the number of a buffer of its line's claim.
use Rattle.std.specs.Prelude.{◌≡◌, ℕ, ◌<◌, ◌≤◌, List, [], length, slice_get, slice_index, slice_index_or, Some}
use Rattle.dsa_terms.specs.Claims.{Claim, Entry, IsIn}
use Rattle.dsa_terms.specs.Logs.{Line, claim_of}
use Rattle.canonical_order.specs.Claims.{HasBuffer}
use Rattle.line_index.specs.declared.watch_row.Mark.{Mark}

-- the watches by line, and the marks by row
pub record LineWatches : Type 0 where
  pub entries : List Entry
  pub rows : List (List Mark)

-- the marks of the row of that number
abbrev pub row_at : List (List Mark) → ℕ → List Mark
row_at rows p = slice_index_or rows p []

-- each buffer of k has a level
abbrev pub HasLevels : List ℕ → Claim → Type 0
HasLevels levels k = (f : Entry) → IsIn f k → 0 < slice_index levels f.0

-- where each buffer of k has a level, that of the entry's buffer does not meet its bound
abbrev pub Fails : List ℕ → Claim → Entry → Type 0
Fails levels k e = HasLevels levels k → slice_index levels e.0 ≤ e.1

-- the entry is one of k, and where each buffer of k has a level, that of the entry's buffer does not meet its bound
pub record RulesOut (levels : List ℕ) (k : Claim) (e : Entry) : Type 0 where
  pub among : IsIn e k
  pub unmet : Fails levels k e

-- the mark is of a line of the log, and its note is a buffer of that line's claim
pub record IsNoted (lines : List Line) (m : Mark) : Type 0 where
  pub line : Line
  pub stands : slice_get lines m.line ≡ Some line
  pub has : HasBuffer (claim_of line) m.note

-- each mark is such a one
abbrev pub AreNoted : List Line → List (List Mark) → Type 0
AreNoted lines rows = (p : ℕ) (m : Mark) → IsIn m (row_at rows p) → IsNoted lines m

-- there are n lines at least, and the watch of each of the first n rules out that it covers the claim of the levels
pub record AreWatched (lines : List Line) (watches : LineWatches) (levels : List ℕ) (n : ℕ) : Type 0 where
  pub within : n ≤ length lines
  pub each : (k : ℕ) (line : Line) → k < n → slice_get lines k ≡ Some line →
      (e : Entry) × (slice_get watches.entries k ≡ Some e) × RulesOut levels (claim_of line) e

-- each buffer that has a level now had one before, which was no higher
abbrev pub AreRaised : List ℕ → List ℕ → Type 0
AreRaised before now = (b : ℕ) → 0 < slice_index now b →
    (0 < slice_index before b) × (slice_index before b ≤ slice_index now b)

-- these are the buffers whose levels are higher now than before, each with its level before, and maybe more
abbrev pub AreTheRaised : List ℕ → List ℕ → List Entry → Type 0
AreTheRaised before now raised = (b : ℕ) → slice_index before b < slice_index now b →
    IsIn (b, slice_index before b) raised
