-- What the bytes of a log say, in either version.
use Rattle.std.specs.Prelude.{◌≡◌, ℕ, ◌^◌, ◌<◌, ◌≤◌, ◌≢◌, ◌⊎◌, List, [], ◌∷◌, ◌++◌, length, map, All}
use Rattle.dsa_terms.specs.Claims.{Rises, buffers_of}
use Rattle.dsa_model.specs.Limits.{number_limit}
use Rattle.log_text.specs.Changes.{AreChanges, Change, Drops, Puts, buffer_of}
use Rattle.log_text.specs.RawLogs.{IsPairWithin, IsRawCiteWithin}
use Rattle.log_text.specs.RawTexts.{IsTextOf, end_text}
use Rattle.log_text.specs.Spellings.{CasesAs, From, Full, OverAs, Spelled, Spelling, claim_at, line_said, lines_said, spelled_log, spelled_text, spelling_of}
use Rattle.log_text.specs.declared.raw.RawCite.{RawCite}
use Rattle.log_text.specs.declared.raw.RawLine.{RawLine}
use Rattle.log_text.specs.declared.raw.RawLog.{RawLog}

-- what a row of the text says, after the header: a line of the log, or the end
pub data Row : Type 0 where
  LineRow : (line : Spelled) → Row
  EndRow : (k : ℕ) → Row

-- its bytes, the newline among them; no other byte of it is a newline
abbrev pub row_text : Row → List ℕ
row_text (LineRow line) = spelled_text line
row_text (EndRow k) = end_text k

-- ---- the form of a row, by the version
-- a claim in full has a buffer, and version 2 alone has differences
abbrev pub IsSpellingFormed : ℕ → Spelling → Type 0
IsSpellingFormed version (Full l) = l ≢ []
IsSpellingFormed version (From base changes) = version ≡ 2

-- a Cases line has a cite
abbrev pub IsCited : Spelled → Type 0
IsCited (OverAs T H G s) = Unit {0}
IsCited (CasesAs s cites) = cites ≢ []

-- no list of the line is empty, and its claim is spelled as the version has it
abbrev pub IsLineFormed : ℕ → Spelled → Type 0
IsLineFormed version line = IsSpellingFormed version (spelling_of line) × IsCited line

-- the row has the form that the version has
abbrev pub IsFormed : ℕ → Row → Type 0
IsFormed version (LineRow line) = IsLineFormed version line
IsFormed version (EndRow k) = Unit {0}

-- ---- limits: a moment is below 2^62, each other number at most 2^60
-- each number of the change is within its limit
abbrev pub IsChangeWithin : Change → Type 0
IsChangeWithin (Puts e) = IsPairWithin e
IsChangeWithin (Drops b) = b ≤ number_limit

-- each number of the claim as it is spelled is within its limit, a base as well
abbrev pub IsSpellingWithin : Spelling → Type 0
IsSpellingWithin (Full l) = All IsPairWithin l
IsSpellingWithin (From base changes) = (base ≤ number_limit) × All IsChangeWithin changes

-- each number of the line is within its limit
abbrev pub IsLineWithin : Spelled → Type 0
IsLineWithin (OverAs T H G s) = (T < 2 ^ 62) × (H ≤ number_limit) × (G ≤ number_limit) × IsSpellingWithin s
IsLineWithin (CasesAs s cites) = IsSpellingWithin s × All IsRawCiteWithin cites

-- each number of the row is within its limit
abbrev pub IsWithin : Row → Type 0
IsWithin (LineRow line) = IsLineWithin line
IsWithin (EndRow k) = k ≤ number_limit

-- ---- lists that rise
-- the buffers of the claim rise, or those of its changes
abbrev pub IsSpellingRising : Spelling → Type 0
IsSpellingRising (Full l) = Rises (buffers_of l)
IsSpellingRising (From base changes) = Rises (map buffer_of changes)

-- each list of the line rises
abbrev pub IsLineRising : Spelled → Type 0
IsLineRising (OverAs T H G s) = IsSpellingRising s
IsLineRising (CasesAs s cites) = IsSpellingRising s × Rises (map (λ (p : ℕ × RawCite). p.0) cites)

-- each list of the row rises; an end has none
abbrev pub IsRising : Row → Type 0
IsRising (LineRow line) = IsLineRising line
IsRising (EndRow k) = Unit {0}

-- ---- differences, after these lines
-- the claim is in full, or the line that it is a difference from stands earlier
abbrev pub HasSpellingBase : List RawLine → Spelling → Type 0
HasSpellingBase earlier (Full l) = Unit {0}
HasSpellingBase earlier (From base changes) = base < length earlier

-- the same of the claim of a row; an end has none
abbrev pub HasBase : List RawLine → Row → Type 0
HasBase earlier (LineRow line) = HasSpellingBase earlier (spelling_of line)
HasBase earlier (EndRow k) = Unit {0}

-- the claim is in full, or each of its changes changes the claim of its base, and some buffer is left
abbrev pub HasSpellingChanges : List RawLine → Spelling → Type 0
HasSpellingChanges earlier (Full l) = Unit {0}
HasSpellingChanges earlier (From base changes) = AreChanges (claim_at earlier base) changes

-- the same of the claim of a row; an end has none
abbrev pub HasChanges : List RawLine → Row → Type 0
HasChanges earlier (LineRow line) = HasSpellingChanges earlier (spelling_of line)
HasChanges earlier (EndRow k) = Unit {0}

-- ---- what bytes say
-- a row as a log's text has it, after these lines
pub record IsGood (version : ℕ) (earlier : List RawLine) (row : Row) : Type 0 where
  pub formed : IsFormed version row
  pub within : IsWithin row
  pub rising : IsRising row
  pub base : HasBase earlier row
  pub changes : HasChanges earlier row

-- each of the lines is good after all before it
abbrev pub AreGood : ℕ → List RawLine → List Spelled → Type 0
AreGood version earlier [] = Unit {0}
AreGood version earlier (s ∷ ss) =
    IsGood version earlier (LineRow s) × AreGood version (earlier ++ line_said earlier s ∷ []) ss

-- the bytes say the log by this version
pub record SaysBy (version : ℕ) (bytes : List ℕ) (raw : RawLog) : Type 0 where
  pub spelled : List Spelled
  pub count_limit : raw.count ≤ number_limit
  pub capacity_limit : raw.capacity ≤ number_limit
  pub end_limit : raw.end ≤ number_limit
  pub good : AreGood version [] spelled
  pub lines : raw.lines ≡ lines_said [] spelled
  pub text : bytes ≡ spelled_log version raw.count raw.capacity spelled raw.end

-- the bytes say the log: they are its one text of version 1, or say it by version 2
abbrev pub Says : List ℕ → RawLog → Type 0
Says bytes raw = IsTextOf bytes raw ⊎ SaysBy 2 bytes raw
