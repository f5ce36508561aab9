-- The first fault of bytes that say no log.
use Rattle.std.specs.Prelude.{◌≡◌, ℕ, ◌^◌, ◌<◌, ◌≤◌, ◌≢◌, ◌⊎◌, List, [], ◌++◌, length, flat_map}
use Rattle.dsa_model.specs.Limits.{number_limit}
use Rattle.log_text.specs.RawTexts.{header_text}
use Rattle.log_text.specs.Says.{AreGood, EndRow, HasBase, HasChanges, IsFormed, IsRising, IsWithin, Row, row_text}
use Rattle.log_text.specs.Spellings.{Spelled, lines_said, spelled_text}
use Rattle.log_text.specs.declared.fault.TextFault.{TextFault}
use Rattle.log_text.specs.declared.fault.TextFault.TheVariants.{NotLog, BadVersion, BadLine, NumberTooLarge, NotRising, BadBase, BadChange, NoEnd, AfterEnd}
use Rattle.log_text.specs.declared.raw.RawLine.{RawLine}

-- the bytes begin with a header whose numbers are within their limits
pub record HasHeader (bytes : List ℕ) (version count capacity : ℕ) (rest : List ℕ) : Type 0 where
  pub version_limit : version < 2 ^ 64
  pub count_limit : count ≤ number_limit
  pub capacity_limit : capacity ≤ number_limit
  pub text : bytes ≡ header_text version count capacity ++ rest

-- a version that is read
abbrev pub IsVersion : ℕ → Type 0
IsVersion version = (version ≡ 1) ⊎ (version ≡ 2)

-- the bytes are a header of a version that is read, then good lines that say these, then the rest
pub record GoesOn (version : ℕ) (bytes : List ℕ) (lines : List RawLine) (rest : List ℕ) : Type 0 where
  pub known : IsVersion version
  pub count : ℕ
  pub capacity : ℕ
  pub count_limit : count ≤ number_limit
  pub capacity_limit : capacity ≤ number_limit
  pub spelled : List Spelled
  pub good : AreGood version [] spelled
  pub said : lines ≡ lines_said [] spelled
  pub text : bytes ≡ header_text version count capacity ++ (flat_map spelled_text spelled ++ rest)

-- the bytes begin no row of that version
abbrev pub HasNoRow : ℕ → List ℕ → Type 0
HasNoRow version bytes = (row : Row) (more : List ℕ) → IsFormed version row → bytes ≡ row_text row ++ more → ⊥

-- the bytes begin with the row, which has the form of that version
pub record HasRow (version : ℕ) (bytes : List ℕ) (row : Row) (more : List ℕ) : Type 0 where
  pub formed : IsFormed version row
  pub text : bytes ≡ row_text row ++ more

-- the bytes go on with these lines, then this row, then more
pub record Meets (bytes : List ℕ) (lines : List RawLine) (row : Row) (more : List ℕ) : Type 0 where
  pub version : ℕ
  pub rest : List ℕ
  pub goes_on : GoesOn version bytes lines rest
  pub has_row : HasRow version rest row more

-- the first fault of the bytes, read from the front: of the header, else of the row after the good lines that come
-- first. Of a row that is met each fault says that those before it are not there
pub data IsFirstFault (bytes : List ℕ) : TextFault → Type 0 where
  no_header : (none : (version count capacity : ℕ) (rest : List ℕ) → HasHeader bytes version count capacity rest → ⊥) →
      IsFirstFault bytes NotLog
  other_version : (version count capacity : ℕ) (rest : List ℕ) (header : HasHeader bytes version count capacity rest)
      (unknown : IsVersion version → ⊥) → IsFirstFault bytes (BadVersion version)
  no_end : (version : ℕ) (lines : List RawLine) (goes_on : GoesOn version bytes lines []) → IsFirstFault bytes NoEnd
  no_row : (version : ℕ) (lines : List RawLine) (rest : List ℕ) (goes_on : GoesOn version bytes lines rest)
      (some : rest ≢ []) (none : HasNoRow version rest) → IsFirstFault bytes (BadLine (length lines))
  too_large : (lines : List RawLine) (row : Row) (more : List ℕ) (met : Meets bytes lines row more)
      (past_limit : IsWithin row → ⊥) → IsFirstFault bytes (NumberTooLarge (length lines))
  falls : (lines : List RawLine) (row : Row) (more : List ℕ) (met : Meets bytes lines row more)
      (within : IsWithin row) (not_rising : IsRising row → ⊥) → IsFirstFault bytes (NotRising (length lines))
  no_base : (lines : List RawLine) (row : Row) (more : List ℕ) (met : Meets bytes lines row more)
      (within : IsWithin row) (rising : IsRising row) (none : HasBase lines row → ⊥) →
      IsFirstFault bytes (BadBase (length lines))
  no_change : (lines : List RawLine) (row : Row) (more : List ℕ) (met : Meets bytes lines row more)
      (within : IsWithin row) (rising : IsRising row) (base : HasBase lines row) (none : HasChanges lines row → ⊥) →
      IsFirstFault bytes (BadChange (length lines))
  after_end : (lines : List RawLine) (last : ℕ) (more : List ℕ) (met : Meets bytes lines (EndRow last) more)
      (within : last ≤ number_limit) (some : more ≢ []) → IsFirstFault bytes AfterEnd
