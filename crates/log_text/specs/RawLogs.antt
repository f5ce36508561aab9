-- What a log has that was read from a text.
use Rattle.std.specs.Prelude.{ℕ, ◌^◌, ◌<◌, ◌≤◌, ◌≢◌, [], map, All}
use Rattle.dsa_terms.specs.Claims.{Claim, Entry, Rises, buffers_of}
use Rattle.dsa_model.specs.Limits.{number_limit}
use Rattle.log_text.specs.declared.raw.RawCite.{RawCite}
use Rattle.log_text.specs.declared.raw.RawCite.TheVariants as raw_cite
use Rattle.log_text.specs.declared.raw.RawLine.{RawLine}
use Rattle.log_text.specs.declared.raw.RawLine.TheVariants as raw_line
use Rattle.log_text.specs.declared.raw.RawLog.{RawLog}

-- a buffer with its bound: both numbers are at most 2^60
abbrev pub IsPairWithin : Entry → Type 0
IsPairWithin e = (e.0 ≤ number_limit) × (e.1 ≤ number_limit)

-- the number that a cite names
abbrev pub number_of_cite : RawCite → ℕ
number_of_cite (raw_cite.Line k) = k
number_of_cite (raw_cite.Below c) = c
number_of_cite (raw_cite.Twin c) = c

-- a buffer with its cite: both numbers are at most 2^60
abbrev pub IsRawCiteWithin : ℕ × RawCite → Type 0
IsRawCiteWithin p = (p.0 ≤ number_limit) × (number_of_cite p.1 ≤ number_limit)

-- each number of the line is within its limit: a moment is below 2^62, each other number at most 2^60
abbrev pub IsRawLineWithin : RawLine → Type 0
IsRawLineWithin (raw_line.Over T H G l) = (T < 2 ^ 62) × (H ≤ number_limit) × (G ≤ number_limit) × All IsPairWithin l
IsRawLineWithin (raw_line.Cases l cites) = All IsPairWithin l × All IsRawCiteWithin cites

-- the buffers of the claim rise, and those of the cites
abbrev pub IsRising : RawLine → Type 0
IsRising (raw_line.Over T H G l) = Rises (buffers_of l)
IsRising (raw_line.Cases l cites) = Rises (buffers_of l) × Rises (map (λ p. p.0) cites)

-- the claim of the line
abbrev pub raw_claim_of : RawLine → Claim
raw_claim_of (raw_line.Over T H G l) = l
raw_claim_of (raw_line.Cases l cites) = l

-- a line whose claim is not empty, whose lists rise and whose numbers are within their limits
pub record IsRawLineKept (line : RawLine) : Type 0 where
  pub not_empty : raw_claim_of line ≢ []
  pub rising : IsRising line
  pub within : IsRawLineWithin line

-- what holds of each log that is read from a text
pub record IsRawKept (raw : RawLog) : Type 0 where
  pub count_limit : raw.count ≤ number_limit
  pub capacity_limit : raw.capacity ≤ number_limit
  pub end_limit : raw.end ≤ number_limit
  pub lines : All IsRawLineKept raw.lines
