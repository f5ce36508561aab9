-- Logs that are carried over to fewer buffers.
use Rattle.std.specs.Prelude.{◌≡◌, ℕ, ◌==◌, List, map, length, slice_get, slice_index, Some}
use Rattle.std.specs.List.{position_or_len}
use Rattle.dsa_terms.specs.Buffers.{Instance}
use Rattle.dsa_terms.specs.Claims.{Claim, Entry, Rises}
use Rattle.dsa_terms.specs.Logs.{Cite, ByLine, Below, Twin, IsAccepted, Line, Over, Cases, Log, claim_of}
use Rattle.dsa_trim_laws.specs.Trimmed.{trimmed}
use Rattle.dsa_model.specs.Chosen.{some_of}
use Rattle.refute_log.specs.Logs.{OpenLog, ended}
use Rattle.core_find.specs.Cores.{AreAmong}

-- the line is the log's end
abbrev pub IsEnd : Log → Line → Type 0
IsEnd log line = slice_get log.lines log.final ≡ Some line

-- the numbers of the buffers of a claim of these members: its own numbers are places among them
abbrev pub named : List ℕ → Claim → List ℕ
named members l = map (λ (e : Entry). slice_index members e.0) l

-- the log of those before needs none but the members: its end names no other
pub record NeedsOnly (I : Instance) (before members : List ℕ) (log : Log) : Type 0 where
  pub rise : Rises before
  pub accepted : IsAccepted (some_of I before) log
  pub names : (line : Line) → IsEnd log line → AreAmong (named before (claim_of line)) members

-- the place of b among the members, and one past the last where it is none of them
unfoldable pub place_among : ℕ → List ℕ → ℕ
place_among b members = position_or_len (λ m. m == b) members

-- for each of those before its place among the members
abbrev pub places_among : (before members : List ℕ) → List ℕ
places_among before members = map (λ b. place_among b members) before

-- the entry with another number of its buffer
abbrev pub renamed_entry : (ℕ → ℕ) → Entry → Entry
renamed_entry to e = (to e.0, e.1)

-- the claim with other numbers of its buffers
abbrev pub renamed_claim : (ℕ → ℕ) → Claim → Claim
renamed_claim to l = map (renamed_entry to) l

-- the cite with another number of the buffer that it names
abbrev pub renamed_cite : (ℕ → ℕ) → Cite → Cite
renamed_cite to (ByLine k) = ByLine k
renamed_cite to (Below c) = Below (to c)
renamed_cite to (Twin c) = Twin (to c)

-- the line with other numbers of its buffers
abbrev pub renamed_line : (ℕ → ℕ) → Line → Line
renamed_line to (Over l T H G) = Over (renamed_claim to l) T H G
renamed_line to (Cases l cites) = Cases (renamed_claim to l) (map (renamed_cite to) cites)

-- the lines of a log with other numbers of their buffers, as a log of n buffers without an end
abbrev pub renamed_log : ℕ → (ℕ → ℕ) → Log → OpenLog
renamed_log n to log = record { count = n; capacity = log.capacity; lines = map (renamed_line to) log.lines }

-- what is left for the members of a log of those before: the lines that its end needs, with each buffer by its place
unfoldable pub carried : (before members : List ℕ) → Log → Log
carried before members log =
    ended (renamed_log (length members) (slice_index (places_among before members)) (trimmed log)) (trimmed log).final
