-- The first fault of a log that is not accepted.
use Rattle.std.specs.Prelude.{ℕ, Bool, true, not, ◌==◌, List, [], ◌∷◌, map, length, take, Option, Some, None, option_map, slice_get}
use Rattle.std.specs.Str.{bytes_eq}
use Rattle.dsa_terms.specs.Buffers.{Instance}
use Rattle.dsa_terms.specs.Claims.{buffers_of}
use Rattle.dsa_terms.specs.Logs.{Line, Over, Cases, Cite, ByLine, Below, Twin, claim_of}
use Rattle.dsa_terms.specs.Parts.{numbers}
use Rattle.dsa_terms.specs.Search.{first_some}
use Rattle.dsa_terms.specs.Firsts.{when, first_fault}
use Rattle.canonical_order.specs.Claims.{is_above_floor, least_buffer}
use Rattle.refute_log.specs.Reasons.{claim_reason, rule_reason}
use Rattle.refute_log.specs.declared.reason.Reason.{Reason}
use Rattle.refute_log.specs.declared.reason.Reason.TheVariants as reason
use Rattle.log_text.specs.declared.raw.RawLog.{RawLog}
use Rattle.log_text.specs.declared.raw.RawLine.{RawLine}
use Rattle.log_text.specs.declared.raw.RawLine.TheVariants as raw
use Rattle.log_text.specs.declared.raw.RawCite.{RawCite}
use Rattle.log_text.specs.declared.raw.RawCite.TheVariants as cite
use Rattle.log_check.specs.declared.fault.CheckFault.{CheckFault}
use Rattle.log_check.specs.declared.fault.CheckFault.TheVariants as fault

-- the cite that a text says
abbrev pub cite_of : RawCite → Cite
cite_of (cite.Line k) = ByLine k
cite_of (cite.Below c) = Below c
cite_of (cite.Twin c) = Twin c

-- the line that a text says, its cites in their order
abbrev pub line_of : RawLine → Line
line_of (raw.Over moment height modulus claim) = Over claim moment height modulus
line_of (raw.Cases claim cites) = Cases claim (map (λ p. cite_of p.1) cites)

-- the cites are of just the buffers of the claim
abbrev pub has_own_cites : RawLine → Bool
has_own_cites (raw.Over moment height modulus claim) = true
has_own_cites (raw.Cases claim cites) = bytes_eq (map (λ p. p.0) cites) (buffers_of claim)

-- the first reason for which the line is not legal after the earlier ones: its claim, its cites' buffers, its own rule
abbrev pub raw_reason : Instance → ℕ → List Line → RawLine → Option Reason
raw_reason I C earlier line = first_fault (
    claim_reason I (claim_of (line_of line))
    ∷ when (not (has_own_cites line)) reason.CitesDiffer
    ∷ rule_reason I C earlier (line_of line)
    ∷ [])

-- the reason of the line of that number, where there is one, after the lines before it
abbrev pub reason_at : Instance → ℕ → List RawLine → ℕ → Option Reason
reason_at I C lines k = reason_of (slice_get lines k)
  where
    reason_of : Option RawLine → Option Reason
    reason_of None = None
    reason_of (Some line) = raw_reason I C (map line_of (take k lines)) line

-- the fault of the line of that number, where it is not legal after those before it
abbrev pub illegal_at : Instance → ℕ → List RawLine → ℕ → Option CheckFault
illegal_at I C lines k = option_map (fault.Illegal k) (reason_at I C lines k)

-- the least line that is not legal after those before it, as a fault
abbrev pub illegal_fault : Instance → ℕ → List RawLine → Option CheckFault
illegal_fault I C lines = first_some (illegal_at I C lines) (numbers (length lines))

-- the end names no line, or one with a bound above its buffer's floor, at the least buffer that has one
abbrev pub end_fault : Instance → ℕ → Option RawLine → Option CheckFault
end_fault I end None = Some (fault.EndRange end)
end_fault I end (Some line) =
    option_map (fault.EndNotWhole end) (least_buffer (is_above_floor I) (claim_of (line_of line)))

-- the first fault of a log: its count, then the least line that is not legal, then its end
abbrev pub check_fault : Instance → RawLog → Option CheckFault
check_fault I log = first_fault (
    when (not (log.count == length I)) (fault.WrongCount log.count (length I))
    ∷ illegal_fault I log.capacity log.lines
    ∷ end_fault I log.end (slice_get log.lines log.end)
    ∷ [])
