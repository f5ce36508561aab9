-- Lines whose buffers are brought into 32 bits.
use Rattle.std.specs.Prelude.{◌≡◌, ◌^◌, ◌-◌, ◌≤◌, length, min, not, [], ◌∷◌, map, Option, None}
use Rattle.dsa_terms.specs.Buffers.{Instance}
use Rattle.dsa_terms.specs.Logs.{Line, Over, Cases, claim_of}
use Rattle.dsa_terms.specs.Firsts.{when, first_fault}
use Rattle.dsa_model.specs.Buffer.{buffer_limit}
use Rattle.refute_log.specs.Lines.{cite_value}
use Rattle.refute_log.specs.Reasons.{claim_reason}
use Rattle.refute_log.specs.declared.line.Cite.{Cite}
use Rattle.refute_log.specs.declared.line.Cite.TheVariants as cite
use Rattle.refute_log.specs.declared.reason.Reason.{Reason}
use Rattle.refute_log.specs.declared.reason.Reason.TheVariants as reason
use Rattle.log_text.specs.declared.raw.RawLine.{RawLine}
use Rattle.log_text.specs.declared.raw.RawLine.TheVariants as raw
use Rattle.log_text.specs.declared.raw.RawCite.{RawCite}
use Rattle.log_text.specs.declared.raw.RawCite.TheVariants as raw_cite
use Rattle.log_check.specs.Faults.{line_of, has_own_cites}

-- the cite that a text says; another buffer that is above all numbers of 32 bits becomes their greatest
abbrev pub narrow_cite : RawCite → Cite
narrow_cite (raw_cite.Line k) = cite.Line k
narrow_cite (raw_cite.Below c) = cite.Below (min c (2 ^ 32 - 1))
narrow_cite (raw_cite.Twin c) = cite.Twin (min c (2 ^ 32 - 1))

-- the line that a text says, with such cites
abbrev pub narrow_line : RawLine → Line
narrow_line (raw.Over moment height modulus claim) = Over claim moment height modulus
narrow_line (raw.Cases claim cites) = Cases claim (map cite_value (map (λ p. narrow_cite p.1) cites))

-- what is wrong with the line before its rule is looked at: its claim, or the buffers of its cites
abbrev pub shape_reason : Instance → RawLine → Option Reason
shape_reason I line = first_fault (
    claim_reason I (claim_of (line_of line))
    ∷ when (not (has_own_cites line)) reason.CitesDiffer
    ∷ [])

-- nothing is wrong with the line's shape, and the other line is the one that it says, narrowed, of an instance of at
-- most `buffer_limit` buffers
pub record IsNarrowed (I : Instance) (line : RawLine) (made : Line) : Type 0 where
  pub shape : shape_reason I line ≡ None
  pub is_made : made ≡ narrow_line line
  pub few : length I ≤ buffer_limit
