-- How the text of a log spells a line: its claim in full, or as a difference from an earlier line's claim. By cases;
-- nothing here reads.
use Rattle.std.specs.Prelude.{ℕ, zero, suc, ◌+◌, cond, nat_lt, List, [], ◌∷◌, ◌++◌, codes, flat_map, length}
use Rattle.dsa_terms.specs.Claims.{Claim}
use Rattle.dsa_terms.specs.Logs.{Log}
use Rattle.log_text.specs.Changes.{Change, Drops, Puts, carried_out, difference}
use Rattle.log_text.specs.Numerals.{numeral}
use Rattle.log_text.specs.RawLogs.{raw_claim_of}
use Rattle.log_text.specs.RawTexts.{cite_text, end_text, header_text, pair_text, spaced}
use Rattle.log_text.specs.Text.{raw_log_of}
use Rattle.log_text.specs.declared.raw.RawCite.{RawCite}
use Rattle.log_text.specs.declared.raw.RawLine.{RawLine}
use Rattle.log_text.specs.declared.raw.RawLine.TheVariants as raw_line
use Rattle.log_text.specs.declared.raw.RawLog.{RawLog}

-- a claim as a text spells it: in full, or as changes of the claim of the line of that number
pub data Spelling : Type 0 where
  Full : (l : Claim) → Spelling
  From : (base : ℕ) (changes : List Change) → Spelling

-- a line as a text spells it
pub data Spelled : Type 0 where
  OverAs : (T H G : ℕ) (s : Spelling) → Spelled
  CasesAs : (s : Spelling) (cites : List (ℕ × RawCite)) → Spelled

-- how the claim of the line is spelled
abbrev pub spelling_of : Spelled → Spelling
spelling_of (OverAs T H G s) = s
spelling_of (CasesAs s cites) = s

-- ---- its bytes
-- a change, as 2=3 or -2
abbrev pub change_text : Change → List ℕ
change_text (Puts e) = pair_text e
change_text (Drops b) = 45 ∷ numeral b

-- a claim, as 0=0 2=3, or @4 0=0 -2
abbrev pub spelling_text : Spelling → List ℕ
spelling_text (Full l) = spaced pair_text l
spelling_text (From base changes) = 64 ∷ (numeral base ++ flat_map (λ c. 32 ∷ change_text c) changes)

-- as over 0 3 1 : 2=3, or case : @1 1=1 : 1>0 2>1
abbrev pub spelled_text : Spelled → List ℕ
spelled_text (OverAs T H G s) =
    codes "over " ++ numeral T ++ codes " " ++ numeral H ++ codes " " ++ numeral G
    ++ codes " : " ++ spelling_text s ++ codes "\n"
spelled_text (CasesAs s cites) =
    codes "case : " ++ spelling_text s ++ codes " : " ++ spaced cite_text cites ++ codes "\n"

-- ---- what it says
-- the claim of the line of that number, and none where there is no such line
abbrev pub claim_at : List RawLine → ℕ → Claim
claim_at [] k = []
claim_at (line ∷ lines) zero = raw_claim_of line
claim_at (line ∷ lines) (suc k) = claim_at lines k

-- the claim that is spelled after these lines
abbrev pub claim_said : List RawLine → Spelling → Claim
claim_said earlier (Full l) = l
claim_said earlier (From base changes) = carried_out (claim_at earlier base) changes

-- the line that is spelled after these lines
abbrev pub line_said : List RawLine → Spelled → RawLine
line_said earlier (OverAs T H G s) = raw_line.Over T H G (claim_said earlier s)
line_said earlier (CasesAs s cites) = raw_line.Cases (claim_said earlier s) cites

-- these lines, and then those that are spelled, each after all before it
abbrev pub lines_said : List RawLine → List Spelled → List RawLine
lines_said earlier [] = earlier
lines_said earlier (s ∷ ss) = lines_said (earlier ++ line_said earlier s ∷ []) ss

-- ---- the one text of version 2 that is written
-- the line with its claim spelled so
abbrev pub spelled_as : RawLine → Spelling → Spelled
spelled_as (raw_line.Over T H G l) s = OverAs T H G s
spelled_as (raw_line.Cases l cites) s = CasesAs s cites

-- a claim after line k: as the difference from that line's claim exactly where that has fewer bytes
abbrev pub shorter : ℕ → Claim → Claim → Spelling
shorter k l m = let d = From k (difference l m) in
    cond (nat_lt (length (spelling_text d)) (length (spelling_text (Full m)))) d (Full m)

-- the lines after line k
abbrev pub spelled_after : ℕ → RawLine → List RawLine → List Spelled
spelled_after k before [] = []
spelled_after k before (line ∷ lines) =
    spelled_as line (shorter k (raw_claim_of before) (raw_claim_of line)) ∷ spelled_after (k + 1) line lines

-- all lines; the first in full
abbrev pub spelled_lines : List RawLine → List Spelled
spelled_lines [] = []
spelled_lines (line ∷ lines) = spelled_as line (Full (raw_claim_of line)) ∷ spelled_after 0 line lines

-- the text of a log of that version by how its lines are spelled
abbrev pub spelled_log : ℕ → ℕ → ℕ → List Spelled → ℕ → List ℕ
spelled_log version count capacity lines end =
    header_text version count capacity ++ flat_map spelled_text lines ++ end_text end

-- the text of a log that is given by its numbers, in version 2
abbrev pub raw_text2 : RawLog → List ℕ
raw_text2 log = spelled_log 2 log.count log.capacity (spelled_lines log.lines) log.end

-- the text of a log, in version 2
abbrev pub log_text2 : Log → List ℕ
log_text2 log = raw_text2 (raw_log_of log)
