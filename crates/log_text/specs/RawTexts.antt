-- The one text of a log that is given by its numbers, by cases on the log. Nothing here reads.
use Rattle.std.specs.Prelude.{◌≡◌, ◌≢◌, ℕ, List, [], ◌∷◌, ◌++◌, All, codes, flat_map}
use Rattle.dsa_terms.specs.Claims.{Entry}
use Rattle.log_text.specs.Numerals.{numeral}
use Rattle.log_text.specs.RawLogs.{IsRawKept}
use Rattle.log_text.specs.declared.raw.RawCite.{RawCite}
use Rattle.log_text.specs.declared.raw.RawCite.TheVariants as raw_cite
use Rattle.log_text.specs.declared.raw.RawLine.{RawLine}
use Rattle.log_text.specs.declared.raw.RawLine.TheVariants as raw_line
use Rattle.log_text.specs.declared.raw.RawLog.{RawLog}

-- the items with a space between each two
abbrev pub spaced : {X : Type 0} → (X → List ℕ) → List X → List ℕ
spaced text [] = []
spaced text (x ∷ xs) = text x ++ flat_map (λ y. 32 ∷ text y) xs

-- a buffer and its bound, as 2=3
abbrev pub pair_text : Entry → List ℕ
pair_text e = numeral e.0 ++ (61 ∷ numeral e.1)

-- a buffer and its cite, as 1>0, 1<2 or 1~0
abbrev pub cite_text : ℕ × RawCite → List ℕ
cite_text (b, raw_cite.Line k) = numeral b ++ (62 ∷ numeral k)
cite_text (b, raw_cite.Below c) = numeral b ++ (60 ∷ numeral c)
cite_text (b, raw_cite.Twin c) = numeral b ++ (126 ∷ numeral c)

-- as over 0 3 1 : 2=3, or case : 1=1 2=1 : 1>0 2>1
abbrev pub line_text : RawLine → List ℕ
line_text (raw_line.Over T H G l) =
    codes "over " ++ numeral T ++ codes " " ++ numeral H ++ codes " " ++ numeral G
    ++ codes " : " ++ spaced pair_text l ++ codes "\n"
line_text (raw_line.Cases l cites) =
    codes "case : " ++ spaced pair_text l ++ codes " : " ++ spaced cite_text cites ++ codes "\n"

-- a header of any version
abbrev pub header_text : ℕ → ℕ → ℕ → List ℕ
header_text version count capacity =
    codes "dsalog " ++ numeral version ++ codes " " ++ numeral count ++ codes " " ++ numeral capacity ++ codes "\n"

-- the end, which names the line whose claim ends the log
abbrev pub end_text : ℕ → List ℕ
end_text k = codes "end " ++ numeral k ++ codes "\n"

-- the text of a log, in version 1
abbrev pub raw_text : RawLog → List ℕ
raw_text log = header_text 1 log.count log.capacity ++ flat_map line_text log.lines ++ end_text log.end

-- a Cases line has a cite
abbrev pub HasCite : RawLine → Type 0
HasCite (raw_line.Over T H G l) = Unit {0}
HasCite (raw_line.Cases l cites) = cites ≢ []

-- the bytes are the text of the log, within all limits, with rising lists and none that is empty
pub record IsTextOf (bytes : List ℕ) (raw : RawLog) : Type 0 where
  pub kept : IsRawKept raw
  pub cited : All HasCite raw.lines
  pub text : bytes ≡ raw_text raw
