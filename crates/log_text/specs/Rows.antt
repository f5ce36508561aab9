-- What the reader gives for a claim, a line, a row and a header.
use Rattle.std.specs.Prelude.{◌≡◌, ℕ, Option, codes, List, ◌∷◌, ◌++◌, map}
use Rattle.dsa_terms.specs.Claims.{Claim}
use Rattle.log_text.specs.Changes.{Change}
use Rattle.log_text.specs.Edits.{capped_change, change_value, changes_text}
use Rattle.log_text.specs.Faults.{GoesOn, HasHeader, HasRow, IsFirstFault, IsVersion}
use Rattle.log_text.specs.Numerals.{numeral}
use Rattle.log_text.specs.RawTexts.{cite_text, header_text, spaced}
use Rattle.log_text.specs.Reading.{capped, capped_cite, capped_pair, fitting, over_start}
use Rattle.log_text.specs.Says.{EndRow, HasSpellingBase, HasSpellingChanges, IsGood, IsLineFormed, IsSpellingFormed, LineRow, Row, row_text}
use Rattle.log_text.specs.Spellings.{CasesAs, From, Full, OverAs, Spelled, Spelling, claim_said, line_said, spelling_of, spelling_text}
use Rattle.log_text.specs.declared.fault.TextFault.{TextFault}
use Rattle.log_text.specs.declared.raw.RawCite.{RawCite}
use Rattle.log_text.specs.declared.raw.RawLine.{RawLine}
use Rattle.log_text.specs.declared.rows.Read.{Read}
use Rattle.log_text.specs.declared.rows.Read.TheVariants as read
use Rattle.log_text.specs.declared.rows.ReadClaim.{ReadClaim}
use Rattle.log_text.specs.declared.rows.ReadClaim.TheVariants as read_claim
use Rattle.log_text.specs.declared.rows.ReadLine.{ReadLine}
use Rattle.log_text.specs.declared.rows.ReadLine.TheVariants as read_line
use Rattle.log_text.specs.declared.said.Said.{Said}
use Rattle.log_text.specs.declared.said.Said.TheVariants as said
use Rattle.log_text.specs.declared.said.Unsaid.{Unsaid}
use Rattle.log_text.specs.declared.said.Unsaid.TheVariants as unsaid

-- ---- what was read
-- how the claim is spelled
abbrev pub spelling_value : ReadClaim → Spelling
spelling_value (read_claim.Full l) = Full l
spelling_value (read_claim.From base changes) = From base (map change_value changes.items)

-- how the line is spelled
abbrev pub spelled_value : ReadLine → Spelled
spelled_value (read_line.Over T H G claim) = OverAs T H G (spelling_value claim)
spelled_value (read_line.Cases claim cites) = CasesAs (spelling_value claim) cites

-- the row
abbrev pub row_value : Read → Row
row_value (read.Line line) = LineRow (spelled_value line)
row_value (read.End k) = EndRow k

-- ---- numbers of 64 bits
-- each number of a claim
abbrev pub capped_spelling : Spelling → Spelling
capped_spelling (Full l) = Full (map capped_pair l)
capped_spelling (From base changes) = From (capped base) (map capped_change changes)

-- each number of a line
abbrev pub capped_line : Spelled → Spelled
capped_line (OverAs T H G s) = OverAs (capped T) (capped H) (capped G) (capped_spelling s)
capped_line (CasesAs s cites) = CasesAs (capped_spelling s) (map capped_cite cites)

-- each number of a row
abbrev pub capped_row : Row → Row
capped_row (LineRow line) = LineRow (capped_line line)
capped_row (EndRow k) = EndRow (capped k)

-- ---- claims
-- a claim of that version was read, and the bytes that have to follow it
pub record IsSpellingRead (version : ℕ) (end old : List ℕ) (value : Spelling) (new : List ℕ) : Type 0 where
  pub spelling : Spelling
  pub formed : IsSpellingFormed version spelling
  pub text : old ≡ spelling_text spelling ++ (end ++ new)
  pub value_is : value ≡ capped_spelling spelling

-- no claim of that version with these bytes after it stands here
abbrev pub HasNoSpelling : ℕ → List ℕ → List ℕ → Type 0
HasNoSpelling version end old =
    (s : Spelling) (r : List ℕ) → IsSpellingFormed version s → old ≡ spelling_text s ++ (end ++ r) → ⊥

-- no difference begins here
abbrev pub HasNoBase : List ℕ → Type 0
HasNoBase old = (r : List ℕ) → old ≡ 64 ∷ r → ⊥

-- a difference was read after its first byte, and the bytes that have to follow it
pub record IsDifferenceRead (end old : List ℕ) (value : Spelling) (new : List ℕ) : Type 0 where
  pub base : ℕ
  pub changes : List Change
  pub text : old ≡ numeral base ++ (changes_text changes ++ (end ++ new))
  pub value_is : value ≡ capped_spelling (From base changes)

-- no difference with these bytes after it stands here after its first byte
abbrev pub HasNoDifference : List ℕ → List ℕ → Type 0
HasNoDifference end old = (base : ℕ) (changes : List Change) (r : List ℕ) →
    old ≡ numeral base ++ (changes_text changes ++ (end ++ r)) → ⊥

-- ---- lines
-- an Over line after its first word
abbrev pub over_rest : ℕ → ℕ → ℕ → Spelling → List ℕ → List ℕ
over_rest T H G s r = over_start T H G (spelling_text s ++ (codes "\n" ++ r))

-- an Over line was read after its first word
pub record IsOverRead (version : ℕ) (old : List ℕ) (line : Spelled) (new : List ℕ) : Type 0 where
  pub T : ℕ
  pub H : ℕ
  pub G : ℕ
  pub spelling : Spelling
  pub formed : IsSpellingFormed version spelling
  pub text : old ≡ over_rest T H G spelling new
  pub line_is : line ≡ capped_line (OverAs T H G spelling)

-- no Over line stands here after its first word
abbrev pub HasNoOver : ℕ → List ℕ → Type 0
HasNoOver version old =
    (T H G : ℕ) (s : Spelling) (r : List ℕ) → IsSpellingFormed version s → old ≡ over_rest T H G s r → ⊥

-- a Cases line after its first word
abbrev pub cases_rest : Spelling → List (ℕ × RawCite) → List ℕ → List ℕ
cases_rest s cites r = spelling_text s ++ (codes " : " ++ (spaced cite_text cites ++ (codes "\n" ++ r)))

-- a Cases line was read after its first word
pub record IsCasesRead (version : ℕ) (old : List ℕ) (line : Spelled) (new : List ℕ) : Type 0 where
  pub spelling : Spelling
  pub cites : List (ℕ × RawCite)
  pub formed : IsLineFormed version (CasesAs spelling cites)
  pub text : old ≡ cases_rest spelling cites new
  pub line_is : line ≡ capped_line (CasesAs spelling cites)

-- no Cases line stands here after its first word
abbrev pub HasNoCases : ℕ → List ℕ → Type 0
HasNoCases version old = (s : Spelling) (cites : List (ℕ × RawCite)) (r : List ℕ) →
    IsLineFormed version (CasesAs s cites) → old ≡ cases_rest s cites r → ⊥

-- ---- rows
-- a row of that version was read, its numbers of 64 bits
pub record IsRowRead (version : ℕ) (old : List ℕ) (value : Read) (new : List ℕ) : Type 0 where
  pub row : Row
  pub is_row : HasRow version old row new
  pub value_is : row_value value ≡ capped_row row

-- ---- what is said after these lines
-- the claim that is spelled
pub record IsClaimSaid (lines : List RawLine) (s : Spelling) (claim : Claim) : Type 0 where
  pub base : HasSpellingBase lines s
  pub changes : HasSpellingChanges lines s
  pub claim_is : claim ≡ claim_said lines s

-- the line that is spelled
pub record IsLineSaid (lines : List RawLine) (s : Spelled) (line : RawLine) : Type 0 where
  pub base : HasSpellingBase lines (spelling_of s)
  pub changes : HasSpellingChanges lines (spelling_of s)
  pub line_is : line ≡ line_said lines s

-- what is wrong with a difference
abbrev pub IsUnsaid : List RawLine → Spelling → Unsaid → Type 0
IsUnsaid lines s unsaid.NoBase = HasSpellingBase lines s → ⊥
IsUnsaid lines s unsaid.NoChange = HasSpellingBase lines s × (HasSpellingChanges lines s → ⊥)

-- what the row says
abbrev pub row_said : List RawLine → Row → Said
row_said lines (LineRow s) = said.Line (line_said lines s)
row_said lines (EndRow k) = said.End k

-- a good row that says this was read
pub record IsGoodRead (version : ℕ) (lines : List RawLine) (old : List ℕ) (value : Said) (new : List ℕ) : Type 0 where
  pub row : Row
  pub good : IsGood version lines row
  pub text : old ≡ row_text row ++ new
  pub says : value ≡ row_said lines row

-- the first fault of all bytes that go on with these lines and then with the rest
abbrev pub IsFaultAfter : ℕ → List RawLine → List ℕ → TextFault → Type 0
IsFaultAfter version lines rest fault =
    (bytes : List ℕ) → GoesOn version bytes lines rest → IsFirstFault bytes fault

-- ---- headers
-- a header was read, of any numbers
pub record IsHeaderRead (old : List ℕ) (version count capacity : Option ℕ) (new : List ℕ) : Type 0 where
  pub v : ℕ
  pub n : ℕ
  pub c : ℕ
  pub text : old ≡ header_text v n c ++ new
  pub version_is : version ≡ fitting v
  pub count_is : count ≡ fitting n
  pub capacity_is : capacity ≡ fitting c

-- no header stands here
abbrev pub HasNoHeader : List ℕ → Type 0
HasNoHeader old = (v n c : ℕ) (r : List ℕ) → old ≡ header_text v n c ++ r → ⊥

-- a header of a version that is read, with its numbers within their limits
pub record IsStarted (old : List ℕ) (version count capacity : ℕ) (new : List ℕ) : Type 0 where
  pub header : HasHeader old version count capacity new
  pub known : IsVersion version
