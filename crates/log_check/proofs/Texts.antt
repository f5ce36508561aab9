-- What texts say of lines, there and back.
use Rattle.std.proofs.Common.{◌≡◌, ℕ, suc, true, List, [], ◌∷◌, map, length, refl, ap, ◌∙◌, arith}
use Rattle.std.specs.List.{zip}
use Rattle.std.specs.Cmp.Lexicographic.{bytes_decides}
use Rattle.dsa_terms.specs.Claims.{Claim, buffers_of}
use Rattle.dsa_terms.specs.Logs.{Line, Over, Cases, Cite, ByLine, Below, Twin}
use Rattle.refute_log.specs.Lines.{HasCites}
use Rattle.log_text.specs.Text.{raw_cite_of, raw_line_of}
use Rattle.log_text.specs.declared.raw.RawLine.{RawLine}
use Rattle.log_text.specs.declared.raw.RawLine.TheVariants as raw
use Rattle.log_text.specs.declared.raw.RawCite.{RawCite}
use Rattle.log_text.specs.declared.raw.RawCite.TheVariants as raw_cite
use Rattle.log_check.specs.Faults.{cite_of, line_of, has_own_cites}

-- ---- from a text and back
raw_cite_back : (cite : RawCite) → raw_cite_of (cite_of cite) ≡ cite
raw_cite_back (raw_cite.Line k) = refl
raw_cite_back (raw_cite.Below c) = refl
raw_cite_back (raw_cite.Twin c) = refl

raw_cites_back : (cites : List (ℕ × RawCite)) →
    zip (map (λ p. p.0) cites) (map raw_cite_of (map (λ p. cite_of p.1) cites)) ≡ cites
raw_cites_back [] = refl
raw_cites_back ((b, cite) ∷ ps) = rw (raw_cite_back cite, raw_cites_back ps) refl

pub raw_line_back : (line : RawLine) → has_own_cites line ≡ true → raw_line_of (line_of line) ≡ line
raw_line_back (raw.Over T H G l) h = refl
raw_line_back (raw.Cases l cites) h =
    let e = (bytes_decides (map (λ (p : ℕ × RawCite). p.0) cites) (buffers_of l)).0 h in
    ap (raw.Cases l) (rw (← e) (raw_cites_back cites))

-- ---- to a text and back
cite_back : (cite : Cite) → cite_of (raw_cite_of cite) ≡ cite
cite_back (ByLine k) = refl
cite_back (Below c) = refl
cite_back (Twin c) = refl

cites_back : (bs : List ℕ) (cites : List Cite) → length bs ≡ length cites →
    map (λ (p : ℕ × RawCite). cite_of p.1) (zip bs (map raw_cite_of cites)) ≡ cites
cites_back [] [] h = refl
cites_back [] (c ∷ cs) h = absurd (omega arith)
cites_back (b ∷ bs) [] h = absurd (omega arith)
cites_back (b ∷ bs) (c ∷ cs) h = rw (cite_back c, cites_back bs cs (omega arith)) refl

length-buffers : (l : Claim) → length (buffers_of l) ≡ length l
length-buffers [] = refl
length-buffers (e ∷ es) = ap suc (length-buffers es)

pub line_back : (line : Line) → HasCites line → line_of (raw_line_of line) ≡ line
line_back (Over l T H G) h = refl
line_back (Cases l cites) h = ap (Cases l) (cites_back (buffers_of l) cites (length-buffers l ∙ h))

buffers_back : (bs : List ℕ) (cites : List Cite) → length bs ≡ length cites →
    map (λ (p : ℕ × RawCite). p.0) (zip bs (map raw_cite_of cites)) ≡ bs
buffers_back [] cites h = refl
buffers_back (b ∷ bs) [] h = absurd (omega arith)
buffers_back (b ∷ bs) (c ∷ cs) h = ap (λ bs. b ∷ bs) (buffers_back bs cs (omega arith))

pub own_cites : (line : Line) → HasCites line → has_own_cites (raw_line_of line) ≡ true
own_cites (Over l T H G) h = refl
own_cites (Cases l cites) h =
    (bytes_decides (map (λ (p : ℕ × RawCite). p.0) (zip (buffers_of l) (map raw_cite_of cites))) (buffers_of l)).1
    (buffers_back (buffers_of l) cites (length-buffers l ∙ h))
