-- The lines of the text of version 2, one by one.
use Rattle.std.proofs.Common.{◌≡◌, ◌^◌, ◌≤◌, ℕ, zero, suc, ◌+◌, inr, List, [], ◌∷◌, ◌++◌, length, drop, map, Some, Result, Ok, Err, OnOk, slice_get, refl, sym, ap, ◌∙◌, subst, arith}
use Rattle.std.specs.List.{flat_map}
use Rattle.dsa_terms.specs.Claims.{Claim}
use Rattle.dsa_terms.specs.Logs.{Line, Over, Cases, Log, claim_of}
use Rattle.dsa_terms.proofs.Places.{get_map}
use Rattle.refute_log.specs.Logs.{IsKeptLog}
use Rattle.log_text.specs.RawLogs.{raw_claim_of}
use Rattle.log_text.specs.RawTexts.{end_text, header_text, line_text}
use Rattle.log_text.specs.Says.{Says, SaysBy}
use Rattle.log_text.specs.Spellings.{Full, Spelled, Spelling, log_text2, shorter, spelled_after, spelled_as, spelled_lines, spelled_text, spelling_text}
use Rattle.log_text.specs.Text.{log_text, raw_line_of, raw_log_of}
use Rattle.log_text.specs.declared.raw.RawLine.{RawLine}
use Rattle.log_text.specs.declared.raw.RawLine.TheVariants as raw_line
use Rattle.log_text.proofs.Left.{all_put, length-map_le}
use Rattle.log_text.proofs.Saying.{text2_says}
use Rattle.log_text.proofs.WrittenLogs.{text_is_read_back}

pub claim_same : (line : Line) → raw_claim_of (raw_line_of line) ≡ claim_of line
claim_same (Over l T H G) = refl
claim_same (Cases l cites) = refl

pub full_line : (line : RawLine) → line_text line ≡ spelled_text (spelled_as line (Full (raw_claim_of line)))
full_line (raw_line.Over T H G l) = refl
full_line (raw_line.Cases l cites) = refl

-- the first line is in full
pub first_there : (lines : List RawLine) (line : RawLine) → slice_get lines 0 ≡ Some line →
    slice_get (spelled_lines lines) 0 ≡ Some (spelled_as line (Full (raw_claim_of line)))
first_there [] line e = absurd cc
first_there (x ∷ xs) line e = ap (λ (l : RawLine). Some (spelled_as l (Full (raw_claim_of l)))) (same e)
  where
    same : Some x ≡ Some line → x ≡ line
    same e = cc

after_there : (n j : ℕ) (first : RawLine) (lines : List RawLine) (before line : RawLine) →
    slice_get (first ∷ lines) j ≡ Some before → slice_get lines j ≡ Some line →
    slice_get (spelled_after n first lines) j
    ≡ Some (spelled_as line (shorter (n + j) (raw_claim_of before) (raw_claim_of line)))
after_there n j first [] before line p q = absurd cc
after_there n zero first (x ∷ xs) before line p q = both (same first before p) (same x line q) (omega arith)
  where
    same : (a b : RawLine) → Some a ≡ Some b → a ≡ b
    same a b e = cc

    both : first ≡ before → x ≡ line → n ≡ n + 0 → Some (spelled_as x (shorter n (raw_claim_of first) (raw_claim_of x)))
        ≡ Some (spelled_as line (shorter (n + 0) (raw_claim_of before) (raw_claim_of line)))
    both a b c = ap (λ (f : RawLine). Some (spelled_as x (shorter n (raw_claim_of f) (raw_claim_of x)))) a
        ∙ (ap (λ (l : RawLine). Some (spelled_as l (shorter n (raw_claim_of before) (raw_claim_of l)))) b
        ∙ ap (λ (k : ℕ). Some (spelled_as line (shorter k (raw_claim_of before) (raw_claim_of line)))) c)
after_there n (suc j) first (x ∷ xs) before line p q = after_there (n + 1) j x xs before line p q
    ∙ ap (λ (k : ℕ). Some (spelled_as line (shorter k (raw_claim_of before) (raw_claim_of line)))) (omega arith)

-- each other line is spelled after the one before it
pub next_there : (lines : List RawLine) (j k : ℕ) (before line : RawLine) → k ≡ j + 1 →
    slice_get lines j ≡ Some before →
    slice_get lines k ≡ Some line →
    slice_get (spelled_lines lines) k ≡ Some (spelled_as line (shorter j (raw_claim_of before) (raw_claim_of line)))
next_there [] j k before line e p q = absurd cc
next_there (x ∷ xs) j k before line e p q = at_next k (e ∙ add_one j) q
  where
    add_one : (n : ℕ) → n + 1 ≡ suc n
    add_one n = omega arith

    at_next : (k : ℕ) → k ≡ suc j → slice_get (x ∷ xs) k ≡ Some line →
        slice_get (spelled_lines (x ∷ xs)) k
        ≡ Some (spelled_as line (shorter j (raw_claim_of before) (raw_claim_of line)))
    at_next zero e q = absurd (omega arith)
    at_next (suc i) e q = let same : i ≡ j = omega arith in
        subst (λ (n : ℕ). slice_get (spelled_after 0 x xs) n
        ≡ Some (spelled_as line (shorter j (raw_claim_of before) (raw_claim_of line))))
        (sym same)
        (after_there 0 j x xs before line p (subst (λ (n : ℕ). slice_get xs n ≡ Some line) same q)
        ∙ ap (λ (n : ℕ). Some (spelled_as line (shorter n (raw_claim_of before) (raw_claim_of line)))) (omega arith))

-- the line at place k of the log was put
abbrev pub IsPut : List Line → ℕ → List ℕ → List ℕ → Type 0
IsPut lines k old new = (s : Spelled) × (slice_get (spelled_lines (map raw_line_of lines)) k ≡ Some s)
    × (new ≡ old ++ spelled_text s)

if_put : {E : Type 0} {P Q : Type 0} (r : Result (Unit {0}) E) → (P → Q) → OnOk r P → OnOk r Q
if_put (Ok u) f h = f h
if_put (Err e) f h = tt

pub first_put : {E : Type 0} (lines : List Line) (k : ℕ) (line : Line) (old new : List ℕ) (r : Result (Unit {0}) E) →
    k ≡ 0 →
    slice_get lines k ≡ Some line → OnOk r (new ≡ old ++ line_text (raw_line_of line)) → OnOk r (IsPut lines k old new)
first_put lines k line old new r z p h = if_put r (λ e. (
  spelled_as (raw_line_of line) (Full (raw_claim_of (raw_line_of line))),
  subst (λ (n : ℕ). slice_get (spelled_lines (map raw_line_of lines)) n
      ≡ Some (spelled_as (raw_line_of line) (Full (raw_claim_of (raw_line_of line))))) (sym z)
      (first_there (map raw_line_of lines) (raw_line_of line) (get_map raw_line_of lines 0 line
      (subst (λ (n : ℕ). slice_get lines n ≡ Some line) z p))),
  e ∙ ap (λ (t : List ℕ). old ++ t) (full_line (raw_line_of line)),
)) h

pub next_put : {E : Type 0} (lines : List Line) (j k : ℕ) (before line : Line) (old new : List ℕ)
    (r : Result (Unit {0}) E)
    (l m : Claim) (bytes : List ℕ) → k ≡ j + 1 → slice_get lines j ≡ Some before → slice_get lines k ≡ Some line →
    l ≡ claim_of before → m ≡ claim_of line → bytes ≡ spelling_text (shorter j l m) →
    ((s : Spelling) → bytes ≡ spelling_text s → OnOk r (new ≡ old ++ spelled_text (spelled_as (raw_line_of line) s))) →
    OnOk r (IsPut lines k old new)
next_put lines j k before line old new r l m bytes e p q a b t h = if_put r (λ w. (
  spelled_as (raw_line_of line) (shorter j l m),
  next_there (map raw_line_of lines) j k (raw_line_of before) (raw_line_of line) e
      (get_map raw_line_of lines j before p) (get_map raw_line_of lines k line q)
      ∙ ap (λ (c : Claim). Some (spelled_as (raw_line_of line) (shorter j c (raw_claim_of (raw_line_of line)))))
      (claim_same before ∙ sym a)
      ∙ ap (λ (c : Claim). Some (spelled_as (raw_line_of line) (shorter j l c))) (claim_same line ∙ sym b),
  w,
)) (h (shorter j l m) t)

-- all lines were put, and the end
pub whole_put : (log : Log) (k : ℕ) (text new : List ℕ) (e : ℕ) → length log.lines ≤ k →
    text ++ flat_map spelled_text (drop k (spelled_lines (map raw_line_of log.lines)))
    ≡ header_text 2 log.count log.capacity ++ flat_map spelled_text (spelled_lines (map raw_line_of log.lines)) →
    new ≡ text ++ end_text e → e ≡ log.final → new ≡ log_text2 log
whole_put log k text new e h p q z = q ∙ (ap (λ (t : List ℕ). t ++ end_text e) (all_put spelled_text
    (spelled_lines (map raw_line_of log.lines)) k text _ (few k h) p)
    ∙ ap (λ (i : ℕ). header_text 2 log.count log.capacity
    ++ flat_map spelled_text (spelled_lines (map raw_line_of log.lines)) ++ end_text i) z)
  where
    after_length : (n : ℕ) (x : RawLine) (xs : List RawLine) → length (spelled_after n x xs) ≡ length xs
    after_length n x [] = refl
    after_length n x (y ∷ ys) = ap suc (after_length (n + 1) y ys)

    lines_length : (xs : List RawLine) → length (spelled_lines xs) ≡ length xs
    lines_length [] = refl
    lines_length (x ∷ xs) = ap suc (after_length 0 x xs)

    few : (k : ℕ) → length log.lines ≤ k → length (spelled_lines (map raw_line_of log.lines)) ≤ k
    few k h = let a : length (spelled_lines (map raw_line_of log.lines)) ≡ length (map raw_line_of log.lines) =
        lines_length (map raw_line_of log.lines) in
        let b : length (map raw_line_of log.lines) ≤ k = length-map_le raw_line_of log.lines k h in omega arith

-- it says the log
pub says_back : (text : List ℕ) (log : Log) → text ≡ log_text2 log → log.count ≤ 2 ^ 60 → length log.lines ≤ 2 ^ 60 →
    IsKeptLog log.capacity log.lines → log.final ≤ 2 ^ 60 → Says text (raw_log_of log)
says_back text log e n l k f =
    let t = text_is_read_back (log_text log) log refl n k f in
    inr (subst (λ (x : List ℕ). SaysBy 2 x (raw_log_of log)) (sym e)
    (text2_says (raw_log_of log) t.kept t.cited (length-map_le raw_line_of log.lines (2 ^ 60) l)))
