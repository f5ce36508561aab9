-- Texts of small logs, and what is kept of a log.
use Rattle.std.proofs.Common.{◌≡◌, ◌^◌, ℕ, ◌<◌, inl, List, [], ◌∷◌, codes, length, slice_index, refl, sym, ap, lit<, lit≤, arith}
use Rattle.std.proofs.lemmas.List.Elements.{All-cons, All-nil}
use Rattle.dsa_terms.specs.Claims.{Claim}
use Rattle.log_text.specs.RawTexts.{HasCite, IsTextOf}
use Rattle.log_text.specs.Numerals.{numeral}
use Rattle.log_text.specs.RawLogs.{IsRawCiteWithin, IsRawLineKept, IsPairWithin, IsRawKept, IsRawLineWithin, number_of_cite}
use Rattle.log_text.specs.declared.raw.RawCite.TheVariants as raw_cite
use Rattle.log_text.specs.declared.raw.RawLine.{RawLine}
use Rattle.log_text.specs.declared.raw.RawLine.TheVariants as raw_line
use Rattle.log_text.specs.declared.raw.RawLog.{RawLog}

-- ---- lines that are kept
abbrev pub line : RawLine
line = raw_line.Over 0 3 1 ((2, 3) ∷ [])

pub line_within : IsRawLineWithin line
line_within = (
  lit< tt,
  lit≤ tt,
  lit≤ tt,
  All-cons IsPairWithin (2, 3) [] (lit≤ tt, lit≤ tt) (All-nil IsPairWithin),
)

pub line_kept : IsRawLineKept line
line_kept = record { not_empty = λ e. cc; rising = ((λ y i. absurd i), tt); within = line_within }

not_without_claim : IsRawLineKept (raw_line.Over 0 3 1 []) → ⊥
not_without_claim k = k.not_empty refl

-- a claim with one buffer twice
abbrev pub twice : Claim
twice = (2, 3) ∷ (2, 4) ∷ []

not_twice : IsRawLineKept (raw_line.Over 0 3 1 twice) → ⊥
not_twice k = let r : 2 < 2 = k.rising.0 2 (inl refl) in omega arith

not_too_late : IsRawLineKept (raw_line.Over 4611686018427387904 3 1 ((2, 3) ∷ [])) → ⊥
not_too_late k = let w : 4611686018427387904 < 2 ^ 62 = k.within.0 in omega arith

-- the numbers of a buffer and of its cite
greatest_cite : IsRawCiteWithin (1152921504606846976, raw_cite.Line 1152921504606846976)
greatest_cite = (lit≤ tt, lit≤ tt)

cite_past_the_limit : IsRawCiteWithin (1, raw_cite.Twin 1152921504606846977) → ⊥
cite_past_the_limit w = let k = w.1 in omega arith

below_names : number_of_cite (raw_cite.Below 5) ≡ 5
below_names = refl

-- ---- logs that are kept, and their texts
abbrev pub log_with : ℕ → RawLine → RawLog
log_with capacity line = record { count = 3; capacity = capacity; lines = line ∷ []; end = 0 }

log_kept : IsRawKept (log_with 4 line)
log_kept = record {
  count_limit = lit≤ tt;
  capacity_limit = lit≤ tt;
  end_limit = lit≤ tt;
  lines = All-cons IsRawLineKept line [] line_kept (All-nil IsRawLineKept);
}

not_above_the_limit : IsRawKept (log_with 1152921504606846977 line) → ⊥
not_above_the_limit k = let w = k.capacity_limit in omega arith

not_with_an_empty_claim : IsRawKept (log_with 4 (raw_line.Over 0 3 1 [])) → ⊥
not_with_an_empty_claim k = not_without_claim (k.lines 0 line (omega arith))

pub its_text : IsTextOf (codes "dsalog 1 3 4\nover 0 3 1 : 2=3\nend 0\n") (log_with 4 line)
unfolding numeral
its_text = record { kept = log_kept; cited = All-cons HasCite line [] tt (All-nil HasCite); text = refl }

apart : (m n : ℕ) → n < m → m ≡ n → ⊥
apart m n lt e = omega arith

pub not_of_another_capacity : IsTextOf (codes "dsalog 1 3 4\nover 0 3 1 : 2=3\nend 0\n") (log_with 5 line) → ⊥
unfolding numeral
not_of_another_capacity t = apart 53 52 (lit< tt) (sym (ap (λ (bytes : List ℕ). slice_index bytes 11) t.text))

not_with_a_newline_more : IsTextOf (codes "dsalog 1 3 4\nover 0 3 1 : 2=3\nend 0\n\n") (log_with 4 line) → ⊥
unfolding numeral
not_with_a_newline_more t = apart 37 36 (lit< tt) (ap length t.text)

-- a Cases line without a cite has no text
not_without_cites : IsTextOf (codes "dsalog 1 3 4\ncase : 2=3 : \nend 0\n")
    (log_with 4 (raw_line.Cases ((2, 3) ∷ []) [])) → ⊥
not_without_cites t = let c = t.cited 0 line (omega arith) in c refl
