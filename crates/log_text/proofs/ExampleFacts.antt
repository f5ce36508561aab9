-- Worked cases of the definitions.
use Rattle.std.proofs.Common.{◌≡◌, ◌^◌, ℕ, ◌<◌, ◌≤◌, false, None, Some, inl, inr, List, [], ◌∷◌, ◌++◌, codes, refl, ◌∙◌, sym, arith}
use Rattle.std.proofs.lemmas.List.{append-nil}
use Rattle.std.proofs.lemmas.List.Elements.{All-cons, All-nil}
use Rattle.dsa_terms.specs.Claims.{Claim}
use Rattle.dsa_terms.specs.Logs.{Over, Cases, ByLine, Twin, Log}
use Rattle.log_text.specs.Digits.{Ends, is_digit}
use Rattle.log_text.specs.Faults.{GoesOn, HasNoRow, IsFirstFault, IsVersion, Meets}
use Rattle.log_text.specs.Faults as fault
use Rattle.log_text.specs.Numerals.{numeral}
use Rattle.log_text.specs.RawLogs.{IsPairWithin}
use Rattle.log_text.specs.RawTexts.{line_text}
use Rattle.log_text.specs.Reading.{capped, fitting}
use Rattle.log_text.specs.Says.{EndRow, IsFormed, IsRising, IsWithin, LineRow, Row, row_text}
use Rattle.log_text.specs.Spellings.{CasesAs, Full, OverAs, Spelled, spelled_text}
use Rattle.log_text.specs.Text.{log_text}
use Rattle.log_text.specs.declared.fault.TextFault.TheVariants.{NotLog, BadVersion, BadLine, NumberTooLarge, NotRising, NoEnd, AfterEnd}
use Rattle.log_text.specs.declared.raw.RawCite.TheVariants as raw_cite
use Rattle.log_text.specs.declared.raw.RawLine.TheVariants as raw_line
use Rattle.log_text.proofs.Numerals.{numeral_of}
use Rattle.log_text.proofs.PrefixFree.{head_of}
use Rattle.log_text.proofs.FirstFaults.{first_fault_unique}
use Rattle.log_text.proofs.Splits.{cases_form, over_form}
use Rattle.log_text.proofs.Unique.{end_form}

-- ---- numerals
zero_is_one_digit : numeral 0 ≡ codes "0"
unfolding numeral
zero_is_one_digit = refl

zeros_stand_inside : numeral 1020 ≡ codes "1020"
unfolding numeral
zeros_stand_inside = refl

numbers_may_have_21_digits : numeral 100000000000000000000 ≡ codes "100000000000000000000"
numbers_may_have_21_digits = numeral_of (codes "100000000000000000000")
    (record { some = omega arith; digits = refl; no_zero = λ e. absurd (omega arith) })

letters_are_no_digits : is_digit 97 ≡ false
letters_are_no_digits = refl

a_colon_ends_a_claim : Ends (codes " : ")
a_colon_ends_a_claim = (refl, λ e. refl)

the_greatest_of_64_bits_fits : fitting 18446744073709551615 ≡ Some 18446744073709551615
unfolding fitting
the_greatest_of_64_bits_fits = refl

the_next_one_does_not : (fitting 18446744073709551616 ≡ None) × (capped 18446744073709551616 ≡ 18446744073709551615)
unfolding fitting
the_next_one_does_not = (refl, refl)

-- ---- texts
over_line : line_text (raw_line.Over 0 3 1 ((2, 3) ∷ [])) ≡ codes "over 0 3 1 : 2=3\n"
unfolding numeral
over_line = refl

cases_line : line_text (raw_line.Cases ((0, 0) ∷ (1, 0) ∷ (2, 0) ∷ [])
    ((0, raw_cite.Line 2) ∷ (1, raw_cite.Twin 0) ∷ (2, raw_cite.Below 1) ∷ [])) ≡
    codes "case : 0=0 1=0 2=0 : 0>2 1~0 2<1\n"
unfolding numeral
cases_line = refl

-- three buffers, each two of which cannot stand below the third at 4
sample : Log
sample = record {
  count = 3;
  capacity = 4;
  lines = Over ((2, 3) ∷ []) 0 3 1 ∷ Over ((1, 4) ∷ []) 0 4 1 ∷ Cases ((1, 1) ∷ (2, 1) ∷ [])
      (ByLine 0 ∷ ByLine 1 ∷ []) ∷ Over ((0, 2) ∷ (1, 2) ∷ []) 0 2 2
      ∷ Cases ((0, 0) ∷ (1, 0) ∷ (2, 0) ∷ []) (ByLine 2 ∷ Twin 0 ∷ ByLine 3 ∷ []) ∷ [];
  final = 4;
}

sample_text : log_text sample ≡
    codes "dsalog 1 3 4\n" ++ codes "over 0 3 1 : 2=3\n" ++ codes "over 0 4 1 : 1=4\n"
    ++ codes "case : 1=1 2=1 : 1>0 2>1\n"
    ++ codes "over 0 2 2 : 0=2 1=2\n" ++ codes "case : 0=0 1=0 2=0 : 0>2 1~0 2>3\n" ++ codes "end 4\n"
unfolding numeral sample
sample_text = refl

-- ---- first faults
-- a log of three buffers at 4 begins, and then come these bytes
pub begun : (rest : List ℕ) → GoesOn 1 (codes "dsalog 1 3 4\n" ++ rest) [] rest
unfolding numeral
begun rest = record {
  known = inl refl;
  count = 3;
  capacity = 4;
  count_limit = omega arith;
  capacity_limit = omega arith;
  spelled = [];
  good = tt;
  said = refl;
  text = refl;
}

pub begun_in_2 : (rest : List ℕ) → GoesOn 2 (codes "dsalog 2 3 4\n" ++ rest) [] rest
unfolding numeral
begun_in_2 rest = record {
  known = inr refl;
  count = 3;
  capacity = 4;
  count_limit = omega arith;
  capacity_limit = omega arith;
  spelled = [];
  good = tt;
  said = refl;
  text = refl;
}

-- a row comes first
pub met_first : (bytes : List ℕ) (row : Row) (more : List ℕ) → bytes ≡ row_text row ++ more → IsFormed 1 row →
    Meets (codes "dsalog 1 3 4\n" ++ bytes) [] row more
met_first bytes row more e f = record {
  version = 1;
  rest = bytes;
  goes_on = begun bytes;
  has_row = record { formed = f; text = e };
}

pub nothing_more : IsFirstFault (codes "dsalog 1 3 4\n") NoEnd
nothing_more = fault.no_end 1 [] (begun [])

nothing_more_in_2 : IsFirstFault (codes "dsalog 2 3 4\n") NoEnd
nothing_more_in_2 = fault.no_end 2 [] (begun_in_2 [])

pub not_3 : IsVersion 3 → ⊥
not_3 (inl e) = omega arith
not_3 (inr e) = omega arith

version_three : IsFirstFault (codes "dsalog 3 3 4\nend 0\n") (BadVersion 3)
unfolding numeral
version_three = fault.other_version 3 3 4 (codes "end 0\n")
    (record { version_limit = omega arith; count_limit = omega arith; capacity_limit = omega arith; text = refl }) not_3

pub apart : (m n : ℕ) → m < n → n ≡ m → ⊥
apart m n lt e = omega arith

-- it is that fault alone
not_of_another_version : IsFirstFault (codes "dsalog 3 3 4\nend 0\n") (BadVersion 1) → ⊥
not_of_another_version f = let e = first_fault_unique _ _ _ version_three f in apart 1 3 (omega arith) cc

no_bytes_are_no_log : IsFirstFault [] NotLog
no_bytes_are_no_log = fault.no_header (λ version count capacity rest h. none h.text)
  where
    none : {x : ℕ} {xs : List ℕ} → [] ≡ x ∷ xs → ⊥
    none e = cc

abbrev twice : Claim
twice = (2, 3) ∷ (2, 4) ∷ []

twice_within : IsWithin (LineRow (OverAs 0 3 1 (Full twice)))
twice_within = (
  omega arith,
  omega arith,
  omega arith,
  All-cons IsPairWithin (2, 3) ((2, 4) ∷ []) (omega arith, omega arith)
      (All-cons IsPairWithin (2, 4) [] (omega arith, omega arith) (All-nil IsPairWithin)),
)

twice_falls : IsRising (LineRow (OverAs 0 3 1 (Full twice))) → ⊥
twice_falls r = let k : 2 < 2 = r.0 2 (inl refl) in omega arith

twice_the_same_buffer : IsFirstFault (codes "dsalog 1 3 4\nover 0 3 1 : 2=3 2=4\n") (NotRising 0)
unfolding numeral
twice_the_same_buffer = fault.falls [] (LineRow (OverAs 0 3 1 (Full twice))) []
    (met_first (codes "over 0 3 1 : 2=3 2=4\n") _ [] refl (λ e. cc, tt)) twice_within twice_falls

-- a line at that moment
abbrev late : ℕ → Claim → Spelled
late T l = OverAs T 3 1 (Full l)

a_moment_of_63_bits : (T : ℕ) → 2 ^ 62 ≤ T →
    IsFirstFault (codes "dsalog 1 3 4\n" ++ spelled_text (late T ((2, 3) ∷ [])))
    (NumberTooLarge 0)
a_moment_of_63_bits T h = fault.too_large [] (LineRow (late T ((2, 3) ∷ []))) []
    (met_first (spelled_text (late T ((2, 3) ∷ []))) _ [] (sym (append-nil (spelled_text (late T ((2, 3) ∷ [])))))
    (λ e. cc, tt)) (λ w. let k : T < 2 ^ 62 = w.0 in omega arith)

-- numbers come before their order
too_large_and_falling : IsFirstFault (codes "dsalog 1 3 4\n" ++ spelled_text (late 4611686018427387904 twice))
    (NumberTooLarge 0)
too_large_and_falling = fault.too_large [] (LineRow (late 4611686018427387904 twice)) []
    (met_first (spelled_text (late 4611686018427387904 twice)) _ []
    (sym (append-nil (spelled_text (late 4611686018427387904 twice)))) (λ e. cc, tt))
    (λ w. let k : 4611686018427387904 < 2 ^ 62 = w.0 in omega arith)

one_newline_more : IsFirstFault (codes "dsalog 1 3 4\nend 0\n\n") AfterEnd
unfolding numeral
one_newline_more = fault.after_end [] 0 (codes "\n") (met_first (codes "end 0\n\n") (EndRow 0) (codes "\n") refl tt)
    (omega arith) (λ e. cc)

pub differs : (a b : ℕ) (xs ys zs : List ℕ) → b < a → a ∷ xs ≡ zs → zs ≡ b ∷ ys → ⊥
differs a b xs ys zs l e q = let n : a ≡ b = head_of a b xs ys (e ∙ q) in omega arith

-- no row begins with an x
pub no_row : (version : ℕ) → HasNoRow version (codes "x\n")
no_row version (LineRow (OverAs T H G s)) more p e = differs 120 111 _ _ _ (omega arith) e (over_form T H G s more)
no_row version (LineRow (CasesAs s cites)) more p e = differs 120 99 _ _ _ (omega arith) e (cases_form s cites more)
no_row version (EndRow k) more p e = differs 120 101 _ _ _ (omega arith) e (end_form k more)

a_row_there : HasNoRow 1 (codes "end 7\n") → ⊥
unfolding numeral
a_row_there h = h (EndRow 7) [] tt refl

pub a_word_of_no_row : IsFirstFault (codes "dsalog 1 3 4\nx\n") (BadLine 0)
a_word_of_no_row = fault.no_row 1 [] (codes "x\n") (begun _) (λ e. cc) (no_row 1)

not_the_next_line : IsFirstFault (codes "dsalog 1 3 4\nx\n") (BadLine 1) → ⊥
not_the_next_line f = let e = first_fault_unique _ _ _ a_word_of_no_row f in apart 0 1 (omega arith) (sym cc)

not_a_missing_end : IsFirstFault (codes "dsalog 1 3 4\nx\n") NoEnd → ⊥
not_a_missing_end f = let e = first_fault_unique _ _ _ a_word_of_no_row f in cc
