-- Worked parts of a text: what is read from them, and where nothing of the kind stands.
use Rattle.std.proofs.Common.{◌≡◌, Some, [], ◌∷◌, ◌++◌, codes, refl, sym, ap, lit≤, arith}
use Rattle.std.specs.Str.Parse.{digits_value}
use Rattle.log_text.specs.Digits.{HasNoShortNumber, IsCanonical, IsShortNumber, Stops}
use Rattle.log_text.specs.Numerals.{numeral}
use Rattle.log_text.specs.RawTexts.{pair_text}
use Rattle.log_text.specs.Reading.{BeginsDigit, HasNoField, HasNoItem, HasNoList, HasNoMarked, HasNoNumber, HasNoStart, IsBreak, IsFieldRead, IsItemRead, IsListEnd, IsListRead, IsMarkedRead, IsNumberRead, IsStartRead, capped, capped_cite, capped_pair, fitting, over_start}
use Rattle.log_text.specs.declared.raw.RawCite.TheVariants as raw_cite
use Rattle.log_text.proofs.ListLemmas.{no_first}
use Rattle.log_text.proofs.Numerals.{numeral_of}
use Rattle.log_text.proofs.ReadLemmas.{field_no_number, marked_no_number, no_number, pair_no_marked}
use Rattle.log_text.proofs.Splits.{colon_ends_spelling}
use Rattle.log_text.proofs.ShortNumbers.{short_is_all}

-- ---- digits
stops_at_a_space : Stops (codes " 3")
stops_at_a_space = refl

goes_on : Stops (codes "3 ") → ⊥
goes_on s = absurd cc

zero_is_canonical : IsCanonical (codes "0")
zero_is_canonical = record { some = omega arith; digits = refl; no_zero = λ e. refl }

not_with_a_zero : IsCanonical (codes "012") → ⊥
not_with_a_zero c = let k = c.no_zero refl in omega arith

two_digits : IsShortNumber (codes "12 3") 2 12
two_digits = record {
  within = omega arith;
  canonical = record { some = omega arith; digits = refl; no_zero = λ e. omega arith };
  stops = refl;
  value_is = refl;
  small = omega arith;
}

not_one_of_two : IsShortNumber (codes "12 3") 1 1 → ⊥
not_one_of_two s = let t = s.stops in absurd cc

not_short_with_a_zero : IsShortNumber (codes "012=3 : ") 3 12 → ⊥
not_short_with_a_zero s = not_with_a_zero s.canonical

not_short_of_19_digits : IsShortNumber (codes "1000000000000000000 ") 19 1000000000000000000 → ⊥
not_short_of_19_digits s = let h = s.small in omega arith

one_that_is_all : HasNoShortNumber (codes "12")
one_that_is_all count value s = short_is_all (codes "12") 2 count value refl (λ few. lit≤ tt) s

one_before_a_space : HasNoShortNumber (codes "12 3") → ⊥
one_before_a_space h = let k = h 2 12 two_digits in omega arith

a_space_breaks : IsBreak (codes " ")
a_space_breaks = refl

nothing_breaks_not : IsBreak [] → ⊥
nothing_breaks_not b = b

begins_with_3 : BeginsDigit (codes "3=")
begins_with_3 = refl

begins_with_a_space : BeginsDigit (codes " 3") → ⊥
begins_with_a_space b = absurd cc

-- ---- numbers of 64 bits
both_capped : capped_pair (18446744073709551616, 3) ≡ (18446744073709551615, 3)
both_capped = refl

cite_capped : capped_cite (1, raw_cite.Below 18446744073709551616) ≡ (1, raw_cite.Below 18446744073709551615)
cite_capped = refl

-- ---- numbers
twelve_read : IsNumberRead (codes "12 3") (Some 12) (codes " 3")
unfolding numeral fitting
twelve_read = record { number = 12; text = refl; stops = refl; value_is = refl }

not_one_digit : IsNumberRead (codes "12 3") (Some 1) (codes "2 3") → ⊥
not_one_digit r = let s = r.stops in absurd cc

greatest_read : IsItemRead numeral capped (codes "18446744073709551616 3") 18446744073709551615 (codes " 3")
greatest_read = record {
  item = digits_value 10 (codes "18446744073709551616");
  text = ap (λ u. u ++ codes " 3") (sym (numeral_of (codes "18446744073709551616") too_large));
  stops = refl;
  value_is = refl;
}
  where
    too_large : IsCanonical (codes "18446744073709551616")
    too_large = record { some = omega arith; digits = refl; no_zero = λ e. omega arith }

not_the_first_digit : IsItemRead numeral capped (codes "12 3") 1 (codes "2 3") → ⊥
not_the_first_digit r = let s = r.stops in absurd cc

no_number_there : HasNoNumber (codes "012=3 : ")
no_number_there = no_number _ (codes "012") (codes "=3 : ") refl refl refl not_with_a_zero

number_there : HasNoNumber (codes "12 3") → ⊥
unfolding numeral
number_there h = h 12 (codes " 3") refl refl

-- ---- numbers with bytes after them
field_read : IsFieldRead (codes " ") (codes "12 3") (Some 12) (codes "3")
unfolding numeral fitting
field_read = record { number = 12; text = refl; value_is = refl }

no_field_there : HasNoField (codes "=") (codes "012=3 : ")
no_field_there = field_no_number (codes "=") _ refl no_number_there

field_there : HasNoField (codes " ") (codes "12 3") → ⊥
unfolding numeral
field_there h = h 12 (codes "3") refl

-- ---- pairs
marked_read : IsMarkedRead (codes "12=3 ") 12 61 3 (codes " ")
unfolding numeral
marked_read = record {
  before = 12;
  after = 3;
  text = refl;
  no_digit = refl;
  stops = refl;
  first_is = refl;
  second_is = refl;
}

no_marked_there : HasNoMarked (codes "012=3 : ")
no_marked_there = marked_no_number _ no_number_there

marked_there : HasNoMarked (codes "12=3 ") → ⊥
unfolding numeral
marked_there h = h 12 3 61 (codes " ") refl refl refl

pair_read : IsItemRead pair_text capped_pair (codes "12=3 ") (12, 3) (codes " ")
unfolding numeral
pair_read = record { item = (12, 3); text = refl; stops = refl; value_is = refl }

no_pair_there : HasNoItem pair_text (codes "012=3 : ")
no_pair_there = pair_no_marked _ no_marked_there

pair_there : HasNoItem pair_text (codes "12=3 ") → ⊥
unfolding numeral
pair_there h = h (12, 3) (codes " ") refl refl

-- ---- lists
colon_is_end : IsListEnd (codes " : ")
colon_is_end = λ r. (colon_ends_spelling r).ends

space_is_no_end : IsListEnd (codes " ") → ⊥
space_is_no_end h = let k = (h (codes "3")).1 refl in absurd cc

pairs_read : IsListRead pair_text capped_pair (codes " : ") (codes "1=2 2=3 : x") ((1, 2) ∷ (2, 3) ∷ []) (codes "x")
unfolding numeral
pairs_read = record { items = (1, 2) ∷ (2, 3) ∷ []; some = λ e. cc; text = refl; values_are = refl }

no_pairs_there : HasNoList pair_text (codes " : ") (codes "012=3 : ")
no_pairs_there = no_first pair_text (codes " : ") _ colon_is_end no_pair_there

pairs_there : HasNoList pair_text (codes " : ") (codes "1=2 2=3 : x") → ⊥
unfolding numeral
pairs_there h = h ((1, 2) ∷ (2, 3) ∷ []) (codes "x") (λ e. cc) refl

-- ---- the numbers of an Over line
start_text : over_start 0 3 1 (codes "2=3\n") ≡ codes "0 3 1 : 2=3\n"
unfolding numeral
start_text = refl

start_read : IsStartRead (codes "0 3 1 : 2=3\n") 0 3 1 (codes "2=3\n")
unfolding numeral
start_read = record { T = 0; H = 3; G = 1; text = refl; moment_is = refl; height_is = refl; modulus_is = refl }

no_start_there : HasNoStart (codes "012=3 : ")
no_start_there T H G r e = field_no_number (codes " ") (codes "012=3 : ") refl no_number_there T _ e

start_there : HasNoStart (codes "0 3 1 : 2=3\n") → ⊥
unfolding numeral
start_there h = h 0 3 1 (codes "2=3\n") refl
