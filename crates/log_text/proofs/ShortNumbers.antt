-- Numbers that are read as ones of 64 bits, most of them of few digits.
use Rattle.std.proofs.Common.{◌≡◌, ◌^◌, ◌-◌, ◌+◌, ◌*◌, ◌≤◌, ℕ, zero, suc, ◌<◌, true, Option, false, ◌⊎◌, inl, inr, get_or, List, [], ◌∷◌, length, take, drop, refl, sym, ap, ◌∙◌, arith, length-take-le}
use Rattle.std.proofs.lemmas.Bool.Decides.{nat_tests}
use Rattle.std.proofs.Math.Nat.{pow-le-pow_right}
use Rattle.std.proofs.lemmas.Int.Digits.{length-digits_of-le}
use Rattle.std.proofs.lemmas.List.{get_or-take, length-map}
use Rattle.std.proofs.lemmas.List.Folds.{list_all_more}
use Rattle.std.specs.Int.Digits.{digits_of}
use Rattle.std.specs.List.{list_all}
use Rattle.std.specs.Option.{unwrap_or}
use Rattle.std.specs.Str.Parse.{digits_value}
use Rattle.dsa_terms.proofs.NumberTests.{below_or_from}
use Rattle.dsa_terms.proofs.Moments.{and_true}
use Rattle.log_text.specs.Digits.{IsShortNumber, is_digit, Stops}
use Rattle.log_text.specs.Numerals.{numeral}
use Rattle.log_text.specs.Reading.{IsItemRead, IsNumberRead, capped}
use Rattle.log_text.proofs.Numerals.{numeral_of, of_more, of_zero}
use Rattle.log_text.proofs.ReadLemmas.{digit_step, parts, unwrap-fitting}

-- ---- the digits so far
-- a number of at most 18 digits
pub few_digits : (k v : ℕ) → k < 19 → v < 10 ^ k → v < 10 ^ 18
few_digits k v h l = let t = pow-le-pow_right {n = 10} (omega arith) {i = k} {j = 18} (omega arith) in omega arith

digit_small : (c : ℕ) → is_digit c ≡ true → c - 48 < 10
digit_small c d = grind (arith, nat_tests)

-- one more digit behind a number
pub less_than_next : (k v c : ℕ) → v < 10 ^ k → is_digit c ≡ true → v * 10 + (c - 48) < 10 ^ (k + 1)
less_than_next k v c l d = let g = digit_small c d in let t = ten_more k in omega arith
  where
    ten_more : (k : ℕ) → 10 ^ (k + 1) ≡ 10 ^ k * 10
    ten_more k =
        let s : k + 1 ≡ suc k = omega arith in
        let t : 10 ^ suc k ≡ 10 ^ k * 10 = omega arith in
        ap (λ j. 10 ^ j) s ∙ t

-- it fits 64 bits
pub next_fits : (k v c : ℕ) → k < 19 → v < 10 ^ k → is_digit c ≡ true → v * 10 + (c - 48) < 2 ^ 64
next_fits k v c h l d = let g = digit_small c d in let f = few_digits k v h l in omega arith

-- the digits so far, with the next one
pub next_short : (ds : List ℕ) (k v : ℕ) → list_all is_digit (take k ds) ≡ true → k < length ds →
    is_digit (get_or ds k 0) ≡ true → v ≡ digits_value 10 (take k ds) → v < 10 ^ k →
    (list_all is_digit (take (k + 1) ds) ≡ true)
    × ((v * 10 + (get_or ds k 0 - 48) ≡ digits_value 10 (take (k + 1) ds))
    × (v * 10 + (get_or ds k 0 - 48) < 10 ^ (k + 1)))
next_short ds k v a h d e l = (
  list_all_more is_digit ds k 0 h ∙ rw (a, d) refl,
  (rw e (sym (digit_step ds k h d)), less_than_next k v (get_or ds k 0) l d),
)

-- ---- where the digits end
pub short_ends : (ds : List ℕ) (k v : ℕ) → list_all is_digit (take k ds) ≡ true → k < length ds →
    (is_digit (get_or ds k 0) ≡ false) → v ≡ digits_value 10 (take k ds) → v < 10 ^ k → k < 19 → 0 < k →
    (get_or ds 0 0 ≡ 48 → k ≡ 1) → IsShortNumber ds k v
short_ends ds k v a h d e l s z f = record {
  within = omega arith;
  canonical = record {
    some = let p = length-take-le k ds (omega arith) in omega arith;
    digits = a;
    no_zero = λ q. length-take-le k ds (omega arith) ∙ f (sym (get_or-take k ds 0 0 z) ∙ q);
  };
  stops = stops_at ds k h d;
  value_is = e;
  small = few_digits k v s l;
}
  where
    stops_at : (ds : List ℕ) (k : ℕ) → k < length ds → is_digit (get_or ds k 0) ≡ false → Stops (drop k ds)
    stops_at [] k h d = absurd (omega arith)
    stops_at (x ∷ xs) zero h d = d
    stops_at (x ∷ xs) (suc k) h d = stops_at xs k (omega arith) d

-- one digit, and two
pub one_digit : (ds : List ℕ) → 1 < length ds → is_digit (get_or ds 0 0) ≡ true → is_digit (get_or ds 1 0) ≡ false →
    IsShortNumber ds 1 (get_or ds 0 0 - 48)
one_digit ds n d e =
    let t = next_short ds 0 0 refl (omega arith) d refl (omega arith) in
    short_ends ds 1 (get_or ds 0 0 - 48) t.0 n e (value t.1.0) (digit_small (get_or ds 0 0) d) (omega arith)
    (omega arith)
    (λ _. refl)
  where
    value : {x v : ℕ} → 0 * 10 + x ≡ v → x ≡ v
    value q = omega arith

pub two_digits : (ds : List ℕ) → 2 < length ds → is_digit (get_or ds 0 0) ≡ true → is_digit (get_or ds 1 0) ≡ true →
    is_digit (get_or ds 2 0) ≡ false → (get_or ds 0 0 ≡ 48 → ⊥) →
    IsShortNumber ds 2 ((get_or ds 0 0 - 48) * 10 + (get_or ds 1 0 - 48))
two_digits ds n d e f z =
    let one = next_short ds 0 0 refl (omega arith) d refl (omega arith) in
    let two = next_short ds 1 (0 * 10 + (get_or ds 0 0 - 48)) one.0 (omega arith) e one.1.0 one.1.1 in
    short_ends ds 2 ((get_or ds 0 0 - 48) * 10 + (get_or ds 1 0 - 48)) two.0 n f
    (value (get_or ds 0 0 - 48) (get_or ds 1 0 - 48) _ two.1.0)
    (bound (get_or ds 0 0 - 48) (get_or ds 1 0 - 48) _ two.1.1)
    (omega arith) (omega arith) (λ q. absurd (z q))
  where
    value : (a x v : ℕ) → (0 * 10 + a) * 10 + x ≡ v → a * 10 + x ≡ v
    value a x v q = omega arith

    bound : (a x v : ℕ) → (0 * 10 + a) * 10 + x < v → a * 10 + x < v
    bound a x v q = omega arith

-- ---- where no short number is found
-- a number does not end before a digit
stops_before : (ds : List ℕ) (k count : ℕ) → list_all is_digit (take k ds) ≡ true → count < k → count < length ds →
    Stops (drop count ds) → ⊥
stops_before [] k count a h l s = absurd (omega arith)
stops_before (x ∷ xs) zero count a h l s = absurd (omega arith)
stops_before (x ∷ xs) (suc k) zero a h l s =
    let d = (and_true (is_digit x) (list_all is_digit (take k xs)) a).0 in absurd cc
stops_before (x ∷ xs) (suc k) (suc count) a h l s =
    stops_before xs k count (and_true (is_digit x) _ a).1 (omega arith) (omega arith) s

-- a short number has at most 18 digits
short_count : (ds : List ℕ) (count value : ℕ) → IsShortNumber ds count value → count < 19
short_count ds count value p =
    let t : numeral value ≡ take count ds = ap numeral p.value_is ∙ numeral_of (take count ds) p.canonical in
    let n : length (numeral value) ≡ count = ap length t ∙ length-take-le count ds p.within in
    let m = length_numeral value p.small in
    omega arith
  where
    length_numeral : (n : ℕ) → n < 10 ^ 18 → length (numeral n) ≤ 18
    length_numeral zero h = rw of_zero (omega arith)
    length_numeral (suc n) h =
        let e = ap length (of_more (suc n) (omega arith)) ∙ length-map (digits_of 10 (suc n)) (λ d. 48 + d) in
        let m = length-digits_of-le 10 18 (suc n) (omega arith) h in
        omega arith

-- where all of the bytes are digits, or the first 19, only a short number that is all of the bytes stands there
pub short_is_all : (ds : List ℕ) (k count value : ℕ) → list_all is_digit (take k ds) ≡ true →
    (k < 19 → length ds ≤ k) → IsShortNumber ds count value → count ≡ length ds
short_is_all ds k count value a h p = elim (below_or_is count (length ds) p.within) [
  | inl l ↦ let n = short_count ds count value p in
      elim (below_or_from k 19) [
        | inl few ↦ let m = h few in absurd (stops_before ds k count a (omega arith) l p.stops)
        | inr many ↦ absurd (stops_before ds k count a (omega arith) l p.stops)
      ]
  | inr e ↦ e
]
  where
    below_or_is : (m n : ℕ) → m ≤ n → (m < n) ⊎ (m ≡ n)
    below_or_is m n h = grind arith

-- ---- numbers as ones of 64 bits

pub capped_read : (old new : List ℕ) (v : Option ℕ) (n : ℕ) → IsNumberRead old v new →
    n ≡ unwrap_or v (2 ^ 64 - 1) → IsItemRead numeral capped old n new
capped_read old new v n p e = record {
  item = p.number;
  text = p.text;
  stops = p.stops;
  value_is = e ∙ (ap (λ u. unwrap_or u (2 ^ 64 - 1)) p.value_is ∙ unwrap-fitting p.number);
}

pub short_read : (old rest new : List ℕ) (count value : ℕ) → rest ≡ old → IsShortNumber rest count value →
    new ≡ drop count rest → IsItemRead numeral capped old value new
short_read old rest new count value e p q = record {
  item = value;
  text = sym e ∙ parts rest _ new count (ap numeral p.value_is ∙ numeral_of (take count rest) p.canonical) q;
  stops = rw q p.stops;
  value_is = let h = p.small in omega arith;
}
