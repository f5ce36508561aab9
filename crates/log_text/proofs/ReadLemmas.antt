-- Numbers that are read: how they fit 64 bits, and that what is read is the one that stands there.
use Rattle.std.proofs.Common.{◌≡◌, ◌^◌, ◌-◌, ◌+◌, ◌*◌, ℕ, zero, suc, ◌<◌, ◌≤◌, true, false, Bool, cond, nat_lt, Option, Some, None, IfNone, ◌⊎◌, inl, inr, List, [], ◌∷◌, ◌++◌, length, take, drop, get_or, refl, sym, ap, ◌∙◌, arith, append_assoc}
use Rattle.std.proofs.lemmas.Bool.Decides.{nat_tests}
use Rattle.std.proofs.lemmas.Int.Digits.{digits_value_more}
use Rattle.std.proofs.lemmas.List.Folds.{list_all_more}
use Rattle.std.specs.Char.{digit_value}
use Rattle.std.specs.List.{list_all}
use Rattle.std.specs.Option.{SomeIff, unwrap_or}
use Rattle.std.specs.Str.Parse.{digits_value}
use Rattle.dsa_terms.specs.Claims.{Entry}
use Rattle.dsa_terms.proofs.NumberTests.{below_or_from, is_below, not_below}
use Rattle.log_text.specs.Digits.{IsCanonical, is_digit, Stops}
use Rattle.log_text.specs.Numerals.{numeral}
use Rattle.log_text.specs.RawTexts.{cite_text, pair_text}
use Rattle.log_text.specs.Reading.{HasNoField, HasNoItem, HasNoMarked, HasNoNumber, IsBreak, IsItemRead, IsMarkedRead, IsNumberRead, capped, capped_cite, capped_pair, fitting}
use Rattle.log_text.specs.declared.raw.RawCite.{RawCite}
use Rattle.log_text.specs.declared.raw.RawCite.TheVariants as raw_cite
use Rattle.log_text.proofs.Numerals.{char_of_value, numeral_is_canonical, numeral_of}
use Rattle.log_text.proofs.PrefixFree.{digits_split, head_of, number_split, tail_of}

pub fitting_small : (n : ℕ) → n < 2 ^ 64 → fitting n ≡ Some n
unfolding fitting
fitting_small n h = then_case (nat_lt n (2 ^ 64)) n (is_below n (2 ^ 64) h)
  where
    then_case : (b : Bool) (n : ℕ) → b ≡ true → cond b (Some n) None ≡ Some n
    then_case true n e = refl
    then_case false n e = absurd cc

pub fitting_large : (n : ℕ) → 2 ^ 64 ≤ n → fitting n ≡ None
unfolding fitting
fitting_large n h = else_case (nat_lt n (2 ^ 64)) n (not_below n (2 ^ 64) h)
  where
    else_case : (b : Bool) (n : ℕ) → b ≡ false → cond b (Some n) None ≡ None
    else_case true n e = absurd cc
    else_case false n e = refl

pub unwrap-fitting : (n : ℕ) → unwrap_or (fitting n) (2 ^ 64 - 1) ≡ capped n
unwrap-fitting n = elim (below_or_from n (2 ^ 64)) [
  | inl h ↦ rw (fitting_small n h) (omega arith)
  | inr h ↦
      rw (fitting_large n h) (omega arith)
]

pub fitting_some : (n v : ℕ) → Some v ≡ fitting n → (v ≡ n) × (v < 2 ^ 64)
fitting_some n v e = elim (below_or_from n (2 ^ 64)) [
  | inl h ↦ low n v e h
  | inr h ↦ absurd
      (let q : Some v ≡ None = e ∙ fitting_large n h in cc)
]
  where
    low : (n v : ℕ) → Some v ≡ fitting n → n < 2 ^ 64 → (v ≡ n) × (v < 2 ^ 64)
    low n v e h = let q : Some v ≡ Some n = e ∙ fitting_small n h in let p : v ≡ n = cc in (p, rw p h)

pub fitting_none : (n : ℕ) → None ≡ fitting n → n < 2 ^ 64 → ⊥
fitting_none n e h = let q : None ≡ Some n = e ∙ fitting_small n h in cc

pub if_none : {X : Type 0} {P : Type 0} (r : Option X) → P → IfNone r P
if_none None h = h
if_none (Some x) h = tt

take_drop : (xs : List ℕ) (n : ℕ) → take n xs ++ drop n xs ≡ xs
take_drop [] zero = refl
take_drop [] (suc n) = refl
take_drop (x ∷ xs) zero = refl
take_drop (x ∷ xs) (suc n) = ap (λ ys. x ∷ ys) (take_drop xs n)

-- ---- digits
digit_is : (c : ℕ) → is_digit c ≡ true → digit_value c ≡ c - 48
digit_is c h = let k : 48 + digit_value c ≡ c = char_of_value c (below (digit_value c) h) in omega arith
  where
    below : (n : ℕ) → nat_lt n 10 ≡ true → n < 10
    below n h = grind (arith, nat_tests)

-- one more digit
pub digit_step : (ds : List ℕ) (k : ℕ) → k < length ds → is_digit (get_or ds k 0) ≡ true →
    digits_value 10 (take (k + 1) ds) ≡ digits_value 10 (take k ds) * 10 + (get_or ds k 0 - 48)
digit_step ds k h d = digits_value_more 10 ds k h ∙ ap (λ n. digits_value 10 (take k ds) * 10 + n)
    (digit_is (get_or ds k 0) d)

low_or_high : (n : ℕ) → (n < 2 ^ 64) ⊎ (2 ^ 64 ≤ n)
low_or_high n = grind arith

-- a digit more behind a number that is too large
pub more_too_large : (n d : ℕ) → None ≡ fitting n → None ≡ fitting (n * 10 + d)
more_too_large n d e = elim (low_or_high n)
    [ inl h ↦ absurd (fitting_none n e h) | inr h ↦ sym (fitting_large (n * 10 + d) (omega arith)) ]

-- a digit more, where the number tenfold is too large
pub tens_too_large : (n v d : ℕ) → Some v ≡ fitting n → (v * 10 < 2 ^ 64 → ⊥) → None ≡ fitting (n * 10 + d)
tens_too_large n v d e h = elim (low_or_high (v * 10)) [
  | inl l ↦ absurd (h l)
  | inr l ↦ let q : v ≡ n = (fitting_some n v e).0 in sym (fitting_large (n * 10 + d) (omega arith))
]

-- a digit more
pub with_more : (n v t d : ℕ) (r : Option ℕ) → Some v ≡ fitting n → t ≡ v * 10 → SomeIff r (t + d < 2 ^ 64) (t + d) →
    r ≡ fitting (n * 10 + d)
with_more n v t d (Some x) e q h =
    let p : v ≡ n = (fitting_some n v e).0 in
    let w : x ≡ n * 10 + d = omega arith in
    ap Some w ∙ sym (fitting_small (n * 10 + d) (omega arith))
with_more n v t d None e q h = elim (low_or_high (n * 10 + d)) [
  | inl l ↦ let p : v ≡ n = (fitting_some n v e).0 in absurd (h (omega arith))
  | inr l ↦ sym (fitting_large (n * 10 + d) l)
]

-- the digits so far, with the next one
pub next_digit : (ds : List ℕ) (k : ℕ) (v : Option ℕ) → list_all is_digit (take k ds) ≡ true → k < length ds →
    is_digit (get_or ds k 0) ≡ true → v ≡ fitting (digits_value 10 (take k ds) * 10 + (get_or ds k 0 - 48)) →
    (list_all is_digit (take (k + 1) ds) ≡ true) × (v ≡ fitting (digits_value 10 (take (k + 1) ds)))
next_digit ds k v a h d e = (
  list_all_more is_digit ds k 0 h ∙ rw (a, d) refl,
  e ∙ ap fitting (sym (digit_step ds k h d)),
)

pub parts : (xs ds more : List ℕ) (n : ℕ) → ds ≡ take n xs → more ≡ drop n xs → xs ≡ ds ++ more
parts xs ds more n e q = sym (rw (e, q) (take_drop xs n))

pub number_read : (old ds more : List ℕ) (v : Option ℕ) → old ≡ ds ++ more → IsCanonical ds → Stops more →
    v ≡ fitting (digits_value 10 ds) → IsNumberRead old v more
number_read old ds more v e h s q = record {
  number = digits_value 10 ds;
  text = e
      ∙ ap (λ u. u ++ more) (sym (numeral_of ds h));
  stops = s;
  value_is = q;
}

-- where the digits are not canonical no number stands
pub no_number : (old ds more : List ℕ) → old ≡ ds ++ more → list_all is_digit ds ≡ true → Stops more →
    (IsCanonical ds → ⊥) → HasNoNumber old
no_number old ds more q a s h = λ n r t e.
    let p : ds ≡ numeral n = (digits_split ds (numeral n) more r a (numeral_is_canonical n).digits s t (sym q ∙ e)).0 in
    h (rw p (numeral_is_canonical n))

-- ---- numbers, marks and fields
pub break_stops : (end r : List ℕ) → IsBreak end → Stops (end ++ r)
break_stops [] r h = absurd h
break_stops (c ∷ cs) r h = h

pub field_no_number : (end old : List ℕ) → IsBreak end → HasNoNumber old → HasNoField end old
field_no_number end old b h = λ n r e. h n (end ++ r) (break_stops end r b) e

pub field_no_end : (end old mid : List ℕ) (v : Option ℕ) → IsBreak end → IsNumberRead old v mid →
    ((r : List ℕ) → mid ≡ end ++ r → ⊥) → HasNoField end old
field_no_end end old mid v b p h = λ n r e. h r (number_split p.number n mid (end ++ r) p.stops (break_stops end r b)
    (sym p.text ∙ e)).1

pub marked_no_number : (old : List ℕ) → HasNoNumber old → HasNoMarked old
marked_no_number old h = λ a b x r d s e. h a (x ∷ (numeral b ++ r)) d e

pub marked_no_mark : (old mid : List ℕ) (n : ℕ) → IsItemRead numeral capped old n mid → mid ≡ [] → HasNoMarked old
marked_no_mark old mid n p q = λ a b x r d s e. let t = (number_split p.item a mid (x ∷ (numeral b ++ r)) p.stops d
    (sym p.text ∙ e)).1 in let u : [] ≡ x ∷ (numeral b ++ r) = sym q ∙ t in cc

pub marked_no_second : (old mid rest : List ℕ) (n m : ℕ) → IsItemRead numeral capped old n mid → mid ≡ m ∷ rest →
    HasNoNumber rest → HasNoMarked old
marked_no_second old mid rest n m p q h = λ a b x r d s e.
    let t = (number_split p.item a mid (x ∷ (numeral b ++ r)) p.stops d (sym p.text ∙ e)).1 in
    h b r s (tail_of m x rest (numeral b ++ r) (sym q ∙ t))

pub marked_read : (old mid rest new : List ℕ) (first m second : ℕ) →
    IsItemRead numeral capped old first mid → mid ≡ m ∷ rest →
    IsItemRead numeral capped rest second new → IsMarkedRead old first m second new
marked_read old mid rest new first m second p q s = record {
  before = p.item;
  after = s.item;
  text = p.text ∙ ap (λ u. numeral p.item ++ u) (q ∙ ap (λ u. m ∷ u) s.text);
  no_digit = mark_of mid m rest q p.stops;
  stops = s.stops;
  first_is = p.value_is;
  second_is = s.value_is;
}
  where
    mark_of : (mid : List ℕ) (m : ℕ) (rest : List ℕ) → mid ≡ m ∷ rest → Stops mid → is_digit m ≡ false
    mark_of [] m rest e s = absurd cc
    mark_of (c ∷ cs) m rest e s = ap is_digit (sym (head_of c m cs rest e)) ∙ s

-- ---- pairs and cites
marked_text : (a m b : ℕ) (r : List ℕ) → numeral a ++ (m ∷ (numeral b ++ r)) ≡ (numeral a ++ (m ∷ numeral b)) ++ r
marked_text a m b r = sym (append_assoc (numeral a) (m ∷ numeral b) r)

-- the mark that stands there
mark_there : (old new : List ℕ) (f m s : ℕ) → IsMarkedRead old f m s new → (a x b : ℕ) (r : List ℕ) →
    is_digit x ≡ false → old ≡ (numeral a ++ (x ∷ numeral b)) ++ r → m ≡ x
mark_there old new f m s p a x b r d e =
    let t = (number_split p.before a (m ∷ (numeral p.after ++ new)) (x ∷ (numeral b ++ r)) p.no_digit d
    (sym p.text ∙ (e ∙ sym (marked_text a x b r)))).1 in
    head_of m x (numeral p.after ++ new) (numeral b ++ r) t

pub pair_read : (old new : List ℕ) (f m s : ℕ) → IsMarkedRead old f m s new → m ≡ 61 →
    IsItemRead pair_text capped_pair old (f, s) new
pair_read old new f m s p q = record {
  item = (p.before, p.after);
  text = p.text ∙ (ap (λ u. numeral p.before ++ (u ∷ (numeral p.after ++ new))) q
      ∙ marked_text p.before 61 p.after new);
  stops = p.stops;
  value_is = same_pair p.first_is p.second_is;
}
  where
    same_pair : {a b c d : ℕ} → a ≡ c → b ≡ d → ◌≡◌ {A = Entry} (a, b) (c, d)
    same_pair {a} {b} {c} {d} h k = ap (λ (x : ℕ). let e : Entry = (x, b) in e) h
        ∙ ap (λ (y : ℕ). let e : Entry = (c, y) in e) k

pub pair_no_marked : (old : List ℕ) → HasNoMarked old → HasNoItem pair_text old
pair_no_marked old h = λ x r s e. h x.0 x.1 61 r refl s (e ∙ sym (marked_text x.0 61 x.1 r))

pub pair_none : (old new : List ℕ) (f m s : ℕ) → IsMarkedRead old f m s new → (m ≡ 61 → ⊥) → HasNoItem pair_text old
pair_none old new f m s p h = λ x r st e. h (mark_there old new f m s p x.0 61 x.1 r refl e)

cite_of_mark : (old new : List ℕ) (f m s x : ℕ) → IsMarkedRead old f m s new → m ≡ x →
    (t : (a b : ℕ) → ℕ × RawCite) → ((a b : ℕ) → cite_text (t a b) ≡ numeral a ++ (x ∷ numeral b)) →
    ((a b : ℕ) → capped_cite (t a b) ≡ t (capped a) (capped b)) → IsItemRead cite_text capped_cite old (t f s) new
cite_of_mark old new f m s x p q t h k = record {
  item = t p.before p.after;
  text = p.text ∙ (ap (λ u. numeral p.before ++ (u ∷ (numeral p.after ++ new))) q
      ∙ (marked_text p.before x p.after new ∙ ap (λ u. u ++ new) (sym (h p.before p.after))));
  stops = p.stops;
  value_is = ap (λ u. t u s) p.first_is ∙ (ap (λ u. t (capped p.before) u) p.second_is ∙ sym (k p.before p.after));
}

pub cite_read_line : (old new : List ℕ) (f m s : ℕ) → IsMarkedRead old f m s new → m ≡ 62 →
    IsItemRead cite_text capped_cite old (f, raw_cite.Line s) new
cite_read_line old new f m s p q = cite_of_mark old new f m s 62 p q (λ a b. (a, raw_cite.Line b)) (λ a b. refl)
    (λ a b. refl)

pub cite_read_below : (old new : List ℕ) (f m s : ℕ) → IsMarkedRead old f m s new → m ≡ 60 →
    IsItemRead cite_text capped_cite old (f, raw_cite.Below s) new
cite_read_below old new f m s p q = cite_of_mark old new f m s 60 p q (λ a b. (a, raw_cite.Below b)) (λ a b. refl)
    (λ a b. refl)

pub cite_read_twin : (old new : List ℕ) (f m s : ℕ) → IsMarkedRead old f m s new → m ≡ 126 →
    IsItemRead cite_text capped_cite old (f, raw_cite.Twin s) new
cite_read_twin old new f m s p q = cite_of_mark old new f m s 126 p q (λ a b. (a, raw_cite.Twin b)) (λ a b. refl)
    (λ a b. refl)

pub cite_none : (old new : List ℕ) (f m s : ℕ) → IsMarkedRead old f m s new → (m ≡ 62 → ⊥) → (m ≡ 60 → ⊥) →
    (m ≡ 126 → ⊥) → HasNoItem cite_text old
cite_none old new f m s p h j k = λ x r st e. go p h j k x.0 x.1 r e
  where
    go : IsMarkedRead old f m s new → (m ≡ 62 → ⊥) → (m ≡ 60 → ⊥) → (m ≡ 126 → ⊥) →
        (b : ℕ) (x : RawCite) (r : List ℕ) → old ≡ cite_text (b, x) ++ r → ⊥
    go p h j k b (raw_cite.Line n) r e = h (mark_there old new f m s p b 62 n r refl e)
    go p h j k b (raw_cite.Below n) r e = j (mark_there old new f m s p b 60 n r refl e)
    go p h j k b (raw_cite.Twin n) r e = k (mark_there old new f m s p b 126 n r refl e)
