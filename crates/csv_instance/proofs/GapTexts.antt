-- What is written of a gap reads as it was, also after other gaps.
use Rattle.std.proofs.Common.{◌≡◌, ◌≤◌, ◌<◌, ◌+◌, ◌^◌, ◌++◌, ◌∷◌, ◌∙◌, ◌==◌, ℕ, suc, List, [], Bool, true, false, Option, Some, None, length, map, take, drop, position, refl, sym, ap, inl, inr, append_assoc, arith, length-append}
use Rattle.std.proofs.Math.Seq.{take-append_seam, drop-append_seam}
use Rattle.std.proofs.lemmas.Bool.{cases_Bool}
use Rattle.std.proofs.lemmas.Bool.Decides.{nat_tests}
use Rattle.std.proofs.lemmas.Fmt.{digits_decimal}
use Rattle.std.proofs.lemmas.Iterator.Adapters.{position_from-zero}
use Rattle.std.proofs.lemmas.List.Folds.{list_any-append}
use Rattle.std.proofs.lemmas.List.Splits.{length-slice_split}
use Rattle.std.specs.Char.{is_ascii_digit}
use Rattle.std.specs.Fmt.{decimal}
use Rattle.std.specs.List.{list_any, onto_first, position_from, slice_split}
use Rattle.std.specs.Prelude.{◌&&◌}
use Rattle.std.specs.Str.{all_ascii_digits}
use Rattle.dsa_model.proofs.NumberLemmas.{own}
use Rattle.dsa_model.specs.Limits.{time_limit}
use Rattle.csv_instance.specs.Changed.{gap_added}
use Rattle.csv_instance.specs.Gaps.{all_some, gap_of, gap_pair_text, gaps_of}
use Rattle.csv_instance.proofs.OffsetLemmas.{number-decimal}

-- ---- digits
-- the digits of a number
pub digits_are : (n : ℕ) → n < 2 ^ 64 → all_ascii_digits (decimal n) ≡ true
digits_are n word = digits_decimal own n word

-- a digit is no other byte
pub digit_other : (c k : ℕ) → is_ascii_digit c ≡ true → is_ascii_digit k ≡ false → (c == k) ≡ false
digit_other c k h e = grind (arith, nat_tests)

-- a test that no digit passes, digits do not pass
pub none_of_digits : (p : ℕ → Bool) → ((c : ℕ) → is_ascii_digit c ≡ true → p c ≡ false) → (ds : List ℕ)
    → all_ascii_digits ds ≡ true → list_any p ds ≡ false
none_of_digits p h [] e = refl
none_of_digits p h (d ∷ ds) e =
    let (first, rest) = both (is_ascii_digit d) (all_ascii_digits ds) e in
    rw (h d first) (none_of_digits p h ds rest)
  where
    both : (a b : Bool) → (a && b) ≡ true → (a ≡ true) × (b ≡ true)
    both true b e = (refl, e)
    both false b e = cc e

none_after : (p : ℕ → Bool) (xs ys : List ℕ) → list_any p xs ≡ false → list_any p ys ≡ false
    → list_any p (xs ++ ys) ≡ false
none_after p xs ys h k = rw (list_any-append p xs ys, h) k

-- nor do two numbers with a hyphen between them
pub none_in_pair : (p : ℕ → Bool) (a b : ℕ) → ((c : ℕ) → is_ascii_digit c ≡ true → p c ≡ false) → p 45 ≡ false
    → a < 2 ^ 64 → b < 2 ^ 64 → list_any p (gap_pair_text a b) ≡ false
none_in_pair p a b h e wa wb =
    none_after p (decimal a ++ (45 ∷ [])) (decimal b)
    (none_after p (decimal a) (45 ∷ []) (none_of_digits p h (decimal a) (digits_are a wa)) (rw e refl))
    (none_of_digits p h (decimal b) (digits_are b wb))

-- ---- one gap
-- a list in which nothing passes is one part
pub one_part : (p : ℕ → Bool) (xs : List ℕ) → list_any p xs ≡ false → slice_split p xs ≡ xs ∷ []
one_part p [] e = refl
one_part p (x ∷ xs) e = elim (cases_Bool (p x)) [
  | inl same ↦ cc (rw same at e)
  | inr other ↦ rw (other, one_part p xs (rw other at e)) refl
]

-- the first that passes stands after those that do not
first_from : (p : ℕ → Bool) (i : ℕ) (xs : List ℕ) (y : ℕ) (ys : List ℕ) → list_any p xs ≡ false → p y ≡ true
    → position_from p i (xs ++ y ∷ ys) ≡ Some (i + length xs)
first_from p i [] y ys e h = rw h (ap Some (let z : i ≡ i + 0 = omega arith in z))
first_from p i (x ∷ xs) y ys e h = elim (cases_Bool (p x)) [
  | inl same ↦ cc (rw same at e)
  | inr other ↦ rw other
      (first_from p (i + 1) xs y ys (rw other at e) h
      ∙ ap Some (let z : i + 1 + length xs ≡ i + suc (length xs) = omega arith in z))
]

first_is : (p : ℕ → Bool) (xs : List ℕ) (y : ℕ) (ys : List ℕ) → list_any p xs ≡ false → p y ≡ true
    → position p (xs ++ y ∷ ys) ≡ Some (length xs)
first_is p xs y ys e h = position_from-zero p (xs ++ y ∷ ys) ∙ first_from p 0 xs y ys e h
    ∙ ap Some (let z : 0 + length xs ≡ length xs = omega arith in z)

-- a byte between two lists, and the place after it
after_byte : (xs : List ℕ) (y : ℕ) (ys : List ℕ) → drop (length xs + 1) ((xs ++ y ∷ []) ++ ys) ≡ ys
after_byte xs y ys =
    let long : length (xs ++ y ∷ []) ≡ length xs + 1 = length-append xs (y ∷ []) in
    rw (sym long) (drop-append_seam (xs ++ y ∷ []) ys)

-- the two moments
pub gap_read : (a b : ℕ) → a < 2 ^ 62 → b < 2 ^ 62 → gap_of (gap_pair_text a b) ≡ Some (a, b)
gap_read a b la lb =
    let wa : a < 2 ^ 64 = omega arith in
    let wb : b < 2 ^ 64 = omega arith in
    let hyphen = λ (c : ℕ). c == 45 in
    let split : gap_pair_text a b ≡ decimal a ++ (45 ∷ decimal b) = append_assoc (decimal a) (45 ∷ []) (decimal b) in
    let place : position hyphen (gap_pair_text a b) ≡ Some (length (decimal a)) =
    ap (position hyphen) split
    ∙ first_is hyphen (decimal a) 45 (decimal b)
    (none_of_digits hyphen (λ c h. digit_other c 45 h refl) (decimal a) (digits_are a wa)) refl in
    let left : take (length (decimal a)) (gap_pair_text a b) ≡ decimal a =
    ap (take (length (decimal a))) split ∙ take-append_seam (decimal a) (45 ∷ decimal b) in
    let right : drop (length (decimal a) + 1) (gap_pair_text a b) ≡ decimal b = after_byte (decimal a) 45 (decimal b) in
    rw (place, left, right, number-decimal time_limit a (omega arith) wa, number-decimal time_limit b (omega arith) wb)
    refl

-- a written gap is one piece
one_piece : (a b : ℕ) → a < 2 ^ 62 → b < 2 ^ 62 →
    slice_split (λ c. c == 32) (gap_pair_text a b) ≡ gap_pair_text a b ∷ []
one_piece a b la lb =
    one_part (λ c. c == 32) (gap_pair_text a b)
    (none_in_pair (λ c. c == 32) a b (λ c h. digit_other c 32 h refl) refl (omega arith) (omega arith))

-- the one gap of a field
pub gaps-read : (a b : ℕ) → a < 2 ^ 62 → b < 2 ^ 62 → gaps_of (gap_pair_text a b) ≡ Some ((a, b) ∷ [])
gaps-read a b la lb =
    let some : (length (gap_pair_text a b) == 0) ≡ false = long _ (omega (
      arith,
      length-append (decimal a ++ 45 ∷ []) (decimal b),
      length-append (decimal a) (45 ∷ []),
    )) in
    rw (some, one_piece a b la lb, gap_read a b la lb) refl
  where
    long : (n : ℕ) → 0 < n → (n == 0) ≡ false
    long n h = grind (arith, nat_tests)

-- ---- a gap after others
onto_append : (x : ℕ) (ps qs : List (List ℕ)) → 1 ≤ length ps → onto_first x (ps ++ qs) ≡ onto_first x ps ++ qs
onto_append x [] qs some = absurd (omega arith)
onto_append x (p ∷ ps) qs some = refl

some_part : (p : ℕ → Bool) (xs : List ℕ) → 1 ≤ length (slice_split p xs)
some_part p xs = omega (arith, length-slice_split p xs)

-- the parts of two lists with a byte between them at which they are cut
parts_between : (p : ℕ → Bool) (xs : List ℕ) (y : ℕ) (ys : List ℕ) → p y ≡ true →
    slice_split p (xs ++ y ∷ ys) ≡ slice_split p xs ++ slice_split p ys
parts_between p [] y ys cut = rw cut refl
parts_between p (x ∷ xs) y ys cut = elim (cases_Bool (p x)) [
  | inl same ↦ rw same (ap (λ (ps : List (List ℕ)). [] ∷ ps) (parts_between p xs y ys cut))
  | inr other ↦ rw other (ap (onto_first x) (parts_between p xs y ys cut)
      ∙ onto_append x (slice_split p xs) (slice_split p ys) (some_part p xs))
]

gap_last : (ps : List (List ℕ)) (q : List ℕ) (gs : List (ℕ × ℕ)) (g : ℕ × ℕ) → all_some (map gap_of ps) ≡ Some gs →
    gap_of q ≡ Some g → all_some (map gap_of (ps ++ q ∷ [])) ≡ Some (gs ++ g ∷ [])
gap_last [] q gs g e h = let is : [] ≡ gs = cc in rw h (ap (λ (xs : List (ℕ × ℕ)). Some (xs ++ g ∷ [])) is)
gap_last (p ∷ ps) q gs g e h =
    go (gap_of p) (all_some (map gap_of ps)) refl refl (λ xs rest. gap_last ps q xs g rest h)
  where
    go : (o : Option (ℕ × ℕ)) (os : Option (List (ℕ × ℕ))) → gap_of p ≡ o → all_some (map gap_of ps) ≡ os →
        ((xs : List (ℕ × ℕ)) → all_some (map gap_of ps) ≡ Some xs →
        all_some (map gap_of (ps ++ q ∷ [])) ≡ Some (xs ++ g ∷ [])) →
        all_some (map gap_of ((p ∷ ps) ++ q ∷ [])) ≡ Some (gs ++ g ∷ [])
    go None os first rest more = cc (rw first at e)
    go (Some x) None first rest more = cc (rw (first, rest) at e)
    go (Some x) (Some xs) first rest more =
        let is : x ∷ xs ≡ gs = (let q2 : Some (x ∷ xs) ≡ Some gs = rw (first, rest) at e in cc) in
        rw (first, more xs rest) (ap (λ (ys : List (ℕ × ℕ)). Some (ys ++ g ∷ [])) is)

-- the gaps of a field with one more
pub gap_added-read : (field : List ℕ) (gs : List (ℕ × ℕ)) (a b : ℕ) → gaps_of field ≡ Some gs → a ≤ time_limit →
    b ≤ time_limit → gaps_of (gap_added field a b) ≡ Some (gs ++ (a, b) ∷ [])
gap_added-read [] gs a b e la lb =
    let is : [] ≡ gs = cc in
    rw (← is) (gaps-read a b (omega arith) (omega arith))
gap_added-read (f ∷ fs) gs a b e la lb =
    let text : gap_added (f ∷ fs) a b ≡ (f ∷ fs) ++ 32 ∷ gap_pair_text a b =
    rw (some f fs) (append_assoc (f ∷ fs) (32 ∷ []) (gap_pair_text a b)) in
    let pieces = slice_split (λ c. c == 32) (f ∷ fs) in
    let whole : all_some (map gap_of pieces) ≡ Some gs = rw (some f fs) at e in
    let parts : slice_split (λ c. c == 32) ((f ∷ fs) ++ 32 ∷ gap_pair_text a b) ≡ pieces ++ gap_pair_text a b ∷ [] =
    parts_between (λ c. c == 32) (f ∷ fs) 32 (gap_pair_text a b) refl
    ∙ ap (λ (ps : List (List ℕ)). pieces ++ ps) (one_piece a b (omega arith) (omega arith)) in
    rw (text, some f (fs ++ 32 ∷ gap_pair_text a b), parts)
    (gap_last pieces (gap_pair_text a b) gs (a, b) whole (gap_read a b (omega arith) (omega arith)))
  where
    some : (x : ℕ) (xs : List ℕ) → (length (x ∷ xs) == 0) ≡ false
    some x xs = grind (arith, nat_tests)
