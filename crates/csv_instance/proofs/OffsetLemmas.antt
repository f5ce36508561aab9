-- A field put last in a header and in a row.
use Rattle.std.proofs.Common.{◌≡◌, ◌<◌, ◌≤◌, ◌+◌, ◌^◌, ◌++◌, ◌∷◌, ◌∙◌, ℕ, zero, suc, List, [], Bool, true, Some, None, length, get_or, position, refl, sym, ap, inl, inr, arith}
use Rattle.std.proofs.lemmas.Bool.{cases_Bool}
use Rattle.std.proofs.lemmas.Bool.Decides.{nat_tests}
use Rattle.std.proofs.lemmas.Grind.{common_steps}
use Rattle.std.proofs.lemmas.Fmt.{decimal_is_IsNumeral, length-decimal-le}
use Rattle.std.proofs.lemmas.Iterator.Adapters.{position_from-zero}
use Rattle.std.specs.Fmt.{decimal}
use Rattle.std.specs.List.{position_from}
use Rattle.std.specs.Str.{all_ascii_digits, bytes_eq}
use Rattle.std.specs.Str.Parse.{digits_value}
use Rattle.dsa_model.specs.Numbers.{written_number}
use Rattle.dsa_model.proofs.NumberLemmas.{own}
use Rattle.csv_instance.specs.Columns.{field_of, name_of, column_place}
use Rattle.csv_instance.specs.Records.{Record}
use Rattle.csv_instance.specs.declared.columns.Column.TheVariants.{Id, Offset}

number-is : (most : ℕ) (field : List ℕ) (v : ℕ) → 0 < length field → length field ≤ 20 → all_ascii_digits field ≡ true
    → digits_value 10 field ≡ v → v ≤ most → written_number most field ≡ Some v
number-is most field v some short all value small = grind (arith, nat_tests, common_steps)

-- a number that is written in decimal reads as it was
pub number-decimal : (most n : ℕ) → n ≤ most → n < 2 ^ 64 → written_number most (decimal n) ≡ Some n
number-decimal most n small word =
    let (digits, value) = decimal_is_IsNumeral n word in
    number-is most (decimal n) n digits.0
    (length-decimal-le 20 n (omega arith) (let w : n < 10 ^ 20 = omega arith in w) word)
    (own.from (decimal n) digits.1) value small

-- the first place at which a test passes stays when more is put last
from_append : {A : Type 0} (p : A → Bool) (i k : ℕ) (xs ys : List A) → position_from p i xs ≡ Some k
    → position_from p i (xs ++ ys) ≡ Some k
from_append p i k [] ys e = cc e
from_append p i k (x ∷ xs) ys e = elim (cases_Bool (p x)) [
  | inl same ↦ rw same (rw same at e)
  | inr other ↦ rw other (from_append p (i + 1) k xs ys (rw other at e))
]

pub position-append : {A : Type 0} (p : A → Bool) (k : ℕ) (xs ys : List A) → position p xs ≡ Some k
    → position p (xs ++ ys) ≡ Some k
position-append p k xs ys e = position_from-zero p (xs ++ ys)
    ∙ from_append p 0 k xs ys (sym (position_from-zero p xs) ∙ e)

-- and is that of the last where it passes at no other
from_last : {A : Type 0} (p : A → Bool) (i : ℕ) (xs : List A) (y : A) → position_from p i xs ≡ None → p y ≡ true
    → position_from p i (xs ++ y ∷ []) ≡ Some (i + length xs)
from_last p i [] y e h = rw h (ap Some (let z : i ≡ i + 0 = omega arith in z))
from_last p i (x ∷ xs) y e h = elim (cases_Bool (p x)) [
  | inl same ↦ cc (rw same at e)
  | inr other ↦ rw other
      (from_last p (i + 1) xs y (rw other at e) h
      ∙ ap Some (let z : i + 1 + length xs ≡ i + suc (length xs) = omega arith in z))
]

pub position-last : {A : Type 0} (p : A → Bool) (xs : List A) (y : A) → position p xs ≡ None → p y ≡ true
    → position p (xs ++ y ∷ []) ≡ Some (length xs)
position-last p xs y e h = position_from-zero p (xs ++ y ∷ [])
    ∙ from_last p 0 xs y (sym (position_from-zero p xs) ∙ e) h
    ∙ ap Some (let z : 0 + length xs ≡ length xs = omega arith in z)

from_within : {A : Type 0} (p : A → Bool) (i k : ℕ) (xs : List A) → position_from p i xs ≡ Some k → k < i + length xs
from_within p i k [] e = cc e
from_within p i k (x ∷ xs) e = elim (cases_Bool (p x)) [
  | inl same ↦ let q : Some i ≡ Some k = rw same at e in let r : i ≡ k = cc in omega arith
  | inr other ↦ let h = from_within p (i + 1) k xs (rw other at e) in omega arith
]

pub get-append : {A : Type 0} (xs ys : List A) (i : ℕ) (d : A) → i < length xs → get_or (xs ++ ys) i d ≡ get_or xs i d
get-append [] ys i d h = absurd (omega arith)
get-append (x ∷ xs) ys zero d h = refl
get-append (x ∷ xs) ys (suc i) d h = get-append xs ys i d (omega arith)

pub get-last : {A : Type 0} (xs : List A) (y d : A) → get_or (xs ++ y ∷ []) (length xs) d ≡ y
get-last [] y d = refl
get-last (x ∷ xs) y d = get-last xs y d

-- the id of a row with one more field
pub id-with : (header row : Record) (name field : List ℕ) (k : ℕ) → column_place header Id ≡ Some k
    → length row ≡ length header
    → field_of (header ++ name ∷ []) (row ++ field ∷ []) Id ≡ field_of header row Id
id-with header row name field k e same =
    let there = position-append (bytes_eq (name_of Id)) k header (name ∷ []) e in
    let within = from_within (bytes_eq (name_of Id)) 0 k header
    (sym (position_from-zero (bytes_eq (name_of Id)) header) ∙ e) in
    rw (there, e) (get-append row (field ∷ []) k [] (omega arith))

-- and its last field
pub last-with : (header row : Record) (field : List ℕ) → column_place header Offset ≡ None → length row ≡ length header
    → field_of (header ++ name_of Offset ∷ []) (row ++ field ∷ []) Offset ≡ field
last-with header row field e same =
    let there = position-last (bytes_eq (name_of Offset)) header (name_of Offset) e refl in
    rw there (rw (sym same) (get-last row field []))
