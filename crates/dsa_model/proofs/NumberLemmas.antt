-- Digits read one by one.
use Rattle.std.proofs.Common.{◌≡◌, ◌<◌, ◌≤◌, ◌+◌, ◌*◌, ◌-◌, ◌^◌, ℕ, zero, suc, List, [], ◌∷◌, true, false, None, length, take, get_or, refl, sym, arith, length-take}
use Rattle.std.proofs.lemmas.Bool.Decides.{nat_tests}
use Rattle.std.proofs.lemmas.Grind.{common_steps}
use Rattle.std.proofs.lemmas.Int.Digits.{digits_value_more}
use Rattle.std.proofs.lemmas.Str.Parse.{IsNumeralModel, numerals_by_value, tells_all_ascii_digits, digits_value_short}
use Rattle.std.specs.Char.{digit_value, is_ascii_digit}
use Rattle.std.specs.Str.{all_ascii_digits}
use Rattle.std.specs.Str.Parse.{digits_value}
use Rattle.dsa_model.specs.Numbers.{written_number}

pub own : IsNumeralModel (λ ds. all_ascii_digits ds ≡ true) (digits_value 10)
own = numerals_by_value _ tells_all_ascii_digits

pub digits-more : (ds : List ℕ) (i : ℕ) → all_ascii_digits (take i ds) ≡ true → i < length ds
    → is_ascii_digit (get_or ds i 0) ≡ true → all_ascii_digits (take (suc i) ds) ≡ true
digits-more [] i h l e = refl
digits-more (d ∷ ds) zero h l e = rw e refl
digits-more (d ∷ ds) (suc i) h l e = grind (arith, common_steps, digits-more ds i)

pub digits-stop : (ds : List ℕ) (i : ℕ) → i < length ds → is_ascii_digit (get_or ds i 0) ≡ false
    → all_ascii_digits ds ≡ false
digits-stop [] i l e = absurd (omega arith)
digits-stop (d ∷ ds) zero l e = rw e refl
digits-stop (d ∷ ds) (suc i) l e = grind (arith, common_steps, digits-stop ds i)

pub digit-is : (d : ℕ) → is_ascii_digit d ≡ true → digit_value d ≡ d - 48
digit-is d h = grind (arith, nat_tests)

pub value-small : (ds : List ℕ) (i : ℕ) → length ds ≤ 20 → i < length ds → all_ascii_digits (take i ds) ≡ true
    → digits_value 10 (take i ds) < 10 ^ 19
value-small ds i most l h = digits_value_short own (take i ds) 19 h (omega (arith, length-take i ds))

pub not-number : (most : ℕ) (bytes : List ℕ) (i : ℕ) → i < length bytes → is_ascii_digit (get_or bytes i 0) ≡ false
    → None ≡ written_number most bytes
not-number most bytes i l e = let f = digits-stop bytes i l e in grind (arith, common_steps, f)

pub value-more : (ds : List ℕ) (i v : ℕ) → i < length ds → is_ascii_digit (get_or ds i 0) ≡ true
    → v ≡ digits_value 10 (take i ds)
    → v * 10 + (get_or ds i 0 - 48) ≡ digits_value 10 (take (i + 1) ds)
value-more ds i v l h e = rw (e, sym (digit-is (get_or ds i 0) h)) (sym (digits_value_more 10 ds i l))
