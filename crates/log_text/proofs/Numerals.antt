-- Numerals: their digits, their values, and which digits are one.
use Rattle.std.proofs.Common.{◌≡◌, ◌^◌, ℕ, zero, suc, ◌+◌, ◌*◌, ◌/◌, ◌%◌, ◌<◌, ◌≤◌, Bool, true, false, ◌&&◌, ◌==◌, ◌⊎◌, inl, inr, cond, nat_lt, List, [], ◌∷◌, ◌++◌, map, length, get_or, decimal, refl, sym, ap, ◌∙◌, arith, append_assoc, zero-add}
use Rattle.std.proofs.lemmas.Bool.Decides.{nat_tests}
use Rattle.std.proofs.lemmas.Fmt.{decimal_by_steps}
use Rattle.std.proofs.lemmas.Int.Digits.{digits_value_is, digits_of_step, all_below_base_digits_of, first_digits_of, number_digits_of}
use Rattle.std.specs.Char.{digit_value}
use Rattle.std.specs.Int.Digits.{AllBelowBase, digits_of, number_from_digits, number_from_digits_after}
use Rattle.std.specs.List.{list_all}
use Rattle.std.specs.Str.Parse.{digits_value}
use Rattle.dsa_terms.proofs.Moments.{and_true}
use Rattle.log_text.specs.Digits.{IsCanonical, is_digit}
use Rattle.log_text.specs.Numerals.{numeral}

pub of_zero : numeral 0 ≡ 48 ∷ []
unfolding numeral
of_zero = refl

pub of_more : (n : ℕ) → 0 < n → numeral n ≡ map (λ d. 48 + d) (digits_of 10 n)
unfolding numeral
of_more n h = else_case (n == 0) (48 ∷ []) (map (λ d. 48 + d) (digits_of 10 n)) (not_zero n h)
  where
    not_zero : (n : ℕ) → 0 < n → (n == 0) ≡ false
    not_zero n h = grind (arith, nat_tests)

    else_case : (b : Bool) (x y : List ℕ) → b ≡ false → cond b x y ≡ y
    else_case true x y e = absurd cc
    else_case false x y e = refl

value_of_char : (d : ℕ) → d < 10 → digit_value (48 + d) ≡ d
value_of_char d h = grind (arith, nat_tests)

pub char_of_value : (c : ℕ) → digit_value c < 10 → 48 + digit_value c ≡ c
char_of_value c h = grind (arith, nat_tests)

-- ---- the value of a numeral
values_back : (ds : List ℕ) → AllBelowBase 10 ds → map digit_value (map (λ d. 48 + d) ds) ≡ ds
values_back [] a = refl
values_back (d ∷ ds) a = let p = value_of_char d a.0 in let q = values_back ds a.1 in cc

pub value-numeral : (n : ℕ) → digits_value 10 (numeral n) ≡ n
value-numeral zero = rw of_zero refl
value-numeral (suc n) =
    ap (digits_value 10) (of_more (suc n) (omega arith))
    ∙ (digits_value_is 10 (map (λ d. 48 + d) (digits_of 10 (suc n)))
    ∙ (ap (number_from_digits 10) (values_back (digits_of 10 (suc n))
    (all_below_base_digits_of 10 (suc n) (omega arith))) ∙ number_digits_of 10 (suc n) (omega arith)))

pub numeral_injective : (m n : ℕ) → numeral m ≡ numeral n → m ≡ n
numeral_injective m n e = sym (value-numeral m) ∙ (ap (digits_value 10) e ∙ value-numeral n)

-- ---- the digits of a numeral
chars_are_digits : (ds : List ℕ) → AllBelowBase 10 ds → list_all is_digit (map (λ d. 48 + d) ds) ≡ true
chars_are_digits [] a = refl
chars_are_digits (d ∷ ds) a = both _ _ (below _ (rw (value_of_char d a.0) a.0)) (chars_are_digits ds a.1)
  where
    below : (n : ℕ) → n < 10 → nat_lt n 10 ≡ true
    below n h = grind (arith, nat_tests)

    both : (a b : Bool) → a ≡ true → b ≡ true → (a && b) ≡ true
    both a b p q = rw (p, q) refl

first_char : (ds : List ℕ) → 0 < get_or ds 0 0 → (0 < length (map (λ d. 48 + d) ds)) ×
    (get_or (map (λ d. 48 + d) ds) 0 0 ≡ 48 → ⊥)
first_char [] h = absurd (omega arith)
first_char (d ∷ ds) h = (omega arith, λ e. omega arith)

pub numeral_is_canonical : (n : ℕ) → IsCanonical (numeral n)
numeral_is_canonical zero = rw of_zero (record { some = omega arith; digits = refl; no_zero = λ _. refl })
numeral_is_canonical (suc n) = rw (of_more (suc n) (omega arith))
    (of_digits (digits_of 10 (suc n)) (all_below_base_digits_of 10 (suc n) (omega arith))
    (first_digits_of 10 (suc n) (omega arith) (omega arith)))
  where
    of_digits : (ds : List ℕ) → AllBelowBase 10 ds → 0 < get_or ds 0 0 → IsCanonical (map (λ d. 48 + d) ds)
    of_digits ds a h = record {
      some = (first_char ds h).0;
      digits = chars_are_digits ds a;
      no_zero =
          λ e. absurd ((first_char ds h).1 e);
    }

-- ---- canonical digits are the numeral of their value
digits_after : (n : ℕ) (ds : List ℕ) → 0 < n → AllBelowBase 10 ds →
    digits_of 10 (number_from_digits_after 10 n ds) ≡ digits_of 10 n ++ ds
digits_after n [] h a = sym (append_nil (digits_of 10 n))
  where
    append_nil : (xs : List ℕ) → xs ++ [] ≡ xs
    append_nil [] = refl
    append_nil (x ∷ xs) = ap (λ ys. x ∷ ys) (append_nil xs)
digits_after n (d ∷ ds) h a =
    digits_after (n * 10 + d) ds (omega arith) a.1
    ∙ (ap (λ xs. xs ++ ds) (step (n * 10 + d) n d (omega arith) refl a.0) ∙ append_assoc (digits_of 10 n) (d ∷ []) ds)
  where
    step : (m n d : ℕ) → 0 < m → m ≡ n * 10 + d → d < 10 → digits_of 10 m ≡ digits_of 10 n ++ (d ∷ [])
    step m n d h e l =
        let q : m / 10 ≡ n = omega arith in
        let r : m % 10 ≡ d = omega arith in
        digits_of_step 10 m (omega arith) h ∙ (ap (λ (x : ℕ). digits_of 10 x ++ (m % 10 ∷ [])) q
        ∙ ap (λ (x : ℕ). digits_of 10 n ++ (x ∷ [])) r)

values_below : (ds : List ℕ) → list_all is_digit ds ≡ true → AllBelowBase 10 (map digit_value ds)
values_below [] a = tt
values_below (c ∷ cs) a = (below _ (and_true _ _ a).0, values_below cs (and_true _ _ a).1)
  where
    below : (n : ℕ) → nat_lt n 10 ≡ true → n < 10
    below n h = grind (arith, nat_tests)

chars_back : (ds : List ℕ) → AllBelowBase 10 (map digit_value ds) → map (λ d. 48 + d) (map digit_value ds) ≡ ds
chars_back [] a = refl
chars_back (c ∷ cs) a = let p = char_of_value c a.0 in let q = chars_back cs a.1 in cc

one_digit : (d : ℕ) → 0 < d → d < 10 → digits_of 10 d ≡ d ∷ []
one_digit d h l =
    let q : d / 10 ≡ 0 = omega arith in
    let r : d % 10 ≡ d = omega arith in
    digits_of_step 10 d (omega arith) h ∙ (ap (λ (x : ℕ). digits_of 10 x ++ (d % 10 ∷ [])) q ∙ ap (λ (x : ℕ). x ∷ []) r)

pub numeral_of : (ds : List ℕ) → IsCanonical ds → numeral (digits_value 10 ds) ≡ ds
numeral_of [] h = absurd (let k = h.some in omega arith)
numeral_of (c ∷ cs) h = elim (zero_or_more (digit_value c))
    [ inl z ↦ just_zero c cs h z | inr p ↦ from_more c cs (values_below (c ∷ cs) h.digits) p ]
  where
    zero_or_more : (n : ℕ) → (n ≡ 0) ⊎ (0 < n)
    zero_or_more zero = inl refl
    zero_or_more (suc n) = inr (omega arith)

    no_more : (c : ℕ) (cs : List ℕ) → length (c ∷ cs) ≡ 1 → cs ≡ []
    no_more c [] e = refl
    no_more c (d ∷ ds) e = absurd (omega arith)

    just_zero : (c : ℕ) (cs : List ℕ) → IsCanonical (c ∷ cs) → digit_value c ≡ 0 →
        numeral (digits_value 10 (c ∷ cs)) ≡ c ∷ cs
    just_zero c cs h z =
        let e : c ≡ 48 = sym (char_of_value c (omega arith)) ∙ ap (λ n. 48 + n) z in
        let n : cs ≡ [] = no_more c cs (h.no_zero e) in
        rw (e, n) of_zero

    value_after : (c : ℕ) (cs : List ℕ) → digits_value 10 (c ∷ cs) ≡ number_from_digits_after 10 (digit_value c)
        (map digit_value cs)
    value_after c cs = digits_value_is 10 (c ∷ cs) ∙ ap (λ n. number_from_digits_after 10 n (map digit_value cs))
        (zero-add (digit_value c))

    from_more : (c : ℕ) (cs : List ℕ) → AllBelowBase 10 (map digit_value (c ∷ cs)) → 0 < digit_value c →
        numeral (digits_value 10 (c ∷ cs)) ≡ c ∷ cs
    from_more c cs a p =
        let v : digits_of 10 (digits_value 10 (c ∷ cs)) ≡ map digit_value (c ∷ cs) =
        ap (digits_of 10) (value_after c cs) ∙ (digits_after (digit_value c) (map digit_value cs) p a.1
        ∙ ap (λ xs. xs ++ map digit_value cs) (one_digit (digit_value c) p a.0)) in
        let m : 0 < digits_value 10 (c ∷ cs) = rw (value_after c cs)
        (at_least (digit_value c) (map digit_value cs) p) in
        of_more _ m ∙ (ap (λ xs. map (λ d. 48 + d) xs) v ∙ chars_back (c ∷ cs) a)
      where
        at_least : (n : ℕ) (ds : List ℕ) → 0 < n → 0 < number_from_digits_after 10 n ds
        at_least n [] h = h
        at_least n (d ∷ ds) h = at_least (n * 10 + d) ds (omega arith)

-- what std writes of a number of 64 bits is its numeral
pub decimal_is : (n : ℕ) → n < 2 ^ 64 → decimal n ≡ numeral n
decimal_is n h = decimal_by_steps (λ n ds. ds ≡ numeral n) one more n h
  where
    one : (n : ℕ) → n < 10 → (48 + n) ∷ [] ≡ numeral n
    one zero l = sym of_zero
    one (suc n) l = sym (of_more (suc n) (omega arith) ∙ ap (λ xs. map (λ d. 48 + d) xs)
        (one_digit (suc n) (omega arith) l))

    map_more : (xs : List ℕ) (d : ℕ) → map (λ d. 48 + d) (xs ++ (d ∷ [])) ≡ map (λ d. 48 + d) xs ++ ((48 + d) ∷ [])
    map_more [] d = refl
    map_more (x ∷ xs) d = ap (λ ys. (48 + x) ∷ ys) (map_more xs d)

    more : (n : ℕ) (ds : List ℕ) → 10 ≤ n → ds ≡ numeral (n / 10) → ds ++ ((48 + n % 10) ∷ []) ≡ numeral n
    more n ds h e =
        ap (λ xs. xs ++ ((48 + n % 10) ∷ [])) (e ∙ of_more (n / 10) (omega arith))
        ∙ sym (of_more n (omega arith) ∙ (ap (λ xs. map (λ d. 48 + d) xs)
        (digits_of_step 10 n (omega arith) (omega arith)) ∙ map_more (digits_of 10 (n / 10)) (n % 10)))
