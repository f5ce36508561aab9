-- Options, tests and lists.
use Rattle.std.proofs.Common.{◌≡◌, ◌+◌, ◌++◌, ◌∷◌, ℕ, List, [], Bool, true, false, not, Option, Some, None, cond, count_by, eq-eqb, find, inl, inr, is_some, refl}
use Rattle.std.proofs.lemmas.Bool.{cases_Bool}
use Rattle.std.proofs.lemmas.List.Sums.{sum_by_push}
use Rattle.std.specs.List.{list_any}
use Rattle.std.specs.Option.{option_or}
use Rattle.std.specs.Str.{bytes_eq}

pub none_if : {A : Type 0} (o : Option A) → is_some o ≡ false → o ≡ None
none_if None e = refl
none_if (Some x) e = cc e

pub option_or-assoc : {A : Type 0} (a b c : Option A) → option_or a (option_or b c) ≡ option_or (option_or a b) c
option_or-assoc None b c = refl
option_or-assoc (Some x) b c = refl

pub some_if : {A : Type 0} (o : Option A) → is_some o ≡ true → (x : A) × (o ≡ Some x)
some_if None e = cc e
some_if (Some x) e = (x, refl)

pub find_none : {A : Type 0} (p : A → Bool) (x : A) (xs : List A) → find p (x ∷ xs) ≡ None
    → (p x ≡ false) × (find p xs ≡ None)
find_none p x xs e = elim (cases_Bool (p x)) [
  | inl same ↦ cc (rw same at e)
  | inr other ↦ (other, rw other at e)
]

pub not_false : (b : Bool) → not b ≡ false → b ≡ true
not_false true e = refl
not_false false e = cc e

pub none_counted : {A : Type 0} (p : A → Bool) (xs : List A) → list_any p xs ≡ false → count_by p xs ≡ 0
none_counted p [] e = refl
none_counted p (x ∷ xs) e = elim (cases_Bool (p x)) [
  | inl same ↦ cc (rw same at e)
  | inr other ↦ rw other (none_counted p xs (rw other at e))
]

pub counted_last : {A : Type 0} (p : A → Bool) (xs : List A) (y : A)
    → count_by p (xs ++ y ∷ []) ≡ count_by p xs + cond (p y) 1 0
counted_last p xs y = sum_by_push (λ x. cond (p x) 1 0) xs y

pub text_same : (x : List ℕ) → bytes_eq x x ≡ true
text_same [] = refl
text_same (b ∷ x) = rw (eq-eqb b b refl) (text_same x)

-- a row after others of other ids is found by its id
pub find_after : {A : Type 0} (p : A → Bool) (before : List A) (x : A) (rest : List A) → list_any p before ≡ false
    → p x ≡ true → find p (before ++ x ∷ rest) ≡ Some x
find_after p [] x rest e h = rw h refl
find_after p (b ∷ before) x rest e h = elim (cases_Bool (p b)) [
  | inl same ↦ cc (rw same at e)
  | inr other ↦ rw other (find_after p before x rest (rw other at e) h)
]

pub any_after : {A : Type 0} (p : A → Bool) (before : List A) (x : A) (rest : List A) → p x ≡ true
    → list_any p (before ++ x ∷ rest) ≡ true
any_after p [] x rest h = rw h refl
any_after p (b ∷ before) x rest h = elim (cases_Bool (p b)) [
  | inl same ↦ rw same refl
  | inr other ↦ rw other (any_after p before x rest h)
]
