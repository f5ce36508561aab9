-- What a column means, and where the reader finds it.
use Rattle.std.proofs.Common.{◌≡◌, ◌∙◌, ◌<◌, ◌≤◌, ◌+◌, ◌↔◌, ℕ, zero, suc, inl, inr, Bool, true, false, cond, nat_le, List, [], ◌∷◌, length, count_by, find, get_or, codes, Option, Some, None, refl, sym, ap, arith}
use Rattle.std.proofs.lemmas.Bool.{cases_Bool}
use Rattle.std.proofs.lemmas.Bool.Decides.{nat_tests}
use Rattle.std.proofs.lemmas.Iterator.Adapters.{position_from-zero}
use Rattle.std.proofs.lemmas.List.Quantifiers.{position-Some}
use Rattle.std.proofs.lemmas.List.Sums.{sum_by-cons}
use Rattle.std.proofs.lemmas.Slice.Eq.{bytes_eq-Decides}
use Rattle.std.specs.List.{position_from}
use Rattle.std.specs.Option.{option_map_or}
use Rattle.std.specs.Str.{bytes_eq}
use Rattle.dsa_terms.specs.Claims.{IsIn}
use Rattle.dsa_model.proofs.Faults.{map_none}
use Rattle.csv_instance.specs.Columns.{column_named, column_place, name_of, named_columns, stands_twice}
use Rattle.csv_instance.specs.Parse.{header_fault, header_faults}
use Rattle.csv_instance.specs.Records.{Record}
use Rattle.csv_instance.specs.declared.columns.Column.{Column}
use Rattle.csv_instance.specs.declared.columns.Column.TheVariants.{Id, Lower, Upper, Size, Alignment, Gaps, Offset, Lowest}
use Rattle.csv_instance.specs.declared.fault.InstanceFault.TheVariants as fault
use Rattle.csv_instance.proofs.Basics.{find_none}
use Rattle.csv_instance.proofs.IdLemmas.{all_none}
use Rattle.column_report.specs.Columns.{meaning_of}

-- ---- names

-- each column is found by its name
by_name : (c : Column) → column_named (name_of c) ≡ Some c
by_name Id = refl
by_name Lower = refl
by_name Upper = refl
by_name Size = refl
by_name Alignment = refl
by_name Gaps = refl
by_name Offset = refl
by_name Lowest = refl

same_some : (c d : Column) → Some c ≡ Some d → c ≡ d
same_some c d e = cc

not_carried : (c : Column) → codes "carried" ≡ name_of c → ⊥
not_carried c e = let none : Some c ≡ None = sym (by_name c) ∙ ap column_named (sym e) in cc

-- what is found passes
found_passes : {A : Type 0} (p : A → Bool) (xs : List A) (y : A) → find p xs ≡ Some y → p y ≡ true
found_passes p [] y e = cc
found_passes p (x ∷ xs) y e = elim (cases_Bool (p x)) [
  | inl same ↦ let is : Some x ≡ Some y = rw same at e in let z : x ≡ y = cc in rw z at same
  | inr other ↦ found_passes p xs y (rw other at e)
]

has_its_name : (name : List ℕ) (c : Column) → column_named name ≡ Some c → name ≡ name_of c
has_its_name name c e =
    sym ((bytes_eq-Decides (name_of c) name).0 (found_passes (λ c. bytes_eq (name_of c) name) named_columns c e))

told : (name : List ℕ) (c : Column) (found : Option Column) → column_named name ≡ found →
    option_map_or name_of found (codes "carried") ≡ name_of c → name ≡ name_of c
told name c None is e = absurd (not_carried c e)
told name c (Some d) is e = has_its_name name d is ∙ e

-- a column means one of ours exactly where it has its name
pub meaning_tells : (name : List ℕ) (c : Column) → (meaning_of name ≡ name_of c) ↔ (name ≡ name_of c)
meaning_tells name c = (
  λ e. told name c (column_named name) refl e,
  λ e. rw e (ap (λ found. option_map_or name_of found (codes "carried")) (by_name c)),
)

-- ---- places

one_more : {A : Type 0} (p : A → Bool) (x : A) (xs : List A) (b : Bool) → p x ≡ b →
    count_by p (x ∷ xs) ≡ cond b 1 0 + count_by p xs
one_more p x xs b e = sum_by-cons (λ y. cond (p y) 1 0) x xs ∙ ap (λ b. cond b 1 0 + count_by p xs) e

some_passes : {A : Type 0} (p : A → Bool) (xs : List A) (k : ℕ) (d : A) → k < length xs → p (get_or xs k d) ≡ true →
    1 ≤ count_by p xs
some_passes p [] k d lt e = absurd (omega arith)
some_passes p (x ∷ xs) zero d lt e = let z = one_more p x xs true e in omega (arith, z)
some_passes p (x ∷ xs) (suc k) d lt e =
    let z = one_more p x xs (p x) refl in
    let more = some_passes p xs k d (omega arith) e in omega (arith, z, more)

-- the one that passes is found at its place
once_at : {A : Type 0} (p : A → Bool) (xs : List A) (i k : ℕ) (d : A) → k < length xs → p (get_or xs k d) ≡ true →
    count_by p xs ≤ 1 → position_from p i xs ≡ Some (i + k)
once_at p [] i k d lt e few = absurd (omega arith)
once_at p (x ∷ xs) i zero d lt e few = let z : i ≡ i + 0 = omega arith in rw e (ap Some z)
once_at p (x ∷ xs) i (suc k) d lt e few = elim (cases_Bool (p x)) [
  | inl same ↦
      let here = one_more p x xs true same in
      let more = some_passes p xs k d (omega arith) e in absurd (omega (arith, here, more, few))
  | inr other ↦
      let here = one_more p x xs false other in
      let next : i + 1 + k ≡ i + suc k = omega arith in
      rw other (once_at p xs (i + 1) k d (omega arith) e (omega (arith, here, few)) ∙ ap Some next)
]

none_found : {A : Type 0} (p : A → Bool) (xs : List A) (y : A) → find p xs ≡ None → IsIn y xs → p y ≡ false
none_found p [] y e i = absurd i
none_found p (x ∷ xs) y e (inl is) = rw is (find_none p x xs e).0
none_found p (x ∷ xs) y e (inr i) = none_found p xs y (find_none p x xs e).1 i

among : (c : Column) → IsIn c named_columns
among Id = inl refl
among Lower = inr (inl refl)
among Upper = inr (inr (inl refl))
among Size = inr (inr (inr (inl refl)))
among Alignment = inr (inr (inr (inr (inl refl))))
among Gaps = inr (inr (inr (inr (inr (inl refl)))))
among Offset = inr (inr (inr (inr (inr (inr (inl refl))))))
among Lowest = inr (inr (inr (inr (inr (inr (inr (inl refl)))))))

few_of : (n : ℕ) → nat_le 2 n ≡ false → n ≤ 1
few_of n e = grind (arith, nat_tests)

-- in a header without a fault no column stands twice
once : (header : Record) (c : Column) → header_fault header ≡ None → count_by (bytes_eq (name_of c)) header ≤ 1
once header c good =
    few_of _ (none_found (stands_twice header) named_columns c
    (map_none fault.DuplicateColumn _ (all_none (header_faults header) good).1.0) (among c))

-- the reader finds a column exactly where its name stands
place_tells : (header : Record) (place : ℕ) (c : Column) → header_fault header ≡ None → place < length header →
    (get_or header place [] ≡ name_of c) ↔ (column_place header c ≡ Some place)
place_tells header place c good within = let at : 0 + place ≡ place = omega arith in (
  λ e. position_from-zero (bytes_eq (name_of c)) header
      ∙ once_at (bytes_eq (name_of c)) header 0 place [] within
      ((bytes_eq-Decides (name_of c) (get_or header place [])).1 (sym e)) (once header c good) ∙ ap Some at,
  λ e. sym ((bytes_eq-Decides (name_of c) (get_or header place [])).0
      (position-Some (bytes_eq (name_of c)) header place [] e).1),
)

pub as_read : (header : Record) (place : ℕ) (c : Column) → header_fault header ≡ None → place < length header →
    (meaning_of (get_or header place []) ≡ name_of c) ↔ (column_place header c ≡ Some place)
as_read header place c good within =
    let means = meaning_tells (get_or header place []) c in
    let stands = place_tells header place c good within in
    (λ e. stands.0 (means.0 e), λ e. means.1 (stands.1 e))
