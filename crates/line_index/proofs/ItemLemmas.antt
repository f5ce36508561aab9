-- Items of a list of which one is taken out or written over, or that gets one more.
use Rattle.std.proofs.Common.{◌≡◌, ℕ, zero, suc, ◌-◌, ◌<◌, ◌≤◌, ◌⊎◌, inl, inr, List, [], ◌∷◌, ◌++◌, length, slice_get, slice_index_or, slice_set, take, Some, sym, ap, ◌∙◌, subst, refl, arith}
use Rattle.std.proofs.lemmas.List.{get_or-set_other, get_or-set_same, get_or-take, length-set, length-take, take-set-le}
use Rattle.std.proofs.lemmas.Option.{get_or_from_slice_get, slice_get-get_or, slice_get_within}
use Rattle.std.specs.List.{swap_remove}
use Rattle.dsa_terms.specs.Claims.{IsIn}
use Rattle.dsa_terms.proofs.Lists.{from_append, same_some}
use Rattle.dsa_terms.proofs.NumberTests.{below_or_from, same_or_not}
use Rattle.dsa_terms.proofs.Places.{any_default, from_contains, in_at, place_of}

-- ---- an item is taken out, or written over
taken_before : {X : Type 0} (xs : List X) (n j : ℕ) (x : X) → j < n → n ≤ length xs → slice_index_or xs j x ≡ x →
    IsIn x (take n xs)
taken_before xs n j x lt le q = from_contains (take n xs) x
    (j, (let k = length-take n xs in omega arith), get_or-take n xs j x lt ∙ q)

-- an item that is not the one taken out stays
pub in_swap_remove : {X : Type 0} (xs : List X) (i : ℕ) (d x : X) → i < length xs → IsIn x xs →
    IsIn x (swap_remove xs i d) ⊎ (slice_get xs i ≡ Some x)
in_swap_remove xs i d x lt h = go xs i x (slice_index_or xs (length xs - 1) d) lt
    (λ q. q d) (let r = place_of xs x x h in (r.0, r.1, λ e. any_default xs r.0 e x r.1 ∙ r.2))
  where
    go : {X : Type 0} (xs : List X) (i : ℕ) (x last : X) → i < length xs →
        (((e : X) → slice_index_or xs (length xs - 1) e ≡ x) → last ≡ x) →
        (j : ℕ) × (j < length xs) × ((e : X) → slice_index_or xs j e ≡ x) →
        IsIn x (take (length xs - 1) (slice_set xs i last)) ⊎ (slice_get xs i ≡ Some x)
    go {X} xs i x last lt end r =
        let j : ℕ = r.0 in
        let below : j < length xs = r.1 in
        let is : (e : X) → slice_index_or xs j e ≡ x = r.2 in
        let size : length (slice_set xs i last) ≡ length xs = length-set xs i last in
        elim (same_or_not j i) [
          | inl q ↦ inr (slice_get-get_or xs i x lt ∙ ap Some (ap (λ (j : ℕ). slice_index_or xs j x) (sym q) ∙ is x))
          | inr other ↦ elim (below_or_from j (length xs - 1)) [
            | inl before ↦ inl (taken_before (slice_set xs i last) (length xs - 1) j x before (omega arith)
                (get_or-set_other xs i j last x other ∙ is x))
            | inr from ↦ inl (taken_before (slice_set xs i last) (length xs - 1) i x (omega arith) (omega arith)
                (get_or-set_same xs i last x lt
                ∙ end (λ e. ap (λ (j : ℕ). slice_index_or xs j e) (omega arith) ∙ is e)))
          ]
        ]

pub take_swap_remove : {X : Type 0} (xs : List X) (i : ℕ) (d : X) → i < length xs →
    take i (swap_remove xs i d) ≡ take i xs
take_swap_remove xs i d lt = take_take i (length xs - 1) (slice_set xs i (slice_index_or xs (length xs - 1) d))
    (omega arith) ∙ take-set-le i xs i (slice_index_or xs (length xs - 1) d) (omega arith)
  where
    take_take : {X : Type 0} (m n : ℕ) (xs : List X) → m ≤ n → take m (take n xs) ≡ take m xs
    take_take zero n xs le = zero_take (take n xs) ∙ sym (zero_take xs)
      where
        zero_take : {X : Type 0} (xs : List X) → take zero xs ≡ []
        zero_take [] = refl
        zero_take (x ∷ xs) = refl
    take_take (suc m) zero xs le = absurd (omega arith)
    take_take (suc m) (suc n) [] le = refl
    take_take (suc m) (suc n) (x ∷ xs) le = ap (λ xs. x ∷ xs) (take_take m n xs (omega arith))

-- an item that is not the one written over stays
pub in_set : {X : Type 0} (xs : List X) (i : ℕ) (y x : X) → i < length xs → IsIn x xs →
    IsIn x (slice_set xs i y) ⊎ (slice_get xs i ≡ Some x)
in_set xs i y x lt h =
    let r = place_of xs x x h in
    elim (same_or_not r.0 i) [
      | inl q ↦ inr (slice_get-get_or xs i x lt ∙ ap Some (ap (λ (j : ℕ). slice_index_or xs j x) (sym q) ∙ r.2))
      | inr other ↦ inl (from_contains (slice_set xs i y) x (
        r.0,
        (let k = r.1 in let n = length-set xs i y in omega arith),
        get_or-set_other xs i r.0 y x other ∙ r.2,
      ))
    ]

pub from_set : {X : Type 0} (xs : List X) (i : ℕ) (y x : X) → IsIn x (slice_set xs i y) → IsIn x xs ⊎ (x ≡ y)
from_set {X} xs i y x h =
    let r = place_of (slice_set xs i y) x x h in
    let lt : r.0 < length xs = (let k = r.1 in let n = length-set xs i y in omega arith) in
    elim (same_or_not r.0 i) [
      | inl q ↦ inr (sym r.2 ∙ ap (λ (j : ℕ). slice_index_or (slice_set xs i y) j x) q
          ∙ get_or-set_same xs i y x (omega arith))
      | inr other ↦ inl (subst (λ (z : X). IsIn z xs) (sym (get_or-set_other xs i r.0 y x other) ∙ r.2)
          (in_at xs r.0 x lt))
    ]

from_take : {X : Type 0} (n : ℕ) (xs : List X) (x : X) → IsIn x (take n xs) → IsIn x xs
from_take zero [] x i = i
from_take zero (y ∷ ys) x i = absurd i
from_take (suc n) [] x i = i
from_take (suc n) (y ∷ ys) x (inl e) = inl e
from_take (suc n) (y ∷ ys) x (inr i) = inr (from_take n ys x i)

pub from_swap_remove : {X : Type 0} (xs : List X) (i : ℕ) (d x : X) → i < length xs → IsIn x (swap_remove xs i d) →
    IsIn x xs
from_swap_remove {X} xs i d x lt h =
    elim (from_set xs i (slice_index_or xs (length xs - 1) d) x
    (from_take (length xs - 1) (slice_set xs i (slice_index_or xs (length xs - 1) d)) x h)) [
      | inl j ↦ j
      | inr last ↦ subst (λ (z : X). IsIn z xs) (sym last) (in_at xs (length xs - 1) d (omega arith))
    ]

-- ---- one item more
pub get_more : {X : Type 0} (xs : List X) (x y : X) (k : ℕ) → slice_get (xs ++ x ∷ []) k ≡ Some y →
    (slice_get xs k ≡ Some y) ⊎ (y ≡ x)
get_more [] x y zero at = inr (sym (same_some at))
get_more [] x y (suc k) at = absurd cc
get_more (z ∷ zs) x y zero at = inl at
get_more (z ∷ zs) x y (suc k) at = get_more zs x y k at

pub one_more : {X : Type 0} (old row : List X) (m : X) → row ≡ old ++ m ∷ [] → (x : X) → IsIn x row →
    IsIn x old ⊎ (x ≡ m)
one_more old row m q x i = elim (from_append old (m ∷ []) x (subst (IsIn x) q i)) [
  | inl before ↦ inl before
  | inr last ↦ elim last [ inl is ↦ inr is | inr none ↦ absurd none ]
]

-- ---- places
pub in_from_get : {X : Type 0} (xs : List X) (i : ℕ) (x : X) → slice_get xs i ≡ Some x → IsIn x xs
in_from_get {X} xs i x is = subst (λ (y : X). IsIn y xs) (get_or_from_slice_get xs i x x is)
    (in_at xs i x (slice_get_within xs i x is))

pub length_of_taken : {X : Type 0} (xs ys : List X) (i : ℕ) → i < length xs → take i ys ≡ take i xs → i ≤ length ys
length_of_taken xs ys i lt q =
    let e : length (take i ys) ≡ length (take i xs) = ap length q in
    let n = length-take i xs in
    let m = length-take i ys in
    omega arith
