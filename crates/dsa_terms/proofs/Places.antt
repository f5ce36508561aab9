-- Items of lists by their place, and membership as std has it.
use Rattle.std.proofs.Common.{◌≡◌, ℕ, zero, suc, ◌<◌, inl, inr, List, [], ◌∷◌, ◌++◌, map, length, take, slice_get, slice_index_or, Some, refl, sym, ap, subst, arith}
use Rattle.std.specs.List.{All, AllPairs, Contains}
use Rattle.std.specs.List.Sorted.{IsPermutation, IsStrictlyIncreasing}
use Rattle.std.proofs.lemmas.List.Kept.{AllPairs-from_increasing}
use Rattle.std.proofs.lemmas.List.Sorted.{Contains-permutation}
use Rattle.dsa_terms.specs.Claims.{IsIn, Rises}

-- the item does not hang on what is answered past the end
pub any_default : {X : Type 0} (xs : List X) (k : ℕ) (d e : X) → k < length xs →
    slice_index_or xs k d ≡ slice_index_or xs k e
any_default [] k d e lt = absurd (omega arith)
any_default (x ∷ xs) zero d e lt = refl
any_default (x ∷ xs) (suc k) d e lt = any_default xs k d e (omega arith)

pub place_of : {X : Type 0} (xs : List X) (x d : X) → IsIn x xs →
    (k : ℕ) × (k < length xs) × (slice_index_or xs k d ≡ x)
place_of [] x d i = absurd i
place_of (y ∷ ys) x d (inl e) = (0, omega arith, sym e)
place_of (y ∷ ys) x d (inr i) = let r = place_of ys x d i in (suc r.0, (let k = r.1 in omega arith), r.2)

pub in_at : {X : Type 0} (xs : List X) (k : ℕ) (d : X) → k < length xs → IsIn (slice_index_or xs k d) xs
in_at [] k d lt = absurd (omega arith)
in_at (y ∷ ys) zero d lt = inl refl
in_at (y ∷ ys) (suc k) d lt = inr (in_at ys k d (omega arith))

-- ---- a fact of each item
pub all_from_in : {X : Type 0} (P : X → Type 0) (xs : List X) → ((x : X) → IsIn x xs → P x) → All P xs
all_from_in P xs h = λ k d lt. h (slice_index_or xs k d) (in_at xs k d lt)

pub in_from_all : {X : Type 0} (P : X → Type 0) (xs : List X) → All P xs → (x : X) → IsIn x xs → P x
in_from_all P xs h x i = let r = place_of xs x x i in subst P r.2 (h r.0 x r.1)

-- ---- membership as std has it
pub to_contains : {X : Type 0} (xs : List X) (x : X) → IsIn x xs → Contains xs x
to_contains xs x i = place_of xs x x i

pub from_contains : {X : Type 0} (xs : List X) (x : X) → Contains xs x → IsIn x xs
from_contains {X} xs x h = subst (λ (y : X). IsIn y xs) h.2 (in_at xs h.0 x h.1)

-- ---- lists that rise
rises_from_pairs : (xs : List ℕ) → AllPairs (λ x y. x < y) xs → Rises xs
rises_from_pairs [] h = tt
rises_from_pairs (x ∷ xs) h = (
  first,
  rises_from_pairs xs
      (λ i j d lt jn. h (suc i) (suc j) d (omega arith) (omega arith)),
)
  where
    first : (y : ℕ) → IsIn y xs → x < y
    first y i =
        let r = to_contains xs y i in
        let k : x < slice_index_or xs r.0 y = h 0 (suc r.0) y (omega arith) (let z = r.1 in omega arith) in
        rw r.2 at k

pub rises_from_increasing : (xs : List ℕ) → IsStrictlyIncreasing xs → Rises xs
rises_from_increasing xs h = rises_from_pairs xs (AllPairs-from_increasing xs h)

pub in_permutation : {X : Type 0} (xs ys : List X) (x : X) → IsPermutation xs ys → IsIn x xs → IsIn x ys
in_permutation xs ys x p i = from_contains ys x (Contains-permutation xs ys x p (to_contains xs x i))

-- a slice that was lent and given back
pub handed : {X : Type 0} (xs ys : List X) (n : ℕ) → length xs ≡ n → take n (xs ++ ys) ≡ xs
handed [] ys n e = rw (← e) refl
handed (x ∷ xs) ys zero e = absurd (omega arith)
handed (x ∷ xs) ys (suc n) e = ap (λ zs. x ∷ zs) (handed xs ys n (omega arith))

pub get_map : {X Y : Type 0} (f : X → Y) (xs : List X) (k : ℕ) (x : X) → slice_get xs k ≡ Some x →
    slice_get (map f xs) k ≡ Some (f x)
get_map f [] k x h = absurd cc
get_map f (y ∷ ys) zero x h = let e : y ≡ x = cc in ap (λ y. Some (f y)) e
get_map f (y ∷ ys) (suc k) x h = get_map f ys k x h
