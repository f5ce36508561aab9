-- The buffers by falling floor, and those of them that come first.
use Rattle.std.proofs.Common.{◌≡◌, ◌^◌, ℕ, zero, suc, ◌+◌, ◌-◌, ◌<◌, ◌≤◌, inl, inr, List, [], ◌∷◌, ◌++◌, length, map, take, slice_index_or, sym, refl, ap, ◌∙◌, arith}
use Rattle.std.specs.List.{All}
use Rattle.std.specs.List.Sorted.{IsNonDecreasingBy, IsPermutation}
use Rattle.std.proofs.lemmas.List.{get_or-map, length-map}
use Rattle.std.proofs.lemmas.List.FromFn.{length-range_with_len, map-range_with_len_more}
use Rattle.std.proofs.lemmas.List.Sorted.{IsPermutation-map, IsPermutation-sym, length_permutation}
use Rattle.dsa_terms.specs.Buffers.{Buffer, Instance, buffer, floor}
use Rattle.dsa_terms.specs.Claims.{IsIn}
use Rattle.dsa_terms.specs.Parts.{numbers}
use Rattle.dsa_terms.proofs.Lists.{from_map}
use Rattle.dsa_terms.proofs.Numbers.{next_is_below}
use Rattle.dsa_terms.proofs.Places.{in_at, in_permutation}
use Rattle.dsa_terms.proofs.Ranges.{below}
use Rattle.dsa_model.specs.Buffer.{IsBuffer}
use Rattle.dsa_model.proofs.Instances.{sound_buffer}
use Rattle.lower_bounds.specs.Stacks.{IsFalling}

-- ---- what an order has
pub order_below : (I : Instance) (order : List ℕ) (b : ℕ) → IsFalling I order → IsIn b order → b < length I
order_below I order b h i = below (length I) b
    (in_permutation order (numbers (length I)) b (IsPermutation-sym (numbers (length I)) order h.all) i)

pub length-order : (I : Instance) (order : List ℕ) → IsFalling I order → length order ≡ length I
length-order I order h = length_permutation (numbers (length I)) order h.all ∙ length-range_with_len 0 (length I)

-- ---- those that come first
pub from_take : (xs : List ℕ) (k x : ℕ) → IsIn x (take k xs) →
    (i : ℕ) × (i < k) × (i < length xs) × (slice_index_or xs i 0 ≡ x)
from_take [] zero x i = absurd i
from_take [] (suc k) x i = absurd i
from_take (y ∷ ys) zero x i = absurd i
from_take (y ∷ ys) (suc k) x (inl q) = (0, omega arith, omega arith, sym q)
from_take (y ∷ ys) (suc k) x (inr i) = let r = from_take ys k x i in
    (suc r.0, omega (arith, r.1), omega (arith, r.2), r.3)

pub in_take : (xs : List ℕ) (k x : ℕ) → IsIn x (take k xs) → IsIn x xs
in_take xs k x i = let r = from_take xs k x i in rw (← r.3) (in_at xs r.0 0 r.2)

pub taken_fall : (I : Instance) (order : List ℕ) (k : ℕ) → IsFalling I order → k < length order → (c : ℕ) →
    IsIn c (take k order) → floor (buffer I (slice_index_or order k 0)) ≤ floor (buffer I c)
taken_fall I order k h lt c i =
    let r = from_take order k c i in
    let f = h.falls r.0 k 0 r.1 lt in
    let e : floor (buffer I (slice_index_or order r.0 0)) ≡ floor (buffer I c) = ap (λ b. floor (buffer I b)) r.3 in
    omega arith

-- ---- sorted by what the floor lacks of a greatest number
pub floor_limit : (b : Buffer) → IsBuffer b → floor b ≤ 2 ^ 41
unfolding floor
floor_limit b h =
    let k = next_is_below b.lowest b.alignment h.sound.1 in
    let l = h.within_lowest in
    let a = h.within_alignment in
    omega arith

-- a buffer's key before its number
abbrev pub keyed : Instance → ℕ → ℕ × ℕ
keyed I b = (2 ^ 64 - 1 - floor (buffer I b), b)

pub keyed_more : (I : Instance) (b : ℕ) (xs ys : List (ℕ × ℕ)) (k f : ℕ) (x : Buffer) →
    xs ≡ map (keyed I) (numbers b) → x ≡ buffer I b → f ≡ floor x → k ≡ 2 ^ 64 - 1 - f → ys ≡ xs ++ (k, b) ∷ [] →
    ys ≡ map (keyed I) (numbers (b + 1))
keyed_more I b xs ys k f x e g h r q =
    let m = map-range_with_len_more (keyed I) 0 b b (omega arith) in
    let z : k ≡ 2 ^ 64 - 1 - floor (buffer I b) = r ∙ ap (λ n. 2 ^ 64 - 1 - n) (h ∙ ap floor g) in
    q ∙ rw (e, z) (sym m)

numbers_of_keyed : (I : Instance) (bs : List ℕ) → map (λ (e : ℕ × ℕ). e.1) (map (keyed I) bs) ≡ bs
numbers_of_keyed I [] = refl
numbers_of_keyed I (b ∷ bs) = ap (λ (xs : List ℕ). b ∷ xs) (numbers_of_keyed I bs)

pub falls_sorted : (I : Instance) (n : ℕ) (xs ys : List (ℕ × ℕ)) → All IsBuffer I → n ≡ length I →
    xs ≡ map (keyed I) (numbers n) → IsPermutation xs ys → IsNonDecreasingBy (λ (e : ℕ × ℕ). e.0) ys →
    IsFalling I (map (λ (e : ℕ × ℕ). e.1) ys)
falls_sorted I n xs ys buffers m e moved up = record { all = all; falls = falls }
  where
    is : xs ≡ map (keyed I) (numbers (length I))
    is = rw (← m) e

    all : IsPermutation (numbers (length I)) (map (λ (e : ℕ × ℕ). e.1) ys)
    all = rw (is, numbers_of_keyed I (numbers (length I))) at (IsPermutation-map (λ (e : ℕ × ℕ). e.1) xs ys moved)

    none : ℕ × ℕ
    none = (0, 0)

    key : (i : ℕ) → i < length ys → (slice_index_or ys i none).0 + floor (buffer I (slice_index_or ys i none).1)
        ≡ 2 ^ 64 - 1
    key i lt =
        let r = from_map (keyed I) (numbers (length I)) (slice_index_or ys i none)
        (rw is at (in_permutation ys xs (slice_index_or ys i none) (IsPermutation-sym xs ys moved)
        (in_at ys i none lt))) in
        let l = floor_limit (buffer I r.0) (sound_buffer I r.0 buffers (below (length I) r.0 r.1)) in
        rw r.2 (omega arith)

    at : (i d : ℕ) → i < length ys → slice_index_or (map (λ (e : ℕ × ℕ). e.1) ys) i d ≡ (slice_index_or ys i none).1
    at i d lt = get_or-map (λ (e : ℕ × ℕ). e.1) ys i none d lt

    falls : (i j d : ℕ) → i < j → j < length (map (λ (e : ℕ × ℕ). e.1) ys) →
        floor (buffer I (slice_index_or (map (λ (e : ℕ × ℕ). e.1) ys) j d))
        ≤ floor (buffer I (slice_index_or (map (λ (e : ℕ × ℕ). e.1) ys) i d))
    falls i j d lt jn =
        let l : j < length ys = (let k = length-map ys (λ (e : ℕ × ℕ). e.1) in omega arith) in
        let x = key i (omega arith) in
        let y = key j l in
        let u = up i j none (omega arith) l in
        rw (at j d l, at i d (omega arith)) (omega arith)
