-- Where each number below the length stands in a list, each stands there once.
use Rattle.std.proofs.Common.{◌≡◌, ◌≢◌, ℕ, ◌+◌, ◌<◌, ◌⊎◌, inl, inr, Bool, true, false, ◌==◌, List, length, slice_index_or, refl, sym, ap, ◌∙◌, subst, arith}
use Rattle.std.specs.Cmp.{nat_eq_equiv}
use Rattle.std.specs.List.{All, IsDistinct}
use Rattle.std.specs.Set.{is_member}
use Rattle.std.proofs.lemmas.List.FromFn.{get_or-range_with_len, length-range_with_len}
use Rattle.std.proofs.lemmas.List.Sums.{position_or_len_is}
use Rattle.std.proofs.lemmas.Map.Keys.{IsDistinct-from_apart, apart_from_distinct}
use Rattle.std.proofs.lemmas.Map.Made.{IsDistinct-from_count, length-from_keys}
use Rattle.dsa_terms.specs.Buffers.{Instance}
use Rattle.dsa_terms.specs.Claims.{IsIn}
use Rattle.dsa_terms.specs.Parts.{numbers}
use Rattle.dsa_terms.proofs.Lists.{any_from, any_gives}
use Rattle.dsa_terms.proofs.NumberTests.{apart, differ, equal, same}
use Rattle.dsa_terms.proofs.Places.{in_from_all, place_of}
use Rattle.dsa_terms.proofs.Ranges.{among, below}
use Rattle.first_fit.specs.Rules.{IsOrderOf}
use Rattle.row_orders.specs.Carried.{HasEachOnce, place_in}

pub once_of : (I : Instance) (order : List ℕ) → IsOrderOf I order → HasEachOnce order
once_of I order o = record {
  in_range = subst (λ (n : ℕ). All (λ b. b < n) order) (sym o.count) o.in_range;
  each = λ b lt. o.each b (rw (← o.count) lt);
}

-- ---- no two are equal
same_bool : (a b : Bool) → (a ≡ true → b ≡ true) → (b ≡ true → a ≡ true) → a ≡ b
same_bool true b f g = sym (f refl)
same_bool false true f g = g refl
same_bool false false f g = refl

into_member : (xs : List ℕ) (q : ℕ) → IsIn q xs → is_member (λ (m n : ℕ). m == n) xs q ≡ true
into_member xs q i = any_from (λ j. q == j) xs q i (same q q refl)

from_member : (xs : List ℕ) (q : ℕ) → is_member (λ (m n : ℕ). m == n) xs q ≡ true → IsIn q xs
from_member xs q h = let r = any_gives (λ j. q == j) xs h in subst (λ (j : ℕ). IsIn j xs) (sym (equal q r.0 r.2)) r.1

pub numbers_distinct : (n : ℕ) → IsDistinct (λ (i j : ℕ). i == j) (numbers n)
numbers_distinct n = IsDistinct-from_apart (λ (i j : ℕ). i == j) (numbers n) (λ i j d lt within.
    let long = length-range_with_len 0 n in
    let a : slice_index_or (numbers n) i d ≡ 0 + i = get_or-range_with_len 0 n i d (omega arith) in
    let b : slice_index_or (numbers n) j d ≡ 0 + j = get_or-range_with_len 0 n j d (omega arith) in
    apart (slice_index_or (numbers n) i d) (slice_index_or (numbers n) j d) (λ q. omega arith))

pub once_distinct : (xs : List ℕ) → HasEachOnce xs → IsDistinct (λ (i j : ℕ). i == j) xs
once_distinct xs h =
    IsDistinct-from_count nat_eq_equiv xs
    (sym (length-from_keys nat_eq_equiv (numbers (length xs)) xs (numbers_distinct (length xs)) members)
    ∙ length-range_with_len 0 (length xs))
  where
    members : (q : ℕ) →
        is_member (λ (i j : ℕ). i == j) (numbers (length xs)) q ≡ is_member (λ (i j : ℕ). i == j) xs q
    members q = same_bool (is_member (λ (i j : ℕ). i == j) (numbers (length xs)) q)
        (is_member (λ (i j : ℕ). i == j) xs q)
        (λ t. into_member xs q (h.each q (below (length xs) q (from_member (numbers (length xs)) q t))))
        (λ t. into_member (numbers (length xs)) q
        (among (length xs) q (in_from_all (λ b. b < length xs) xs h.in_range q (from_member xs q t))))

pub places_differ : (xs : List ℕ) (i j : ℕ) → HasEachOnce xs → i < length xs → j < length xs → i ≢ j →
    slice_index_or xs i 0 ≢ slice_index_or xs j 0
places_differ xs i j h li lj ne e = go (cases i j ne)
  where
    cases : (i j : ℕ) → i ≢ j → (i < j) ⊎ (j < i)
    cases i j n = grind arith

    go : (i < j) ⊎ (j < i) → ⊥
    go (inl lt) = differ (slice_index_or xs i 0) (slice_index_or xs j 0)
        (apart_from_distinct (λ (m n : ℕ). m == n) xs i j 0 (once_distinct xs h) lt lj) e
    go (inr lt) = differ (slice_index_or xs j 0) (slice_index_or xs i 0)
        (apart_from_distinct (λ (m n : ℕ). m == n) xs j i 0 (once_distinct xs h) lt li) (sym e)

-- ---- the place of a number, and the number at a place
pub place_at : (xs : List ℕ) (i : ℕ) → HasEachOnce xs → i < length xs → place_in xs (slice_index_or xs i 0) ≡ i
unfolding place_in
place_at xs i h lt = position_or_len_is (λ c. c == slice_index_or xs i 0) xs i 0 (omega arith)
    (λ k less. apart (slice_index_or xs k 0) (slice_index_or xs i 0)
    (places_differ xs k i h (omega arith) lt (λ q. omega arith)))
    (λ l. same (slice_index_or xs i 0) (slice_index_or xs i 0) refl)

pub at_place : (xs : List ℕ) (b : ℕ) → HasEachOnce xs → b < length xs →
    (place_in xs b < length xs) × (slice_index_or xs (place_in xs b) 0 ≡ b)
at_place xs b h lt =
    let r = place_of xs b 0 (h.each b lt) in
    let e : place_in xs b ≡ r.0 = ap (place_in xs) (sym r.2) ∙ place_at xs r.0 h r.1 in
    (rw e r.1, rw e r.2)
