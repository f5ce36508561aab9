-- Sums of the first counts.
use Rattle.std.proofs.Common.{◌≡◌, ◌+◌, ◌-◌, ◌<◌, ◌≤◌, ◌==◌, inl, inr, ℕ, false, List, sum, take, length, slice_index, ap, arith}
use Rattle.std.proofs.lemmas.Bool.Decides.{nat_tests}
use Rattle.std.proofs.lemmas.List.{get_or_past, take_all}
use Rattle.std.proofs.lemmas.List.Sums.{sum_by-take-le, sum_by_more}
use Rattle.planner.proofs.Choosing.{le_or_lt}

-- all of them
pub sum_take_all : (xs : List ℕ) (i : ℕ) → length xs ≤ i → sum (take i xs) ≡ sum xs
sum_take_all xs i le = ap sum (take_all i xs le)

-- one more
pub sum_take_more : (xs : List ℕ) (i : ℕ) → sum (take (i + 1) xs) ≡ sum (take i xs) + slice_index xs i
sum_take_more xs i = elim (le_or_lt (length xs) i) [
  | inl le ↦ (
      let here = sum_take_all xs i le in
      let after = sum_take_all xs (i + 1) (omega arith) in
      let none = get_or_past xs i 0 le in
      omega arith
      )
  | inr lt ↦ sum_by_more (λ x. x) xs i 0 lt
]

-- the first ones with one more are no more than all
pub sum_more_within : (xs : List ℕ) (i : ℕ) → sum (take i xs) + slice_index xs i ≤ sum xs
sum_more_within xs i =
    let e = sum_take_more xs i in let h = sum_by-take-le (λ x. x) xs (i + 1) in omega arith

-- ---- whether counts add up to n, of which k are left after the first ones
too_much : (m n : ℕ) → n < m → false ≡ (m == n)
too_much m n h = grind (arith, nat_tests)

pub too_many : (xs : List ℕ) (i k n x : ℕ) → sum (take i xs) + k ≡ n → x ≡ slice_index xs i → k < x →
    false ≡ (sum xs == n)
too_many xs i k n x h e lt = too_much (sum xs) n (let z = sum_more_within xs i in omega arith)

none_left : (k m n : ℕ) → m + k ≡ n → (k == 0) ≡ (m == n)
none_left k m n h = grind (arith, nat_tests)

pub all_counted : (xs : List ℕ) (i k n : ℕ) → length xs ≤ i → sum (take i xs) + k ≡ n → (k == 0) ≡ (sum xs == n)
all_counted xs i k n le h = none_left k (sum xs) n (let e = sum_take_all xs i le in omega arith)

pub counted_more : (xs : List ℕ) (i k n x : ℕ) → sum (take i xs) + k ≡ n → x ≡ slice_index xs i → x ≤ k →
    sum (take (i + 1) xs) + (k - x) ≡ n
counted_more xs i k n x h e le = let f = sum_take_more xs i in omega arith
