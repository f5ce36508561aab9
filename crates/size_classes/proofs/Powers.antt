-- The class of a size.
use Rattle.std.proofs.Common.{◌≡◌, ℕ, zero, suc, ◌+◌, ◌*◌, ◌^◌, ◌<◌, ◌≤◌, inl, inr, Bool, true, false, nat_le, slice_index_or, sym, ap, ◌∙◌, arith}
use Rattle.std.proofs.Math.Nat.{pow-succ'}
use Rattle.std.proofs.lemmas.List.FromFn.{get_or-range_with_len, length-range_with_len}
use Rattle.std.proofs.lemmas.List.Sums.{fails_before_first, passes_at_first, prefix_len-le-length}
use Rattle.std.specs.Prelude.{not}
use Rattle.dsa_terms.specs.Parts.{numbers}
use Rattle.dsa_terms.proofs.NumberTests.{at_most, below_or_from, is_at_most}
use Rattle.size_classes.specs.Classes.{class_of}

power_above : (n : ℕ) → n + 1 ≤ 2 ^ n
power_above zero = omega arith
power_above (suc n) =
    let ih = power_above n in
    let e : 2 ^ suc n ≡ 2 * 2 ^ n = pow-succ' 2 n in omega arith

abbrev reaches : ℕ → ℕ → Bool
reaches size k = nat_le size (2 ^ k)

number_at : (n k : ℕ) → k < n → slice_index_or (numbers n) k 0 ≡ k
number_at n k lt = get_or-range_with_len 0 n k 0 lt ∙ zero_plus k
  where
    zero_plus : (k : ℕ) → 0 + k ≡ k
    zero_plus k = omega arith

class_small : (size : ℕ) → class_of size ≤ size
unfolding class_of
class_small size =
    let k = prefix_len-le-length (λ k. not (reaches size k)) (numbers size) in
    let e = length-range_with_len 0 size in omega arith

fails_below : (size k : ℕ) → k < class_of size → reaches size k ≡ false
unfolding class_of
fails_below size k lt =
    let f = fails_before_first (reaches size) (numbers size) k 0 lt in
    ap (reaches size) (sym (number_at size k (inside (class_small size)))) ∙ f
  where
    inside : class_of size ≤ size → k < size
    inside le = omega arith

pub class_least : (size k : ℕ) → size ≤ 2 ^ k → class_of size ≤ k
class_least size k le = elim (below_or_from k (class_of size)) [
  | inl lt ↦ absurd (let f = fails_below size k lt in let t = is_at_most size (2 ^ k) le in
      let z : true ≡ false = sym t ∙ f in cc)
  | inr ge ↦ ge
]

passes_there : (size : ℕ) → class_of size < size → reaches size (class_of size) ≡ true
unfolding class_of
passes_there size lt =
    let e = length-range_with_len 0 size in
    let t = passes_at_first (reaches size) (numbers size) 0 (omega arith) in
    ap (reaches size) (sym (number_at size (class_of size) lt)) ∙ t

pub size_fits : (size : ℕ) → size ≤ 2 ^ class_of size
size_fits zero = omega arith
size_fits (suc n) =
    let below = class_least (suc n) n (let p = power_above n in omega arith) in
    at_most (suc n) (2 ^ class_of (suc n)) (passes_there (suc n) (omega arith))
