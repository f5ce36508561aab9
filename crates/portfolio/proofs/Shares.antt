-- How the units are shared by searches in turn.
use Rattle.std.proofs.Common.{◌≡◌, ℕ, ◌+◌, ◌-◌, ◌/◌, ◌≤◌, zero, suc, refl, arith}
use Rattle.portfolio.specs.Elsewhere.{left_after}

-- a search takes its share, and one fewer is to come
pub one_turn : (n p q left rest : ℕ) → 2 ≤ n → p ≡ n - 1 → q ≡ p - 1 → rest ≡ left - left / n →
    left_after p left ≡ left_after q rest
unfolding left_after
one_turn n zero q left rest le e f r = absurd (omega (arith, le, e))
one_turn n (suc k) q left rest le e f r =
    let a : n ≡ k + 2 = omega (arith, le, e) in
    let b : q ≡ k = omega (arith, f) in
    rw (b, r, a) refl

-- where one is to come, all the others are done
pub at_end : (n p count left limit : ℕ) → n ≡ 1 → p ≡ n - 1 → count ≡ 2 → left_after p left ≡ left_after count limit →
    left ≡ left_after 2 limit
unfolding left_after
at_end n zero count left limit e f two same = rw two at same
at_end n (suc k) count left limit e f two same = absurd (omega (arith, e, f))
