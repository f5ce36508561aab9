-- First answers of several.
use Rattle.std.proofs.Common.{◌≡◌, ℕ, zero, suc, ◌+◌, ◌<◌, [], ◌∷◌, Option, Some, None, refl, arith}
use Rattle.std.specs.Option.{option_or}
use Rattle.std.specs.List.{range_with_len}
use Rattle.dsa_terms.specs.Firsts.{first_fault}
use Rattle.dsa_terms.specs.Search.{first_some}
use Rattle.dsa_model.proofs.Faults.{neither}

-- where neither of the first two is a fault, the third is the first
pub third : {F : Type 0} (a b c : Option F) → first_fault (a ∷ b ∷ []) ≡ None → first_fault (a ∷ b ∷ c ∷ []) ≡ c
third (Some x) b c h = absurd cc
third None (Some x) c h = absurd cc
third None None None h = refl
third None None (Some x) h = refl

pub none_of_two : {F : Type 0} (a b : Option F) → first_fault (a ∷ b ∷ []) ≡ None → (a ≡ None) × (b ≡ None)
none_of_two a b h = let q = neither a (option_or b None) h in (q.0, (neither b None q.1).0)

pub none_of_three : {F : Type 0} (a b c : Option F) → a ≡ None → b ≡ None → c ≡ None →
    first_fault (a ∷ b ∷ c ∷ []) ≡ None
none_of_three (Some x) b c h k m = absurd cc
none_of_three None (Some x) c h k m = absurd cc
none_of_three None None (Some x) h k m = absurd cc
none_of_three None None None h k m = refl

-- no number has an answer
pub none_from : {Y : Type 0} (f : ℕ → Option Y) (n m : ℕ) → ((k : ℕ) → k < n + m → f k ≡ None) →
    first_some f (range_with_len n m) ≡ None
none_from f n zero h = refl
none_from f n (suc m) h = rw (h n (omega arith)) (none_from f (n + 1) m (λ k lt. h k (omega arith)))
