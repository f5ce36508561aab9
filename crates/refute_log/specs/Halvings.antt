-- The units that halving a bracket can take.
use Rattle.std.specs.Prelude.{ℕ, zero, suc, ◌+◌, ◌-◌, ◌/◌, cond, nat_le, min, Option}
use Rattle.std.specs.declared.option.Option.TheVariants.{Some, None}

-- what is left after the turn at m: none raises the lower end past m; a height lowers the upper end to it, or to m
-- where it is greater
abbrev pub after_turn : (ℕ → ℕ → ℕ) → ℕ → ℕ → ℕ → Option ℕ → ℕ
after_turn halve_on a b m None = halve_on (m + 1) b
after_turn halve_on a b m (Some t) = halve_on a (min t m)

-- the most units for a bracket a, b of that length at most
abbrev pub halving_within : ℕ → (ℕ → ℕ) → (ℕ → Option ℕ) → ℕ → ℕ → ℕ
halving_within zero most turn a b = 0
halving_within (suc k) most turn a b =
    cond (nat_le b a) 0
    (most ((a + b) / 2) + after_turn (halving_within k most turn) a b ((a + b) / 2) (turn ((a + b) / 2)))

-- the most units that halving the bracket a, b can take, where one capacity takes `most` and turns out as `turn` says
unfoldable pub halving : (ℕ → ℕ) → (ℕ → Option ℕ) → ℕ → ℕ → ℕ
halving most turn a b = halving_within (b - a) most turn a b
