-- Numbers in decimal, of any size.
use Rattle.std.specs.Prelude.{ℕ, ◌+◌, ◌==◌, cond, List, [], ◌∷◌, map}
use Rattle.std.specs.Int.Digits.{digits_of}

-- the number in decimal, without leading zeros
unfoldable pub numeral : ℕ → List ℕ
numeral n = cond (n == 0) (48 ∷ []) (map (λ d. 48 + d) (digits_of 10 n))
