-- What makes an order of numbers.
use Rattle.std.specs.Prelude.{◌≡◌, ◌≢◌, true, ◌⊎◌, ℕ, Bool}

-- of two numbers just one comes before the other, none comes before itself, and what comes before the one comes before
-- the other too
pub record IsOrder (before : ℕ → ℕ → Bool) : Type 0 where
  pub total : (b c : ℕ) → b ≢ c → (before b c ≡ true) ⊎ (before c b ≡ true)
  pub one_way : (b c : ℕ) → before b c ≡ true → before c b ≡ true → ⊥
  pub along : (b c d : ℕ) → before b c ≡ true → before c d ≡ true → before b d ≡ true
