-- The numbers that an instance is made of.
use Rattle.std.specs.Prelude.{ℕ, zero, suc, ◌+◌, ◌*◌, ◌%◌}

-- the generator's state at first
abbrev pub first_state : ℕ → ℕ
first_state seed = 1 + seed % 2147483646

-- the state after a state
abbrev pub next_state : ℕ → ℕ
next_state x = x * 48271 % 2147483647

-- the state after n draws
unfoldable pub state_at : ℕ → ℕ → ℕ
state_at seed zero = first_state seed
state_at seed (suc n) = next_state (state_at seed n)

-- the draw of number n, counted from 1, where it is drawn below m
abbrev pub draw : ℕ → ℕ → ℕ → ℕ
draw seed n m = state_at seed n % m
