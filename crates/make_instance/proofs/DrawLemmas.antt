-- The states of the generator, one after another.
use Rattle.std.proofs.Common.{◌≡◌, ◌+◌, ◌*◌, ◌%◌, ℕ, suc, ◌∙◌, arith, refl}
use Rattle.make_instance.specs.Draws.{first_state, next_state, state_at}
use Rattle.make_instance.specs.Rows.{made_row, row_of}

-- at first nothing is drawn
pub state_first : (seed : ℕ) → first_state seed ≡ state_at seed (5 * 0)
unfolding state_at
state_first seed = refl

-- one more draw
state_next : (seed n m x : ℕ) → x ≡ state_at seed n → m ≡ suc n → next_state x ≡ state_at seed m
unfolding state_at
state_next seed n m x h e = rw (h, e) refl

-- five states after one another, at their numbers
pub record AreStates (seed i a b c d e : ℕ) : Type 0 where
  pub first : a ≡ state_at seed (5 * i + 1)
  pub second : b ≡ state_at seed (5 * i + 2)
  pub third : c ≡ state_at seed (5 * i + 3)
  pub fourth : d ≡ state_at seed (5 * i + 4)
  pub fifth : e ≡ state_at seed (5 * i + 5)

pub five_states : (seed i x a b c d e : ℕ) → x ≡ state_at seed (5 * i) → a ≡ next_state x → b ≡ next_state a
    → c ≡ next_state b → d ≡ next_state c → e ≡ next_state d → AreStates seed i a b c d e
five_states seed i x a b c d e hx ha hb hc hd he =
    let first = ha ∙ state_next seed (5 * i) (5 * i + 1) x hx (omega arith) in
    let second = hb ∙ state_next seed (5 * i + 1) (5 * i + 2) a first (omega arith) in
    let third = hc ∙ state_next seed (5 * i + 2) (5 * i + 3) b second (omega arith) in
    let fourth = hd ∙ state_next seed (5 * i + 3) (5 * i + 4) c third (omega arith) in
    let fifth = he ∙ state_next seed (5 * i + 4) (5 * i + 5) d fourth (omega arith) in
    record { first = first; second = second; third = third; fourth = fourth; fifth = fifth }

-- the row of five draws at these states
pub row_is : (seed count i a b c d e p q r s t : ℕ) → AreStates seed i a b c d e → p ≡ a % (2 * count) → q ≡ b % 16
    → r ≡ c % 64 → s ≡ d % 4 → t ≡ e % 4 → row_of p (1 + q) (1 + r) (1 + s) t ≡ made_row seed count i
unfolding made_row
row_is seed count i a b c d e p q r s t h hp hq hr hs ht =
    rw (hp, hq, hr, hs, ht, h.first, h.second, h.third, h.fourth, h.fifth) refl
