-- Units of a budget.
use Rattle.std.specs.Prelude.{◌≡◌, ℕ, ◌+◌, ◌<◌, ◌≤◌, ⊤, cond, Option, is_some, MatchOption}

-- how many units there are, if there is a number, and how many of them are used
pub record Units : Type 0 where
  pub most : Option ℕ
  pub used : ℕ

-- no more are used than there are, and where there is no number, none is counted
abbrev pub AreWithin : Units → Type 0
AreWithin u = MatchOption u.most (u.used ≡ 0) (λ k. u.used ≤ k)

-- there is no number, or not all of them are used
abbrev pub HasUnit : Units → Type 0
HasUnit u = MatchOption u.most ⊤ (λ k. u.used < k)

-- there is a number, and all of them are used
abbrev pub AreSpent : Units → Type 0
AreSpent u = MatchOption u.most ⊥ (λ k. u.used ≡ k)

-- how many units are counted for so many that are taken
abbrev pub units_counted : Option ℕ → ℕ → ℕ
units_counted most n = cond (is_some most) n 0

-- at least one more is used, where there is a number
abbrev pub AreMore : Units → Units → Type 0
AreMore before after = before.used + units_counted before.most 1 ≤ after.used

-- at least n more are used, where there is a number
abbrev pub AreMoreBy : ℕ → Units → Units → Type 0
AreMoreBy n before after = before.used + units_counted before.most n ≤ after.used

-- a count goes from m to n at most by the units that are used, where there is a number
abbrev pub AreCounted : Units → Units → ℕ → ℕ → Type 0
AreCounted before after m n = before.used + units_counted before.most n ≤ after.used + units_counted before.most m
