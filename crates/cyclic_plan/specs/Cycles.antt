-- Lifetimes on a circle: moments that repeat with a period, and layouts for every moment of endless time.
use Rattle.std.specs.Prelude.{◌≡◌, ◌≢◌, ℕ, ◌+◌, ◌%◌, ◌<◌, ◌≤◌, Bool, true, not, cond, ◌&&◌, ◌||◌, nat_lt, nat_le, List, [], ◌∷◌, ◌++◌, length, slice_index}
use Rattle.std.specs.List.{list_any}
use Rattle.dsa_terms.specs.Buffers.{Buffer, buffer, is_within}
use Rattle.dsa_terms.specs.Layouts.{IsMultiple, IsApart}

-- the lifetime of b wraps round the end of the period
abbrev pub does_wrap : Buffer → Bool
does_wrap b = nat_lt b.upper b.lower

-- the lifetime of b, which wraps round the end of the period where lower is above upper, holds moment r of a period
unfoldable pub lasts_at : Buffer → ℕ → Bool
lasts_at b r =
    cond (does_wrap b) (nat_le b.lower r || nat_lt r b.upper) (nat_le b.lower r && nat_lt r b.upper)

-- b holds its storage at moment t of endless time, which repeats with period P
unfoldable pub is_live_round : ℕ → Buffer → ℕ → Bool
is_live_round P b t = lasts_at b (t % P) && not (list_any (is_within (t % P)) b.gaps)

-- is_live_round, as a fact
abbrev pub IsLiveRound : ℕ → Buffer → ℕ → Type 0
IsLiveRound P b t = is_live_round P b t ≡ true

-- a layout of rows that repeat with period P: aligned, at or above lowest, within C, and any two rows apart at each
-- moment of endless time at which both are live
pub record IsCycleLayout (P C : ℕ) (rows : List Buffer) (offsets : List ℕ) : Type 0 where
  pub count : length offsets ≡ length rows
  pub aligned : (b : ℕ) → b < length rows → IsMultiple (slice_index offsets b) (buffer rows b).alignment
  pub above : (b : ℕ) → b < length rows → (buffer rows b).lowest ≤ slice_index offsets b
  pub within : (b : ℕ) → b < length rows → slice_index offsets b + (buffer rows b).size ≤ C
  pub apart : (b c t : ℕ) → b < length rows → c < length rows → b ≢ c →
      IsLiveRound P (buffer rows b) t → IsLiveRound P (buffer rows c) t →
      IsApart (buffer rows b) (slice_index offsets b) (buffer rows c) (slice_index offsets c)

-- the buffer that a row becomes in one period: where it wraps, the whole period with a gap between its end and its
-- beginning, and else itself
unfoldable pub unrolled : ℕ → Buffer → Buffer
unrolled P b =
    cond (does_wrap b) (record b { lower = 0; upper = P; gaps = b.gaps ++ (b.upper, b.lower) ∷ [] }) b

-- the row lies within one period
abbrev pub IsInPeriod : ℕ → Buffer → Type 0
IsInPeriod P b = (b.lower < P) × (b.upper ≤ P)
