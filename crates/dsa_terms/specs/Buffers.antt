-- Buffers, and the moments at which they are live.
use Rattle.std.specs.Prelude.{◌≡◌, ℕ, ◌≤◌, ◌<◌, Bool, true, false, not, ◌&&◌, ◌||◌, nat_lt, nat_le, List, slice_index_or, zero, suc, max, []}
use Rattle.std.specs.Bool.{beq}
use Rattle.std.specs.List.{All, list_any}
use Rattle.std.specs.Int.{next_multiple_of}

-- a buffer by its numbers: its lifetime and each gap (a, b) go from a up to and not including b, and its offset may not
-- be below `lowest`
pub record Buffer : Type 0 where
  pub lower : ℕ
  pub upper : ℕ
  pub size : ℕ
  pub alignment : ℕ
  pub gaps : List (ℕ × ℕ)
  pub lowest : ℕ

-- an instance is a list of buffers, and a buffer's number is its place
abbrev pub Instance : Type 0
Instance = List Buffer

-- moment t lies in the gap
abbrev pub is_within : ℕ → ℕ × ℕ → Bool
is_within t gap = nat_le gap.0 t && nat_lt t gap.1

-- b is live at t: its lifetime holds t, and none of its gaps does
unfoldable pub is_live : Buffer → ℕ → Bool
is_live b t = nat_le b.lower t && nat_lt t b.upper && not (list_any (is_within t) b.gaps)

-- is_live, as a fact
abbrev pub IsLive : Buffer → ℕ → Type 0
IsLive b t = is_live b t ≡ true

-- b and c are both live at some moment
abbrev pub Share : Buffer → Buffer → Type 0
Share b c = (t : ℕ) × IsLive b t × IsLive c t

-- some moment before n passes the test
unfoldable pub some_before : ℕ → (ℕ → Bool) → Bool
some_before zero test = false
some_before (suc n) test = test n || some_before n test

-- whether b and c share a moment; one that they share is before b's upper
unfoldable pub do_share : Buffer → Buffer → Bool
do_share b c = some_before b.upper (λ t. is_live b t && is_live c t)

-- b and c are live at the same moments
abbrev pub HaveSameMoments : Buffer → Buffer → Type 0
HaveSameMoments b c = (t : ℕ) → is_live b t ≡ is_live c t

-- whether b and c are live at the same moments; a moment that tells them apart is before the upper of one of them
unfoldable pub have_same_moments : Buffer → Buffer → Bool
have_same_moments b c = not (some_before (max b.upper c.upper) (λ t. not (beq (is_live b t) (is_live c t))))

-- what stands at a number that is no buffer's: live at no moment
abbrev pub no_buffer : Buffer
no_buffer = record { lower = 0; upper = 0; size = 1; alignment = 1; gaps = []; lowest = 0 }

-- the buffer of a number
unfoldable pub buffer : Instance → ℕ → Buffer
buffer I b = slice_index_or I b no_buffer

-- the least offset that b may have: the least multiple of its alignment at or above its lowest
unfoldable pub floor : Buffer → ℕ
floor b = next_multiple_of b.lowest b.alignment

-- a buffer has a size, an alignment and a lifetime, each of at least 1
abbrev pub IsSound : Buffer → Type 0
IsSound b = (1 ≤ b.size) × (1 ≤ b.alignment) × (b.lower < b.upper)

-- each buffer of the instance is sound
abbrev pub IsInstance : Instance → Type 0
IsInstance I = All IsSound I
