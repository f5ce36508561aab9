-- Sides, and the pairs of buffers that touch along them.
use Rattle.std.specs.Prelude.{◌≡◌, ℕ, ◌%◌, ◌<◌, ◌≤◌, ◌⊎◌, ◌==◌, ◌&&◌, ◌||◌, Bool, true, not, nat_lt, nat_le, max, min, List, length, map, slice_index, slice_index_or}
use Rattle.std.specs.List.{filter, list_any}
use Rattle.dsa_terms.specs.Buffers.{Instance, buffer}
use Rattle.dsa_terms.specs.Claims.{IsIn}
use Rattle.dsa_terms.specs.Parts.{numbers}
use Rattle.layout_picture.specs.Colours.{end_of, touch}
use Rattle.layout_picture.specs.declared.rectangle.Rectangle.{Rectangle}
use Rattle.layout_picture.specs.declared.side.Side.{Side}
use Rattle.layout_picture.specs.declared.touching.Pair.{Pair}

-- ---- sides
-- a side has some column or place
abbrev pub IsSide : Side → Type 0
IsSide s = s.from < s.to

-- the sides lie on one line, and some column or place is in both
pub record Meet (s t : Side) : Type 0 where
  pub line : s.line ≡ t.line
  pub begun : s.from < t.to
  pub not_ended : t.from < s.to

-- side t begins on side s
abbrev pub begins_on : Side → Side → Bool
begins_on s t = (t.line == s.line) && nat_le s.from t.from && nat_lt t.from s.to

-- side s begins before the point: on a lower line, or before it on the line
abbrev pub is_before : ℕ → ℕ → Side → Bool
is_before line at s = nat_lt s.line line || ((s.line == line) && nat_lt s.from at)

-- side s begins no later than side t
abbrev pub IsUpTo : Side → Side → Type 0
IsUpTo s t = (s.line < t.line) ⊎ ((s.line ≡ t.line) × (s.from ≤ t.from))

-- the sides are in order: by line, and on a line by where they begin
pub record AreInOrder (sides : List Side) : Type 0 where
  pub rising : (j k : ℕ) (d : Side) → j ≤ k → k < length sides →
      IsUpTo (slice_index_or sides j d) (slice_index_or sides k d)

-- ---- the sides of rectangles and of lifetimes
-- the lower side of a rectangle, over its columns
abbrev pub lower_side : Rectangle → Side
lower_side r = record { line = r.place; from = r.first; to = r.end; buffer = r.buffer }

-- its upper side
abbrev pub upper_side : Rectangle → Side
upper_side r = record { line = r.top; from = r.first; to = r.end; buffer = r.buffer }

-- the left side of a buffer: the moment at which its lifetime begins, over its places
abbrev pub left_side : Instance → List ℕ → ℕ → Side
left_side I offsets b =
    record { line = (buffer I b).lower; from = slice_index offsets b; to = end_of I offsets b; buffer = b }

-- its right side: the moment at which its lifetime ends
abbrev pub right_side : Instance → List ℕ → ℕ → Side
right_side I offsets b =
    record { line = (buffer I b).upper; from = slice_index offsets b; to = end_of I offsets b; buffer = b }

-- ---- pairs
-- the pair of two buffers
abbrev pub pair_of : ℕ → ℕ → Pair
pair_of b c = record { later = max b c; earlier = min b c }

-- the pairs of the buffer of side s with those of the others that begin on it
abbrev pub pairs_begun : List Side → Side → List Pair
pairs_begun others s = map (λ (t : Side). pair_of s.buffer t.buffer) (filter (begins_on s) others)

-- the pair is that of two sides that meet, where the buffer of one ends at the line and that of the other begins there
pub record IsMet (ends begins : List Side) (p : Pair) : Type 0 where
  pub end : Side
  pub begin : Side
  pub is_end : IsIn end ends
  pub is_begin : IsIn begin begins
  pub meet : Meet end begin
  pub is : p ≡ pair_of end.buffer begin.buffer

-- the pairs of the sides that meet have been added
pub record AreMet (ends begins : List Side) (before after : List Pair) : Type 0 where
  pub kept : (p : Pair) → IsIn p before → IsIn p after
  pub all : (p : Pair) → IsMet ends begins p → IsIn p after
  pub each : (p : Pair) → IsIn p after → IsIn p before ⊎ IsMet ends begins p

-- the two buffers are of the instance and touch
pub record IsTouching (I : Instance) (offsets : List ℕ) (p : Pair) : Type 0 where
  pub order : p.earlier < p.later
  pub in_range : p.later < length I
  pub touching : touch I offsets p.earlier p.later ≡ true

-- these are all pairs of buffers that touch
pub record AreTouching (I : Instance) (offsets : List ℕ) (pairs : List Pair) : Type 0 where
  pub each : (p : Pair) → IsIn p pairs → IsTouching I offsets p
  pub all : (p : Pair) → IsTouching I offsets p → IsIn p pairs

-- b is the later buffer of the pair
abbrev pub has_later : ℕ → Pair → Bool
has_later b p = p.later == b

-- ---- colours
-- the earlier buffer of some pair has colour k
abbrev pub has_colour : List ℕ → List Pair → ℕ → Bool
has_colour colours pairs k = list_any (λ (p : Pair). slice_index colours p.earlier == k) pairs

-- the first of eight colours that none of them has, or by number where all are taken
unfoldable pub colour_left : List ℕ → List Pair → ℕ
colour_left colours pairs =
    slice_index_or (filter (λ k. not (has_colour colours pairs k)) (numbers 8)) 0 (length colours % 8)
