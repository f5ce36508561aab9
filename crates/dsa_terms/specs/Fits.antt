-- First-fit and best-fit: where a buffer goes beside those that are placed, and an order of buffers placed so.
use Rattle.std.specs.Prelude.{ℕ, max, ◌+◌, ◌-◌, ◌%◌, not, ◌==◌, ◌||◌, ◌&&◌, nat_le, nat_lt, Bool, List, [], ◌∷◌, map, Option}
use Rattle.std.specs.declared.option.Option.TheVariants.{Some, None}
use Rattle.std.specs.List.{filter, find, flat_map, list_all, position_or_len}
use Rattle.std.specs.Int.{next_multiple_of}
use Rattle.dsa_terms.specs.Buffers.{Instance, buffer, do_share}
use Rattle.dsa_terms.specs.Claims.{Entry}
use Rattle.dsa_terms.specs.Sorts.{comes_first}
use Rattle.dsa_terms.specs.Logs.{greatest}
use Rattle.dsa_terms.specs.Parts.{numbers, offsets_of}

-- where the buffer of a placed entry ends
unfoldable pub top : Instance → Entry → ℕ
top I e = e.1 + (buffer I e.0).size

-- the greatest top of the placed, and 0 for none
unfoldable pub highest : Instance → List Entry → ℕ
highest I placed = greatest (map (top I) placed)

-- the placed ones that share a moment with b
unfoldable pub neighbours : Instance → ℕ → List Entry → List Entry
neighbours I b placed = filter (λ e. do_share (buffer I b) (buffer I e.0)) placed

-- the addresses from x up to and not including y meet no placed one
unfoldable pub is_free : Instance → List Entry → ℕ → ℕ → Bool
is_free I placed x y = list_all (λ e. nat_le y e.1 || nat_le (top I e) x) placed

-- a rule gives a buffer its offset beside the placed ones that share a moment with it
abbrev pub FitRule : Type 0
FitRule = Instance → ℕ → List Entry → ℕ

-- the least multiple of b's alignment at or above both x and b's lowest
unfoldable pub least_from : Instance → ℕ → ℕ → ℕ
least_from I b x = next_multiple_of (max x (buffer I b).lowest) (buffer I b).alignment

-- b at x is aligned, at or above its lowest, and apart from each placed one
unfoldable pub is_clear : Instance → ℕ → List Entry → ℕ → Bool
is_clear I b placed x =
    (x % (buffer I b).alignment == 0) && nat_le (buffer I b).lowest x && is_free I placed x (x + (buffer I b).size)

-- first-fit: the least place at which b is clear, which is at the latest the first past all the placed
unfoldable pub first_place : FitRule
first_place I b placed = position_or_len (is_clear I b placed) (numbers (least_from I b (highest I placed)))

-- addresses from one up to and not including another
pub record Range : Type 0 where
  pub start : ℕ
  pub stop : ℕ

-- from 0 or a top on, up to the start of a placed one
unfoldable pub stretches : Instance → List Entry → List Range
stretches I placed =
    flat_map (λ x. map (λ (e : Entry). record { start = x; stop = e.1 }) placed) (0 ∷ map (top I) placed)

-- the free ranges, which are those stretches that are not empty and meet no placed one
unfoldable pub free_ranges : Instance → List Entry → List Range
free_ranges I placed =
    filter (λ (r : Range). nat_lt r.start r.stop && is_free I placed r.start r.stop) (stretches I placed)

-- the range has room for b at the least place that b may have there
unfoldable pub holds : Instance → ℕ → Range → Bool
holds I b r = nat_le (least_from I b r.start + (buffer I b).size) r.stop

-- r is shorter than s, or as long and lower
unfoldable pub is_tighter : Range → Range → Bool
is_tighter r s = comes_first (r.stop - r.start) (s.stop - s.start) r.start s.start

-- the tightest of the ranges: the first that none of them is tighter than
abbrev pub tightest : List Range → Option Range
tightest rs = find (λ r. list_all (λ s. not (is_tighter s r)) rs) rs

-- where b begins in the range, and without one past all the placed
abbrev pub start_in : Instance → ℕ → List Entry → Option Range → ℕ
start_in I b placed (Some r) = least_from I b r.start
start_in I b placed None = least_from I b (highest I placed)

-- best-fit: in the shortest free range that holds b, the lowest of them, and where none does past all the placed
unfoldable pub best_place : FitRule
best_place I b placed = start_in I b placed (tightest (filter (holds I b) (free_ranges I placed)))

-- the buffers of the order placed one after another, beside those that are placed already
abbrev pub fitted : FitRule → Instance → List ℕ → List Entry → List Entry
fitted rule I [] placed = placed
fitted rule I (b ∷ bs) placed = fitted rule I bs ((b, rule I b (neighbours I b placed)) ∷ placed)

-- the offsets of first-fit over the order
unfoldable pub first_fit : Instance → List ℕ → List ℕ
first_fit I order = offsets_of I (fitted first_place I order [])

-- the offsets of best-fit over the order
unfoldable pub best_fit : Instance → List ℕ → List ℕ
best_fit I order = offsets_of I (fitted best_place I order [])
