-- What a caller gives.
use Rattle.std.specs.Prelude.{ℕ, Bool, List, Option, Some, None, map, if◌then◌else◌}
use Rattle.dsa_plan.specs.Arrays.{Arrays}
use Rattle.dsaplan_c.specs.declared.arrays.Gap.{Gap}

-- a gap as the planner takes it
abbrev pub pair_of : Gap → ℕ × ℕ
pair_of gap = (gap.from, gap.to)

-- the steps, where they are limited
abbrev pub steps_of : Bool → ℕ → Option ℕ
steps_of is_limited steps = if is_limited then Some steps else None

-- the arrays of a call
abbrev pub given : (lower upper size alignment lowest : List ℕ) → List Gap → List ℕ → Arrays
given lower upper size alignment lowest gaps gap_counts = record {
  lower = lower;
  upper = upper;
  size = size;
  alignment = alignment;
  lowest = lowest;
  gaps = map pair_of gaps;
  gap_counts = gap_counts;
}
