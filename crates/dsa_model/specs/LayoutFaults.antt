-- What is wrong with offsets that are no layout.
use Rattle.std.specs.Prelude.{ℕ, ◌+◌, ◌-◌, ◌%◌, ◌<◌, List, [], ◌∷◌, length, slice_index, Bool, not, ◌||◌, if◌then◌else◌, Option, None, option_map, nat_le, nat_lt, ◌==◌}
use Rattle.std.specs.List.{find, range_with_len}
use Rattle.dsa_terms.specs.Buffers.{Buffer, Instance, buffer}
use Rattle.dsa_terms.specs.Firsts.{when, first_fault}
use Rattle.dsa_terms.specs.Layouts.{IsApart}
use Rattle.dsa_terms.specs.Parts.{numbers}
use Rattle.dsa_terms.specs.Search.{first_some}
use Rattle.dsa_model.specs.Moments.{IsLeastFrom, are_live, first_common}
use Rattle.dsa_model.specs.declared.layout.LayoutFault.{LayoutFault}
use Rattle.dsa_model.specs.declared.layout.LayoutFault.TheVariants as fault

-- the offset x is no multiple of the alignment of b
abbrev pub is_unaligned : Buffer → ℕ → Bool
is_unaligned b x = not (x % b.alignment == 0)

-- the offset x is below the lowest of b
abbrev pub is_too_low : Buffer → ℕ → Bool
is_too_low b x = nat_lt x b.lowest

-- b at x ends above the capacity
abbrev pub is_above : ℕ → Buffer → ℕ → Bool
is_above C b x = nat_lt C (x + b.size)

-- b at x ends at or below c at y, or c at y ends at or below b at x
abbrev pub are_apart : Buffer → ℕ → Buffer → ℕ → Bool
are_apart b x c y = nat_le (x + b.size) y || nat_le (y + c.size) x

-- the overlap of two buffers: none where they are apart, else at the first moment that they share
unfoldable pub overlap : Instance → List ℕ → ℕ → ℕ → Option LayoutFault
overlap I offsets b c =
    if are_apart (buffer I b) (slice_index offsets b) (buffer I c) (slice_index offsets c) then None
    else option_map (fault.Overlap b c) (first_common (buffer I b) (buffer I c))

-- the first overlap of a buffer with one of a greater number
unfoldable pub overlap_after : Instance → List ℕ → ℕ → Option LayoutFault
overlap_after I offsets b = first_some (overlap I offsets b) (range_with_len (b + 1) (length I - (b + 1)))

-- the first overlap of all: the pairs are ordered by the smaller number, then by the greater one
unfoldable pub first_overlap : Instance → List ℕ → Option LayoutFault
first_overlap I offsets = first_some (overlap_after I offsets) (numbers (length I))

-- the least buffer whose offset is not aligned
unfoldable pub first_unaligned : Instance → List ℕ → Option ℕ
first_unaligned I offsets = find (λ b. is_unaligned (buffer I b) (slice_index offsets b)) (numbers (length I))

-- the least buffer whose offset is below its lowest
unfoldable pub first_too_low : Instance → List ℕ → Option ℕ
first_too_low I offsets = find (λ b. is_too_low (buffer I b) (slice_index offsets b)) (numbers (length I))

-- the least buffer that ends above the capacity
unfoldable pub first_above : Instance → ℕ → List ℕ → Option ℕ
first_above I C offsets = find (λ b. is_above C (buffer I b) (slice_index offsets b)) (numbers (length I))

-- the first fault of offsets: their count, then by buffer alignment, lowest and capacity, then overlap by pair
abbrev pub layout_fault : Instance → ℕ → List ℕ → Option LayoutFault
layout_fault I C offsets = first_fault (
    when (not (length offsets == length I)) fault.WrongCount
    ∷ option_map fault.Unaligned (first_unaligned I offsets)
    ∷ option_map fault.TooLow (first_too_low I offsets)
    ∷ option_map fault.Above (first_above I C offsets)
    ∷ first_overlap I offsets
    ∷ [])

-- two buffers that are not apart, the smaller number first, and the least moment at which both are live
pub record IsOverlap (I : Instance) (offsets : List ℕ) (b c t : ℕ) : Type 0 where
  pub in_order : b < c
  pub in_range : c < length I
  pub not_apart : IsApart (buffer I b) (slice_index offsets b) (buffer I c) (slice_index offsets c) → ⊥
  pub first_moment : IsLeastFrom (are_live (buffer I b) (buffer I c)) 0 t
