-- What small arrays tell of, and what is wrong with others.
use Rattle.std.proofs.Common.{◌≡◌, ◌^◌, ◌-◌, ℕ, List, [], ◌∷◌, None, Some, replicate, refl}
use Rattle.dsa_terms.specs.Buffers.{is_live, some_before}
use Rattle.dsa_terms.proofs.Examples.{filled, five}
use Rattle.dsa_model.specs.Buffer.{buffer_of, is_ever_live}
use Rattle.dsa_model.specs.declared.buffer_fault.BufferFault.TheVariants.{EmptyLifetime, GapOutside, ZeroSize}
use Rattle.dsa_plan.specs.Arrays.{Arrays, buffer_at, gaps_at, gaps_before, instance_of, without_gaps}
use Rattle.dsa_plan.specs.Faults.{AreSound, arrays_fault, buffers_fault, fault_at, have_one_length, numbers_fault}
use Rattle.dsa_plan.specs.declared.fault.ArraysFault.TheVariants.{BadBuffer, LengthsDiffer, TooMany}
use Rattle.dsa_plan.specs.declared.fault.NumbersFault.TheVariants.{Buffer, TimeTooLarge}

-- ---- two buffers of size 4: one has a gap, in which alone the other is live
abbrev two : List ℕ → List ℕ → List (ℕ × ℕ) → List ℕ → Arrays
two upper size gaps gap_counts = record {
  lower = 0 ∷ 4 ∷ [];
  upper = upper;
  size = size;
  alignment = 1 ∷ 1 ∷ [];
  lowest = 0 ∷ 0 ∷ [];
  gaps = gaps;
  gap_counts = gap_counts;
}

abbrev with_gap : Arrays
with_gap = two (10 ∷ 6 ∷ []) (4 ∷ 4 ∷ []) ((4, 6) ∷ []) (1 ∷ 0 ∷ [])

is_filled : instance_of with_gap ≡ filled
unfolding buffer_at
is_filled = refl

nothing_wrong : arrays_fault with_gap 2 ≡ None
unfolding have_one_length buffers_fault fault_at buffer_at is_live some_before is_ever_live
nothing_wrong = refl

-- ---- the gaps of one buffer after those of another
abbrev three_gaps : Arrays
three_gaps = two (10 ∷ 9 ∷ []) (4 ∷ 4 ∷ []) ((1, 2) ∷ (3, 4) ∷ (5, 6) ∷ []) (2 ∷ 1 ∷ [])

two_before : gaps_before three_gaps 1 ≡ 2
two_before = refl

first_gaps : gaps_at three_gaps 0 ≡ (1, 2) ∷ (3, 4) ∷ []
first_gaps = refl

second_gaps : gaps_at three_gaps 1 ≡ (5, 6) ∷ []
second_gaps = refl

second_buffer : buffer_at three_gaps 1 ≡ buffer_of 4 9 4 1 ((5, 6) ∷ []) 0
unfolding buffer_at
second_buffer = refl

-- ---- without gaps there need be no counts
abbrev plain_five : Arrays
plain_five = without_gaps
    (0 ∷ 3 ∷ 0 ∷ 9 ∷ 0 ∷ [])
    (3 ∷ 9 ∷ 9 ∷ 21 ∷ 21 ∷ [])
    (4 ∷ 4 ∷ 4 ∷ 4 ∷ 4 ∷ [])
    (1 ∷ 1 ∷ 1 ∷ 1 ∷ 1 ∷ [])
    (0 ∷ 0 ∷ 0 ∷ 0 ∷ 0 ∷ [])

are_five : instance_of plain_five ≡ five
unfolding buffer_at
are_five = refl

five_sound : AreSound plain_five 5
unfolding have_one_length buffers_fault fault_at buffer_at is_live some_before is_ever_live
five_sound = refl

-- each slice in its place
its_numbers : buffer_at (without_gaps (3 ∷ []) (9 ∷ []) (4 ∷ []) (8 ∷ []) (16 ∷ [])) 0 ≡ buffer_of 3 9 4 8 [] 16
unfolding buffer_at
its_numbers = refl

-- ---- lengths come first: four offsets for five buffers; a size too few; counts that do not add up; a gap that is no
-- buffer's; a count too few
four_offsets : arrays_fault plain_five 4 ≡ Some LengthsDiffer
unfolding have_one_length
four_offsets = refl

a_size_too_few : arrays_fault (two (0 ∷ 6 ∷ []) (4 ∷ []) [] []) 2 ≡ Some LengthsDiffer
unfolding have_one_length
a_size_too_few = refl

a_gap_too_few : arrays_fault (two (10 ∷ 6 ∷ []) (4 ∷ 4 ∷ []) ((4, 6) ∷ []) (1 ∷ 1 ∷ [])) 2 ≡ Some LengthsDiffer
unfolding have_one_length
a_gap_too_few = refl

no_counts : arrays_fault (two (10 ∷ 6 ∷ []) (4 ∷ 4 ∷ []) ((4, 6) ∷ []) []) 2 ≡ Some LengthsDiffer
unfolding have_one_length
no_counts = refl

a_count_too_few : arrays_fault (two (10 ∷ 6 ∷ []) (4 ∷ 4 ∷ []) ((4, 6) ∷ []) (1 ∷ [])) 2 ≡ Some LengthsDiffer
unfolding have_one_length
a_count_too_few = refl

-- ---- then the number of buffers
abbrev alike : ℕ → Arrays
alike n = without_gaps (replicate n 0) (replicate n 0) (replicate n 1) (replicate n 1) (replicate n 0)

one_too_many : arrays_fault (alike 4097) 4097 ≡ Some TooMany
unfolding have_one_length
one_too_many = refl

-- ---- then the first buffer with a fault, and its first fault
empty_lifetime : arrays_fault (two (0 ∷ 4 ∷ []) (0 ∷ 4 ∷ []) [] []) 2 ≡ Some (BadBuffer 0 (Buffer EmptyLifetime))
unfolding have_one_length buffers_fault fault_at buffer_at
empty_lifetime = refl

zero_size : arrays_fault (two (10 ∷ 6 ∷ []) (4 ∷ 0 ∷ []) [] []) 2 ≡ Some (BadBuffer 1 (Buffer ZeroSize))
unfolding have_one_length buffers_fault fault_at buffer_at is_live some_before is_ever_live
zero_size = refl

gap_outside : arrays_fault (two (10 ∷ 6 ∷ []) (4 ∷ 4 ∷ []) ((4, 11) ∷ []) (1 ∷ 0 ∷ [])) 2
    ≡ Some (BadBuffer 0 (Buffer (GapOutside 0)))
unfolding have_one_length buffers_fault fault_at buffer_at
gap_outside = refl

-- a time above its limit comes before all else
too_late : numbers_fault (buffer_of (2 ^ 62) 0 0 0 [] 0) ≡ Some TimeTooLarge
too_late = refl

too_late_an_end : numbers_fault (buffer_of 0 (2 ^ 62) 0 0 [] 0) ≡ Some TimeTooLarge
too_late_an_end = refl

in_time : numbers_fault (buffer_of (2 ^ 62 - 1) (2 ^ 62 - 1) 0 0 [] 0) ≡ Some (Buffer EmptyLifetime)
in_time = refl
