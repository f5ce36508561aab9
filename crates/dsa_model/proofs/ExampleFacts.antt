-- Worked facts of the definitions.
use Rattle.std.proofs.Common.{◌≡◌, ℕ, ◌-◌, ◌^◌, inl, inr, [], ◌∷◌, true, false, Some, None, codes, replicate, refl, arith}
use Rattle.std.specs.Global.{Vec}
use Rattle.dsa_terms.specs.Buffers.{Instance, is_live, buffer, some_before}
use Rattle.dsa_model.specs.Buffer.{buffer_fault, buffer_of, is_ever_live}
use Rattle.dsa_model.specs.Chosen.{some_of}
use Rattle.dsa_model.specs.Lists.{items_of, pair_at}
use Rattle.dsa_model.specs.Moments.{first_common}
use Rattle.dsa_model.specs.Counts.{Rose, one_more}
use Rattle.dsa_model.specs.Numbers.{is_number, written_number}
use Rattle.dsa_model.specs.LayoutFaults.{layout_fault, first_unaligned, first_too_low, first_above, first_overlap, overlap_after, overlap}
use Rattle.dsa_model.specs.declared.buffer_fault.BufferFault.TheVariants as fault
use Rattle.dsa_model.specs.declared.layout.LayoutFault.TheVariants.{WrongCount, Unaligned, TooLow, Above, Overlap}

-- ---- lists
its_items : (v : Vec ℕ) → items_of v ≡ v.items
its_items v = refl

second_pair : pair_at ((0, 1) ∷ (3, 2) ∷ (5, 0) ∷ []) 1 ≡ (3, 2)
second_pair = refl

past_the_end : pair_at ((0, 1) ∷ (3, 2) ∷ []) 2 ≡ (0, 0)
past_the_end = refl

-- ---- numbers
twenty_digits : written_number 9 (codes "00000000000000000007") ≡ Some 7
twenty_digits = refl

twenty_one_digits : written_number 9 (codes "000000000000000000007") ≡ None
twenty_one_digits = refl

greatest_number : written_number 1152921504606846976 (codes "1152921504606846976") ≡ Some 1152921504606846976
greatest_number = refl

too_great : written_number 1152921504606846976 (codes "1152921504606846977") ≡ None
too_great = refl

no_digits : written_number 9 [] ≡ None
no_digits = refl

a_sign : written_number 9 (codes "+1") ≡ None
a_sign = refl

twenty_digits_are_a_number : is_number 12 (codes "00000000000000000012") ≡ true
twenty_digits_are_a_number = refl

twenty_one_are_none : is_number 12 (codes "000000000000000000012") ≡ false
twenty_one_are_none = refl

a_number_has_digits_alone : is_number 12 (codes "1x") ≡ false
a_number_has_digits_alone = refl

a_number_is_within : is_number 11 (codes "12") ≡ false
a_number_is_within = refl

-- ---- buffers
sound_with_a_gap : buffer_fault (buffer_of 0 10 4 1 ((4, 6) ∷ []) 0) ≡ None
unfolding is_ever_live some_before is_live
sound_with_a_gap = refl

at_the_limits : buffer_fault (buffer_of 0 1 1099511627776 4294967296 [] 0) ≡ None
unfolding is_ever_live some_before is_live
at_the_limits = refl

no_lifetime : buffer_fault (buffer_of 1 1 0 0 [] 0) ≡ Some fault.EmptyLifetime
no_lifetime = refl

no_size : buffer_fault (buffer_of 0 1 0 0 [] 0) ≡ Some fault.ZeroSize
no_size = refl

one_too_large : buffer_fault (buffer_of 0 1 1099511627777 0 [] 0) ≡ Some fault.TooLarge
one_too_large = refl

no_alignment : buffer_fault (buffer_of 0 1 4 0 [] 0) ≡ Some fault.ZeroAlignment
no_alignment = refl

alignment_one_too_large : buffer_fault (buffer_of 0 1 4 4294967297 ((1, 1) ∷ []) 0) ≡ Some fault.AlignmentTooLarge
alignment_one_too_large = refl

-- an empty gap comes before one that leaves the lifetime, though that is given first
empty_gap_first : buffer_fault (buffer_of 2 9 4 1 ((1, 3) ∷ (5, 5) ∷ []) 0) ≡ Some (fault.GapEmpty 1)
empty_gap_first = refl

gap_outside : buffer_fault (buffer_of 2 9 4 1 ((3, 4) ∷ (8, 10) ∷ []) 0) ≡ Some (fault.GapOutside 1)
gap_outside = refl

one_gap_too_many : buffer_fault (buffer_of 0 1 4 1 (replicate 65 (0, 1)) 0) ≡ Some fault.TooManyGaps
one_gap_too_many = refl

-- gaps that overlap and cover the lifetime
never_live : buffer_fault (buffer_of 0 10 4 1 ((0, 6) ∷ (4, 10) ∷ []) 0) ≡ Some fault.NeverLive
unfolding is_ever_live some_before is_live
never_live = refl

lowest_at_its_limit : buffer_fault (buffer_of 0 1 4 1 [] 1099511627776) ≡ None
unfolding is_ever_live some_before is_live
lowest_at_its_limit = refl

lowest_one_too_large : buffer_fault (buffer_of 0 1 4 1 [] 1099511627777) ≡ Some fault.LowestTooLarge
unfolding is_ever_live some_before is_live
lowest_one_too_large = refl

-- a lowest comes last
never_live_before_lowest : buffer_fault (buffer_of 0 1 4 1 ((0, 1) ∷ []) 1099511627777) ≡ Some fault.NeverLive
unfolding is_ever_live some_before is_live
never_live_before_lowest = refl

-- ---- moments of two buffers
filled_gap : first_common (buffer_of 0 10 4 1 ((4, 6) ∷ []) 0) (buffer_of 4 6 4 1 [] 0) ≡ None
unfolding first_common is_live
filled_gap = refl

overrun_gap : first_common (buffer_of 0 10 4 1 ((4, 6) ∷ []) 0) (buffer_of 4 7 4 1 [] 0) ≡ Some 6
unfolding first_common is_live
overrun_gap = refl

-- ---- layouts
-- live from 0 to 5 and from 4 to 8
abbrev crossed : Instance
crossed = buffer_of 0 5 4 1 [] 0 ∷ buffer_of 4 8 4 1 [] 0 ∷ []

-- alignments 2, 2 and 1 at one moment
abbrev evens : Instance
evens = buffer_of 0 1 1 2 [] 0 ∷ buffer_of 0 1 1 2 [] 0 ∷ buffer_of 0 1 2 1 [] 0 ∷ []

crossing : layout_fault crossed 10 (0 ∷ 2 ∷ []) ≡ Some (Overlap 0 1 4)
unfolding first_unaligned first_too_low first_above first_overlap overlap_after overlap first_common is_live buffer
crossing = refl

right : layout_fault crossed 8 (0 ∷ 4 ∷ []) ≡ None
unfolding first_unaligned first_too_low first_above first_overlap overlap_after overlap first_common is_live buffer
right = refl

above_the_capacity : layout_fault crossed 7 (0 ∷ 4 ∷ []) ≡ Some (Above 1)
unfolding first_unaligned first_too_low first_above buffer
above_the_capacity = refl

too_few : layout_fault crossed 7 (0 ∷ []) ≡ Some WrongCount
too_few = refl

too_many : layout_fault [] 7 (0 ∷ []) ≡ Some WrongCount
too_many = refl

-- alignment comes before capacity, which no buffer here is within
unaligned_first : layout_fault evens 0 (4 ∷ 1 ∷ 0 ∷ []) ≡ Some (Unaligned 1)
unfolding first_unaligned buffer
unaligned_first = refl

-- one that may not be below 6, and one that may stand anywhere
abbrev low : Instance
low = buffer_of 0 1 4 1 [] 6 ∷ buffer_of 0 1 4 1 [] 0 ∷ []

low_is_met : layout_fault low 10 (6 ∷ 0 ∷ []) ≡ None
unfolding first_unaligned first_too_low first_above first_overlap overlap_after overlap first_common is_live buffer
low_is_met = refl

-- a lowest is no hint, and comes before the capacity
below_its_lowest : layout_fault low 8 (5 ∷ 0 ∷ []) ≡ Some (TooLow 0)
unfolding first_unaligned first_too_low buffer
below_its_lowest = refl

above_though_not_too_low : layout_fault low 9 (6 ∷ 0 ∷ []) ≡ Some (Above 0)
unfolding first_unaligned first_too_low first_above buffer
above_though_not_too_low = refl

-- alignment comes before lowest
unaligned_before_too_low : layout_fault (buffer_of 0 1 4 4 [] 6 ∷ []) 9 (5 ∷ []) ≡ Some (Unaligned 0)
unfolding first_unaligned buffer
unaligned_before_too_low = refl

-- 0 shares a moment with 3, and 1 with 2
abbrev four : Instance
four = buffer_of 0 2 4 1 [] 0 ∷ buffer_of 5 7 4 1 [] 0 ∷ buffer_of 6 8 4 1 [] 0 ∷ buffer_of 1 3 4 1 [] 0 ∷ []

-- the least pair by its first buffer: 0 with 3, though 1 and 2 overlap as well
least_pair : layout_fault four 9 (0 ∷ 0 ∷ 0 ∷ 0 ∷ []) ≡ Some (Overlap 0 3 1)
unfolding first_unaligned first_too_low first_above first_overlap overlap_after overlap first_common is_live buffer
least_pair = refl

-- where a gap is filled, two buffers may stand at one offset; where it is overrun, from its end on they overlap
gap_is_free : layout_fault (buffer_of 0 10 4 1 ((4, 6) ∷ []) 0 ∷ buffer_of 4 6 4 1 [] 0 ∷ []) 4 (0 ∷ 0 ∷ []) ≡ None
unfolding first_unaligned first_too_low first_above first_overlap overlap_after overlap first_common is_live buffer
gap_is_free = refl

gap_is_overrun : layout_fault (buffer_of 0 10 4 1 ((4, 6) ∷ []) 0 ∷ buffer_of 4 7 4 1 [] 0 ∷ []) 4 (0 ∷ 0 ∷ [])
    ≡ Some (Overlap 0 1 6)
unfolding first_unaligned first_too_low first_above first_overlap overlap_after overlap first_common is_live buffer
gap_is_overrun = refl

nothing_to_lay_out : layout_fault [] 0 [] ≡ None
unfolding first_unaligned first_too_low first_above first_overlap
nothing_to_lay_out = refl

-- ---- some of the buffers: in the order of the numbers, which may repeat
last_first_last : some_of four (3 ∷ 0 ∷ 3 ∷ [])
    ≡ buffer_of 1 3 4 1 [] 0 ∷ buffer_of 0 2 4 1 [] 0 ∷ buffer_of 1 3 4 1 [] 0 ∷ []
unfolding buffer
last_first_last = refl

-- ---- counts: they stop at the end of their type, where a rise can't be seen
last_number_stays : one_more (2 ^ 64 - 1) ≡ 2 ^ 64 - 1
last_number_stays = refl

one_is_a_rise : Rose 0 1
one_is_a_rise = inl (omega arith)

none_is_no_rise : Rose 0 0 → ⊥
none_is_no_rise (inl more) = omega (arith, more)
none_is_no_rise (inr end) = omega (arith, end)

rose_to_the_end : Rose (2 ^ 64 - 1) (2 ^ 64 - 1)
rose_to_the_end = inr (omega arith)

no_rise_before_the_end : Rose (2 ^ 64 - 2) (2 ^ 64 - 2) → ⊥
no_rise_before_the_end (inl more) = omega (arith, more)
no_rise_before_the_end (inr end) = omega (arith, end)
