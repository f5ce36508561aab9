-- The limits of a buffer, and the tests on its numbers and gaps one by one.
use Rattle.std.proofs.Common.{◌≡◌, ℕ, true, false, [], ◌∷◌, map, Some, None, Ok, Err, replicate, refl, arith}
use Rattle.dsa_terms.specs.Buffers.{is_live, some_before}
use Rattle.dsa_model.specs.Buffer.{size_limit, alignment_limit, lowest_limit, gap_limit, buffer_limit, buffer_of, lasting, is_empty_gap, is_outside, is_ever_live, number_fault, gap_fault, lowest_fault, IsInside, IsBuffer}
use Rattle.dsa_model.proofs.Faults.{is_buffer}
use Rattle.dsa_model.specs.Fails.{IfFault, UnlessNoMemory}
use Rattle.dsa_model.specs.declared.buffer_fault.BufferFault.{BufferFault}
use Rattle.dsa_model.specs.declared.buffer_fault.BufferFault.TheVariants as fault
use Rattle.dsa_model.specs.declared.fail.Fail.TheVariants.{Fault, NoMemory}

-- ---- limits: 2 to the 40th, 2 to the 32nd, 2 to the 40th, and 64 gaps; 4,096 buffers
greatest_size : size_limit ≡ 1099511627776
greatest_size = refl

greatest_alignment : alignment_limit ≡ 4294967296
greatest_alignment = refl

greatest_lowest : lowest_limit ≡ 1099511627776
greatest_lowest = refl

most_gaps : gap_limit ≡ 64
most_gaps = refl

most_buffers : buffer_limit ≡ 4096
most_buffers = refl

of_size_one : lasting 2 9 ((3, 4) ∷ [])
    ≡ record { lower = 2; upper = 9; size = 1; alignment = 1; gaps = (3, 4) ∷ []; lowest = 0 }
of_size_one = refl

-- ---- gaps: 5..5 and 6..5 hold no moment, 5..6 does
empty_gaps : map is_empty_gap ((5, 5) ∷ (6, 5) ∷ (5, 6) ∷ []) ≡ true ∷ true ∷ false ∷ []
empty_gaps = refl

-- outside 2..9 are those that begin at 1 or end at 10
outside_gaps : map (is_outside 2 9) ((2, 9) ∷ (1, 4) ∷ (5, 10) ∷ []) ≡ false ∷ true ∷ true ∷ []
outside_gaps = refl

all_of_it : IsInside 2 9 (2, 9)
all_of_it = record { from_lower = omega arith; not_empty = omega arith; to_upper = omega arith }

begins_early : IsInside 2 9 (1, 4) → ⊥
begins_early i = let h = i.from_lower in omega arith

ends_late : IsInside 2 9 (5, 10) → ⊥
ends_late i = let h = i.to_upper in omega arith

holds_nothing : IsInside 2 9 (5, 5) → ⊥
holds_nothing i = let h = i.not_empty in omega arith

-- ---- faults of numbers alone, and of gaps alone
size_before_alignment : number_fault (buffer_of 0 1 0 0 ((1, 1) ∷ []) 0) ≡ Some fault.ZeroSize
size_before_alignment = refl

gaps_are_not_asked : number_fault (buffer_of 0 1 4 1 ((1, 1) ∷ []) 0) ≡ None
gaps_are_not_asked = refl

numbers_are_not_asked : gap_fault (buffer_of 0 10 0 0 ((4, 6) ∷ []) 0) ≡ None
unfolding is_ever_live some_before is_live
numbers_are_not_asked = refl

as_many_gaps_as_may_be : gap_fault (lasting 0 2 (replicate 64 (0, 1))) ≡ None
unfolding is_ever_live some_before is_live
as_many_gaps_as_may_be = refl

one_gap_too_many : gap_fault (lasting 0 2 (replicate 65 (0, 1))) ≡ Some fault.TooManyGaps
one_gap_too_many = refl

gap_of_all : gap_fault (lasting 2 9 ((2, 9) ∷ [])) ≡ Some fault.NeverLive
unfolding is_ever_live some_before is_live
gap_of_all = refl

-- ---- the lowest alone: 2 to the 40th has no fault, whatever the rest is, and one more has one
lowest_at_its_limit : lowest_fault (buffer_of 1 1 0 0 [] 1099511627776) ≡ None
lowest_at_its_limit = refl

lowest_one_too_large : lowest_fault (buffer_of 1 1 0 0 [] 1099511627777) ≡ Some fault.LowestTooLarge
lowest_one_too_large = refl

-- ---- buffers without a fault: one with the gap 4..6, none that ends at 2 to the 62nd, and none that is never live
gapped_is_buffer : IsBuffer (buffer_of 0 10 4 1 ((4, 6) ∷ []) 0)
unfolding is_ever_live some_before is_live
gapped_is_buffer = is_buffer (buffer_of 0 10 4 1 ((4, 6) ∷ []) 0) refl (omega arith)

ends_too_late : IsBuffer (buffer_of 0 4611686018427387904 4 1 [] 0) → ⊥
ends_too_late b = let h = b.upper_limit in omega arith

never_live_is_none : IsBuffer (buffer_of 2 9 4 1 ((2, 9) ∷ []) 0) → ⊥
unfolding is_ever_live some_before is_live
never_live_is_none b = let h = b.no_fault in cc

-- ---- what is said of a fault: nothing where memory has run out
of_the_fault : IfFault {E = BufferFault} (λ f. f ≡ fault.TooLarge) (Fault fault.TooLarge)
of_the_fault = refl

of_another : IfFault {E = BufferFault} (λ f. f ≡ fault.TooLarge) (Fault fault.ZeroSize) → ⊥
of_another h = cc

of_no_memory : IfFault {E = BufferFault} (λ f. f ≡ fault.TooLarge) NoMemory
of_no_memory = tt

-- a value is asked of by the first fact, a fault by the second
of_a_value : UnlessNoMemory {T = ℕ} {E = BufferFault} (Ok 3) (λ n. n ≡ 3) (λ f. ⊥)
of_a_value = refl

of_a_fault : UnlessNoMemory {T = ℕ} {E = BufferFault} (Err (Fault fault.ZeroSize)) (λ n. n ≡ 3) (λ f. ⊥) → ⊥
of_a_fault h = h
