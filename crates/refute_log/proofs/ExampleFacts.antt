-- Worked reasons: a log of five lines, and what is wrong with lines that differ from its own.
use Rattle.std.proofs.Common.{◌≡◌, ℕ, inl, inr, [], ◌∷◌, Option, Some, None, refl, cond, nat_le, arith}
use Rattle.dsa_terms.specs.Buffers.{Buffer, Instance, is_live, buffer, do_share, floor, have_same_moments, some_before}
use Rattle.dsa_terms.specs.Claims.{IsWhole, up, step, child}
use Rattle.dsa_terms.specs.Logs.{is_stacked, rounded, rounding, ends_below, is_twin, ByLine, Below, Twin, Line, Over, Cases, stacked, stack_height}
use Rattle.refute_log.specs.Halvings.{halving}
use Rattle.refute_log.specs.Lines.{HasCites}
use Rattle.refute_log.specs.Reasons.{covers, first_reason}
use Rattle.refute_log.specs.declared.reason.Reason.TheVariants as reason

abbrev plain : ℕ → ℕ → ℕ → ℕ → Buffer
plain lower upper size alignment = record {
  lower = lower;
  upper = upper;
  size = size;
  alignment = alignment;
  gaps = [];
  lowest = 0;
}

-- two buffers of size 1 at even offsets and one of size 2, all live at moment 0
abbrev three : Instance
three = plain 0 1 1 2 ∷ plain 0 1 1 2 ∷ plain 0 1 2 1 ∷ []

-- ---- a log of five lines at capacity 4, which ends with the whole claim
abbrev over_2 : Line
over_2 = Over ((2, 3) ∷ []) 0 3 1

abbrev over_1 : Line
over_1 = Over ((1, 4) ∷ []) 0 4 1

abbrev case_12 : Line
case_12 = Cases ((1, 1) ∷ (2, 1) ∷ []) (ByLine 0 ∷ ByLine 1 ∷ [])

abbrev over_01 : Line
over_01 = Over ((0, 2) ∷ (1, 2) ∷ []) 0 2 2

abbrev case_all : Line
case_all = Cases ((0, 0) ∷ (1, 0) ∷ (2, 0) ∷ []) (ByLine 2 ∷ Twin 0 ∷ ByLine 3 ∷ [])

legal_0 : first_reason three 4 [] over_2 ≡ None
unfolding is_stacked rounded rounding up is_live buffer
legal_0 = refl

legal_1 : first_reason three 4 (over_2 ∷ []) over_1 ≡ None
unfolding is_stacked rounded rounding up is_live buffer
legal_1 = refl

legal_2 : first_reason three 4 (over_2 ∷ over_1 ∷ []) case_12 ≡ None
unfolding covers child step do_share some_before up is_live buffer
legal_2 = refl

legal_3 : first_reason three 4 (over_2 ∷ over_1 ∷ case_12 ∷ []) over_01 ≡ None
unfolding is_stacked rounded rounding up is_live buffer
legal_3 = refl

legal_4 : first_reason three 4 (over_2 ∷ over_1 ∷ case_12 ∷ over_01 ∷ []) case_all ≡ None
unfolding covers child step do_share some_before have_same_moments is_twin ends_below up is_live buffer
legal_4 = refl

-- ---- what Over lines stack
-- both buffers rounded up to 2, from 2 on, less one rounding
height_of_two : stack_height three 2 2 (stacked three ((0, 2) ∷ (1, 2) ∷ []) 0 2 2) ≡ 5
unfolding is_stacked rounded rounding up is_live buffer
height_of_two = refl

-- without the rounding they would reach 4 alone
height_by_ones : stack_height three 2 1 (stacked three ((0, 2) ∷ (1, 2) ∷ []) 0 2 1) ≡ 4
unfolding is_stacked rounded rounding up is_live buffer
height_by_ones = refl

-- what may start below the height does not count
low_ones_are_left_out : stack_height three 2 1 (stacked three ((0, 0) ∷ (1, 2) ∷ (2, 1) ∷ []) 0 2 1) ≡ 3
unfolding is_stacked rounded rounding up is_live buffer
low_ones_are_left_out = refl

-- ---- a buffer of size 4 from 6 on, and one that may start at 0
abbrev low : Instance
low = record (plain 0 1 4 1) { lowest = 6 } ∷ plain 0 1 4 1 ∷ []

-- a line is legal at whatever bounds are stacked above the capacity; an end has none above a floor
from_the_floor : first_reason low 9 [] (Over ((0, 6) ∷ []) 0 6 1) ≡ None
unfolding is_stacked rounded rounding up is_live buffer
from_the_floor = refl

from_above_it : first_reason low 9 [] (Over ((0, 7) ∷ []) 0 7 1) ≡ None
unfolding is_stacked rounded rounding up is_live buffer
from_above_it = refl

floor_is_whole : IsWhole low ((0, 6) ∷ [])
unfolding floor buffer
floor_is_whole e (inl q) = rw q (omega arith)
floor_is_whole e (inr i) = absurd i

above_is_not_whole : IsWhole low ((0, 7) ∷ []) → ⊥
unfolding floor buffer
above_is_not_whole w = let h = w (0, 7) (inl refl) in omega arith

-- ---- the reasons, in order
no_claim : first_reason three 4 [] (Over [] 0 3 0) ≡ Some reason.EmptyClaim
no_claim = refl

no_claim_of_cases : first_reason three 4 [] (Cases [] []) ≡ Some reason.EmptyClaim
no_claim_of_cases = refl

-- the least of two
no_such_buffer : first_reason three 4 [] (Over ((2, 3) ∷ (3, 0) ∷ (7, 0) ∷ []) 0 3 0) ≡ Some (reason.BufferRange 3)
no_such_buffer = refl

no_modulus : first_reason three 4 [] (Over ((2, 3) ∷ []) 0 3 0) ≡ Some reason.ZeroModulus
no_modulus = refl

no_multiple : first_reason three 4 [] (Over ((0, 3) ∷ []) 0 3 2) ≡ Some reason.NotMultiple
no_multiple = refl

-- which comes before the empty set
no_multiple_first : first_reason three 4 [] (Over ((2, 3) ∷ []) 1 3 2) ≡ Some reason.NotMultiple
no_multiple_first = refl

-- buffer 2 does not stand at multiples of 2 alone
none_stacked : first_reason three 4 [] (Over ((2, 4) ∷ []) 0 4 2) ≡ Some reason.EmptySet
unfolding is_stacked rounded rounding up is_live buffer
none_stacked = refl

-- and at moment 1 nothing is live
none_live : first_reason three 4 [] (Over ((1, 4) ∷ []) 1 4 1) ≡ Some reason.EmptySet
unfolding is_stacked rounded rounding up is_live buffer
none_live = refl

too_low : first_reason three 4 [] (Over ((2, 3) ∷ []) 0 2 1) ≡ Some reason.NotOver
unfolding is_stacked rounded rounding up is_live buffer
too_low = refl

-- the first line at one more capacity
higher : first_reason three 5 [] over_2 ≡ Some reason.NotOver
unfolding is_stacked rounded rounding up is_live buffer
higher = refl

one_cite : first_reason three 4 (over_2 ∷ over_1 ∷ []) (Cases ((1, 1) ∷ (2, 1) ∷ [])
    (ByLine 0 ∷ [])) ≡ Some reason.CitesDiffer
one_cite = refl

three_cites : first_reason three 4 (over_2 ∷ over_1 ∷ []) (Cases ((1, 1) ∷ (2, 1) ∷ [])
    (ByLine 0 ∷ ByLine 1 ∷ ByLine 1 ∷ []))
    ≡ Some reason.CitesDiffer
three_cites = refl

-- a line does not cite itself
itself : first_reason three 4 (over_2 ∷ over_1 ∷ []) (Cases ((1, 1) ∷ (2, 1) ∷ []) (ByLine 2 ∷ ByLine 1 ∷ [])) ≡ Some
    (reason.NotEarlier 1)
itself = refl

not_covered : first_reason three 4 (over_2 ∷ over_1 ∷ []) (Cases ((1, 1) ∷ (2, 1) ∷ []) (ByLine 0 ∷ ByLine 0 ∷ []))
    ≡ Some (reason.NotCovered 2)
unfolding covers child step do_share some_before up is_live buffer
not_covered = refl

-- each would be the other's twin but for the order
twin_of_later : first_reason three 4 (over_2 ∷ over_1 ∷ case_12 ∷ over_01 ∷ [])
    (Cases ((0, 0) ∷ (1, 0) ∷ (2, 0) ∷ []) (Twin 1 ∷ Twin 0 ∷ ByLine 3 ∷ [])) ≡ Some (reason.NotTwin 0)
unfolding have_same_moments some_before is_twin up is_live buffer
twin_of_later = refl

-- the low of 1 is 4, where 2 ends at its low, though the bound of 1 is 3: so that cite is legal, and the other is not
below_by_low : first_reason three 9 [] (Cases ((1, 3) ∷ (2, 2) ∷ []) (Below 2 ∷ Below 1 ∷ [])) ≡ Some
    (reason.NotBelow 2)
unfolding ends_below up buffer
below_by_low = refl

not_in_claim : first_reason three 4 [] (Cases ((1, 3) ∷ (2, 2) ∷ []) (Below 7 ∷ Below 1 ∷ [])) ≡ Some
    (reason.NotBelow 1)
unfolding ends_below up buffer
not_in_claim = refl

-- ---- lines
cites_of_both : HasCites case_12
cites_of_both = refl

-- ---- halving
-- at 12 a layout of height 10, and at 9 none: two capacities of one unit each
abbrev from_ten : ℕ → Option ℕ
from_ten C = cond (nat_le 10 C) (Some 10) None

halving_of_two : halving (λ C. 1) from_ten 8 16 ≡ 2
unfolding halving
halving_of_two = refl

-- a turn above the middle is cut to it
halving_of_a_high_turn : halving (λ C. 1) (λ C. Some 99) 0 2 ≡ 2
unfolding halving
halving_of_a_high_turn = refl

no_halving : halving (λ C. 1) from_ten 7 7 ≡ 0
unfolding halving
no_halving = refl
