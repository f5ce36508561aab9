-- Reasons one by one: of a claim, of an Over line, and of cites; and the stack added up entry by entry.
use Rattle.std.proofs.Common.{◌≡◌, true, false, [], ◌∷◌, Some, None, refl, arith}
use Rattle.dsa_terms.specs.Buffers.{Instance, is_live, buffer, do_share, have_same_moments, some_before}
use Rattle.dsa_terms.specs.Claims.{Claim, up, step, child}
use Rattle.dsa_terms.specs.Logs.{is_stacked, rounded, rounding, ends_below, is_twin, ByLine, Below, Twin, Over, Cases}
use Rattle.dsa_terms.proofs.Examples.{plain, evens, over_2, over_1, case_12, over_01, case_all}
use Rattle.refute_log.specs.Reasons.{covers, claim_reason, over_reason, line_reason, cite_reason, cites_reason, rule_reason}
use Rattle.refute_log.specs.Stacks.{stacks, AddedUp}
use Rattle.refute_log.specs.declared.reason.Reason.TheVariants as reason

-- two buffers of size 1 at even offsets and one of size 2; buffers 1 and 2 from 1 on
abbrev from_one : Claim
from_one = (1, 1) ∷ (2, 1) ∷ []

abbrev all_three : Claim
all_three = (0, 0) ∷ (1, 0) ∷ (2, 0) ∷ []

-- ---- claims: buffer 2 is the last of three
last_in_range : claim_reason evens ((2, 9) ∷ []) ≡ None
last_in_range = refl

past_the_last : claim_reason evens ((1, 0) ∷ (3, 0) ∷ (4, 0) ∷ []) ≡ Some (reason.BufferRange 3)
past_the_last = refl

no_claim : claim_reason evens [] ≡ Some reason.EmptyClaim
no_claim = refl

-- ---- Over lines: from 2 on both come to 5 by the modulus 2, which is above 4 and not above 5
is_over : over_reason evens 4 ((0, 2) ∷ (1, 2) ∷ []) 0 2 2 ≡ None
unfolding is_stacked rounded rounding up is_live buffer
is_over = refl

not_over : over_reason evens 5 ((0, 2) ∷ (1, 2) ∷ []) 0 2 2 ≡ Some reason.NotOver
unfolding is_stacked rounded rounding up is_live buffer
not_over = refl

no_modulus : over_reason evens 4 ((0, 2) ∷ (1, 2) ∷ []) 0 2 0 ≡ Some reason.ZeroModulus
no_modulus = refl

no_multiple : over_reason evens 4 ((0, 2) ∷ (1, 2) ∷ []) 0 3 2 ≡ Some reason.NotMultiple
no_multiple = refl

none_live : over_reason evens 4 ((0, 2) ∷ (1, 2) ∷ []) 1 2 2 ≡ Some reason.EmptySet
unfolding is_stacked rounded rounding up is_live buffer
none_live = refl

-- ---- lines that are cited for buffer 1: the child is 2 at 3 or above
covered : line_reason evens from_one (1, 1) (Some over_2) ≡ None
unfolding covers child up step do_share some_before is_live buffer
covered = refl

not_covered : line_reason evens from_one (1, 1) (Some over_1) ≡ Some (reason.NotCovered 1)
unfolding covers child up step do_share some_before is_live buffer
not_covered = refl

bound_too_high : line_reason evens from_one (1, 1) (Some (Over ((2, 4) ∷ []) 0 4 1)) ≡ Some (reason.NotCovered 1)
unfolding covers child up step do_share some_before is_live buffer
bound_too_high = refl

no_line : line_reason evens from_one (1, 1) None ≡ Some (reason.NotEarlier 1)
no_line = refl

-- ---- cites: line 0, not line 1, and no line 2
cites_line_0 : cite_reason evens (over_2 ∷ over_1 ∷ []) from_one (1, 1) (ByLine 0) ≡ None
unfolding covers child up step do_share some_before is_live buffer
cites_line_0 = refl

cites_line_1 : cite_reason evens (over_2 ∷ over_1 ∷ []) from_one (1, 1) (ByLine 1) ≡ Some (reason.NotCovered 1)
unfolding covers child up step do_share some_before is_live buffer
cites_line_1 = refl

cites_line_2 : cite_reason evens (over_2 ∷ over_1 ∷ []) from_one (1, 1) (ByLine 2) ≡ Some (reason.NotEarlier 1)
cites_line_2 = refl

-- 2 ends at the up of 1, which is 4, and not the other way round
cites_below : cite_reason evens [] ((1, 3) ∷ (2, 2) ∷ []) (1, 3) (Below 2) ≡ None
unfolding ends_below up buffer
cites_below = refl

cites_above : cite_reason evens [] ((1, 3) ∷ (2, 2) ∷ []) (2, 2) (Below 1) ≡ Some (reason.NotBelow 2)
unfolding ends_below up buffer
cites_above = refl

below_not_there : cite_reason evens [] ((1, 3) ∷ []) (1, 3) (Below 2) ≡ Some (reason.NotBelow 1)
below_not_there = refl

-- 0 is a twin before 1, and 2 is none
cites_twin : cite_reason evens [] all_three (1, 0) (Twin 0) ≡ None
unfolding is_twin have_same_moments some_before is_live up buffer
cites_twin = refl

cites_no_twin : cite_reason evens [] all_three (1, 0) (Twin 2) ≡ Some (reason.NotTwin 1)
unfolding is_twin have_same_moments some_before is_live up buffer
cites_no_twin = refl

-- the second cite is the first that is not legal
second_cite :
    cites_reason evens [] all_three all_three (Below 9 ∷ []) ≡ Some (reason.NotBelow 0)
second_cite = refl

third_cite :
    cites_reason evens [] all_three ((1, 0) ∷ (2, 0) ∷ (0, 0) ∷ []) (Twin 0 ∷ ByLine 0 ∷ Twin 1 ∷ [])
    ≡ Some (reason.NotEarlier 2)
unfolding is_twin have_same_moments some_before is_live up buffer
third_cite = refl

no_cites : cites_reason evens [] all_three [] [] ≡ None
no_cites = refl

-- ---- the rules: a whole line of each kind, and a count of cites that differs before any cite
over_rule : rule_reason evens 4 [] over_01 ≡ None
unfolding is_stacked rounded rounding up is_live buffer
over_rule = refl

cases_rule : rule_reason evens 4 (over_2 ∷ over_1 ∷ case_12 ∷ over_01 ∷ []) case_all ≡ None
unfolding covers child step do_share some_before have_same_moments is_twin ends_below up is_live buffer
cases_rule = refl

count_first : rule_reason evens 4 [] (Cases from_one (ByLine 0 ∷ [])) ≡ Some reason.CitesDiffer
count_first = refl

cite_rule : rule_reason evens 4 [] (Cases from_one (ByLine 0 ∷ ByLine 1 ∷ [])) ≡ Some (reason.NotEarlier 1)
cite_rule = refl

-- ---- one buffer of the stack: size 1 at even offsets, whose up is 2 for the bound 1
is_counted : stacks (plain 0 1 1 2) 1 0 2 2 ≡ true
unfolding is_live
is_counted = refl

not_live_then : stacks (plain 0 1 1 2) 1 1 2 2 ≡ false
unfolding is_live
not_live_then = refl

starts_below : stacks (plain 0 1 1 2) 1 0 3 1 ≡ false
unfolding is_live
starts_below = refl

other_multiples : stacks (plain 0 1 1 2) 1 0 2 4 ≡ false
unfolding is_live
other_multiples = refl

-- ---- the stack of sizes 3 and 2 rounded up to 4, with the roundings 1 and 2, added up
abbrev fours : Instance
fours = plain 0 1 3 4 ∷ plain 0 1 2 4 ∷ []

abbrev both : Claim
both = (0, 0) ∷ (1, 0) ∷ []

none_added : AddedUp fours both 0 0 4 0 false 0 0
unfolding is_stacked rounded rounding up is_live buffer
none_added = record { some_of = refl; sum_of = refl; most_of = refl; limit = omega arith }

one_added : AddedUp fours both 0 0 4 1 true 4 1
unfolding is_stacked rounded rounding up is_live buffer
one_added = record { some_of = refl; sum_of = refl; most_of = refl; limit = omega arith }

two_added : AddedUp fours both 0 0 4 2 true 8 2
unfolding is_stacked rounded rounding up is_live buffer
two_added = record { some_of = refl; sum_of = refl; most_of = refl; limit = omega arith }

-- without the rounding, with the first rounding alone, and without a buffer
not_rounded : AddedUp fours both 0 0 4 2 true 5 2 → ⊥
unfolding is_stacked rounded rounding up is_live buffer
not_rounded a = let h = a.sum_of in cc

not_the_greatest : AddedUp fours both 0 0 4 2 true 8 1 → ⊥
unfolding is_stacked rounded rounding up is_live buffer
not_the_greatest a = let h = a.most_of in cc

not_none : AddedUp fours both 0 0 4 2 false 8 2 → ⊥
unfolding is_stacked rounded rounding up is_live buffer
not_none a = let h = a.some_of in cc
