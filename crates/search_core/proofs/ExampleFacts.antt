-- Worked facts: a buffer of size 3 beside one of size 1 that stands at multiples of 4 alone, which fit into 4 and
-- not into 3.
use Rattle.std.proofs.Common.{◌≡◌, ◌-◌, ◌^◌, [], ◌∷◌, Some, None, refl, arith}
use Rattle.search_core.proofs.Words.{Log, Over, small_below}
use Rattle.refute_log.specs.Answers.{Offsets, Refutation}
use Rattle.refute_log.specs.declared.decided.Decided.TheVariants.{Spent}
use Rattle.branching.proofs.Computing.{computing_searched, computing_work}
use Rattle.search_core.specs.Courses.{at_start}
use Rattle.search_core.specs.Decisions.{IsGiven, allowance_of, charge_of, turn_of}
use Rattle.search_core.specs.Descents.{above_of, owed, root_of}
use Rattle.search_core.specs.Meters.{AreCounted, AreMore, AreMoreBy, AreSpent, AreWithin, HasUnit, Units, units_counted}
use Rattle.search_core.specs.Outcomes.{LinesAreCounted, spends_after}
use Rattle.search_core.proofs.TurnFacts.{at_root}

-- ---- units
nothing_counted : units_counted None 3 ≡ 0
nothing_counted = refl

all_counted : units_counted (Some 5) 3 ≡ 3
all_counted = refl

one_is_left : HasUnit (record { most = Some 2; used = 1 })
one_is_left = omega arith

none_is_left : AreSpent (record { most = Some 2; used = 2 })
none_is_left = refl

no_number_is_never_spent : AreSpent (record { most = None; used = 0 }) → ⊥
no_number_is_never_spent h = h

none_without_number : AreWithin (record { most = None; used = 0 })
none_without_number = refl

one_more : AreMore (record { most = Some 7; used = 2 }) (record { most = Some 7; used = 3 })
one_more = omega arith

no_more : AreMore (record { most = Some 7; used = 2 }) (record { most = Some 7; used = 2 }) → ⊥
no_more h = omega (arith, h)

no_more_without_number : AreMore (record { most = None; used = 0 }) (record { most = None; used = 0 })
no_more_without_number = omega arith

-- two lines take two of seven units
abbrev unused : Units
unused = record { most = Some 7; used = 0 }

abbrev two_used : Units
two_used = record { most = Some 7; used = 2 }

two_lines_take_two : AreMoreBy 2 unused two_used
two_lines_take_two = omega arith

two_take_no_third : AreMoreBy 3 unused two_used → ⊥
two_take_no_third h = omega (arith, h)

no_lines_take_units_without_number : AreMoreBy 9 (record { most = None; used = 0 }) (record { most = None; used = 0 })
no_lines_take_units_without_number = omega arith

two_more_than_one : AreCounted unused two_used 1 3
two_more_than_one = omega arith

not_three_more_than_one : AreCounted unused two_used 1 4 → ⊥
not_three_more_than_one h = omega (arith, h)

a_spent_answer_has_no_lines : LinesAreCounted two_used two_used Spent
a_spent_answer_has_no_lines = tt

a_spent_answer_is_counted : spends_after 3 Spent ≡ 4
a_spent_answer_is_counted = refl

answers_are_counted_to_the_end : spends_after (2 ^ 64 - 1) Spent ≡ 2 ^ 64 - 1
answers_are_counted_to_the_end = refl

allowance_of_seven : allowance_of (Some 7) ≡ 7
allowance_of_seven = refl

allowance_of_none : allowance_of None ≡ 2 ^ 64
allowance_of_none = refl

starts_unused : at_start small_below (Some 7) ≡ record { subject = small_below; units = unused; spends = 0 }
starts_unused = refl

-- ---- claims above the last one
last_one_first : above_of (((0, 0) ∷ (1, 0) ∷ []) ∷ ((1, 3) ∷ []) ∷ [] ∷ []) ≡ ((1, 3) ∷ []) ∷
    ((0, 0) ∷ (1, 0) ∷ []) ∷ []
last_one_first = refl

the_first_one : root_of [] (((1, 3) ∷ []) ∷ ((0, 0) ∷ (1, 0) ∷ []) ∷ []) ≡ (0, 0) ∷ (1, 0) ∷ []
the_first_one = refl

-- four claims in all at 4
four_owed : owed small_below 4 at_root ≡ 4
unfolding computing_work
four_owed = refl

-- ---- answers
small_stands_below : IsGiven small_below 4 (Offsets (1 ∷ 0 ∷ []))
unfolding computing_searched
small_stands_below = refl

height_of_four : turn_of small_below 4 ≡ Some 4
unfolding computing_searched
height_of_four = refl

none_below_four : turn_of small_below 3 ≡ None
unfolding computing_searched
none_below_four = refl

-- ---- what an answer takes at least
abbrev two_lines : Log
two_lines = record { count = 2; capacity = 3; lines = Over [] 0 0 1 ∷ Over [] 0 0 1 ∷ []; final = 1 }

one_for_a_layout : charge_of small_below 5 (Offsets (1 ∷ 0 ∷ [])) ≡ 1
one_for_a_layout = refl

none_for_no_buffers : charge_of [] 5 (Offsets []) ≡ 0
none_for_no_buffers = refl

one_for_each_line : charge_of small_below 5 (Refutation two_lines) ≡ 2
one_for_each_line = refl

none_without_a_number : charge_of small_below (allowance_of None) (Refutation two_lines) ≡ 0
none_without_a_number = refl
