-- Sides of small rectangles, worked out.
use Rattle.std.proofs.Common.{◌≡◌, true, false, List, [], ◌∷◌, inl, inr, ℕ, refl, arith}
use Rattle.dsa_terms.specs.Buffers.{buffer, do_share, is_live, some_before}
use Rattle.layout_picture.specs.Colours.{touch}
use Rattle.layout_picture.specs.Sides.{IsSide, IsTouching, IsUpTo, Meet, begins_on, colour_left, has_colour, has_later, is_before, left_side, lower_side, pair_of, pairs_begun, right_side, upper_side}
use Rattle.layout_picture.specs.declared.rectangle.Rectangle.{Rectangle}
use Rattle.layout_picture.proofs.ExampleFacts.{drawn, five, five_offsets}
use Rattle.layout_picture.proofs.SideLists.{made_side}

-- ---- the first three rectangles of the five: the third lies upon both others
abbrev pub first : Rectangle
first = drawn 0 0 1 0 4

abbrev pub second : Rectangle
second = drawn 1 1 2 0 4

abbrev pub third : Rectangle
third = drawn 2 0 2 4 8

the_upper_side : upper_side first ≡ made_side 4 0 1 0
the_upper_side = refl

the_lower_side : lower_side third ≡ made_side 4 0 2 2
the_lower_side = refl

this_is_a_side : IsSide (upper_side first)
this_is_a_side = omega arith

the_first_meets_the_third : Meet (upper_side first) (lower_side third)
the_first_meets_the_third = record { line = refl; begun = omega arith; not_ended = omega arith }

the_third_begins_on_the_first : begins_on (upper_side first) (lower_side third) ≡ true
the_third_begins_on_the_first = refl

the_third_begins_before_the_second : begins_on (upper_side second) (lower_side third) ≡ false
the_third_begins_before_the_second = refl

the_second_begins_on_the_third : begins_on (lower_side third) (upper_side second) ≡ true
the_second_begins_on_the_third = refl

-- what begins where a side ends is not on it
the_second_follows_the_first : begins_on (upper_side first) (upper_side second) ≡ false
the_second_follows_the_first = refl

the_pairs_of_the_third : pairs_begun (upper_side first ∷ upper_side second ∷ []) (lower_side third)
    ≡ pair_of 2 0 ∷ pair_of 2 1 ∷ []
the_pairs_of_the_third = refl

-- ---- the order
a_lower_line_is_before : is_before 4 0 (made_side 3 7 9 0) ≡ true
a_lower_line_is_before = refl

on_the_line_it_may_be : is_before 4 8 (made_side 4 7 9 0) ≡ true
on_the_line_it_may_be = refl

the_point_itself_is_not : is_before 4 7 (made_side 4 7 9 0) ≡ false
the_point_itself_is_not = refl

a_lower_line_comes_first : IsUpTo (made_side 3 7 9 0) (made_side 4 0 1 1)
a_lower_line_comes_first = inl (omega arith)

on_a_line_the_place_decides : IsUpTo (made_side 4 0 1 1) (made_side 4 0 2 0)
on_a_line_the_place_decides = inr (refl, omega arith)

-- ---- the sides of lifetimes
the_right_side : right_side five five_offsets 0 ≡ made_side 3 0 4 0
unfolding buffer
the_right_side = refl

the_left_side : left_side five five_offsets 1 ≡ made_side 3 0 4 1
unfolding buffer
the_left_side = refl

-- ---- pairs and colours
the_later_one_is_first : pair_of 0 2 ≡ record { later = 2; earlier = 0 }
the_later_one_is_first = refl

either_way : pair_of 2 0 ≡ pair_of 0 2
either_way = refl

two_is_the_later : has_later 2 (pair_of 0 2) ≡ true
two_is_the_later = refl

zero_is_not : has_later 0 (pair_of 0 2) ≡ false
zero_is_not = refl

the_first_two_touch : IsTouching five five_offsets (pair_of 0 1)
unfolding touch buffer do_share some_before is_live
the_first_two_touch = record { order = omega arith; in_range = omega arith; touching = refl }

one_has_colour_5 : has_colour (3 ∷ 5 ∷ []) (pair_of 2 1 ∷ []) 5 ≡ true
one_has_colour_5 = refl

none_has_colour_3 : has_colour (3 ∷ 5 ∷ []) (pair_of 2 1 ∷ []) 3 ≡ false
none_has_colour_3 = refl

colour_1_is_left : colour_left (0 ∷ 1 ∷ 2 ∷ []) (pair_of 3 0 ∷ pair_of 3 2 ∷ []) ≡ 1
unfolding colour_left
colour_1_is_left = refl

-- eight buffers have all eight colours, and a ninth that touches them none of its own
abbrev eight : List ℕ
eight = 0 ∷ 1 ∷ 2 ∷ 3 ∷ 4 ∷ 5 ∷ 6 ∷ 7 ∷ []

no_colour_is_left : colour_left (7 ∷ eight) (pair_of 9 1 ∷ pair_of 9 2 ∷ pair_of 9 3 ∷ pair_of 9 4 ∷ pair_of 9 5
    ∷ pair_of 9 6 ∷ pair_of 9 7 ∷ pair_of 9 8 ∷ []) ≡ 1
unfolding colour_left
no_colour_is_left = refl
