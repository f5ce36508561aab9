-- What first-fit, best-fit, the orders and the starts come to on small instances.
use Rattle.std.proofs.Common.{◌≡◌, List, [], ◌∷◌, map, refl}
use Rattle.dsa_terms.specs.Buffers.{Instance, is_live, buffer, do_share, some_before}
use Rattle.dsa_terms.specs.Claims.{Entry}
use Rattle.dsa_terms.specs.Plans.{layout_height}
use Rattle.dsa_terms.specs.Fits.{top, highest, neighbours, is_free, first_place, stretches, free_ranges, holds, is_tighter, best_place, first_fit, best_fit, least_from, is_clear}
use Rattle.dsa_terms.specs.Orders.{falls_by, rises_by, orders}
use Rattle.dsa_terms.specs.Starts.{starts, lowest_place, best_start}
use Rattle.dsa_terms.proofs.Examples.{plain, five, two_of_four, evens, filled, overrun, two_parts, small_below, made, unlike}

-- ---- one buffer beside placed ones: ranges 3..4 and 5..6 are taken, so 0..3 and 4..5 are free
abbrev taken : List Entry
taken = (0, 3) ∷ (1, 5) ∷ []

-- buffers 0 and 1 are placed; 2 is small, 3 begins at multiples of three, 4 is large
abbrev sizes : Instance
sizes = plain 0 1 1 1 ∷ plain 0 1 1 1 ∷ plain 0 1 1 1 ∷ plain 0 1 2 3 ∷ plain 0 1 4 5 ∷ []

two_ranges : free_ranges sizes taken ≡ record { start = 0; stop = 3 } ∷ record { start = 4; stop = 5 } ∷ []
unfolding free_ranges stretches is_free highest top buffer
two_ranges = refl

-- first-fit takes the lowest place, best-fit the shortest range
small_first : first_place sizes 2 taken ≡ 0
unfolding first_place is_clear least_from is_free highest top buffer
small_first = refl

small_best : best_place sizes 2 taken ≡ 4
unfolding best_place free_ranges stretches holds least_from is_tighter is_free highest top buffer
small_best = refl

-- the range 4..6 is shorter and as long as the buffer, which at its least multiple of three has no room in it
threes_best : best_place sizes 3 ((0, 3) ∷ (1, 6) ∷ []) ≡ 0
unfolding best_place free_ranges stretches holds least_from is_tighter is_free highest top buffer
threes_best = refl

-- no range has room: past all the placed, at a multiple of five
large_first : first_place sizes 4 taken ≡ 10
unfolding first_place is_clear least_from is_free highest top buffer
large_first = refl

large_best : best_place sizes 4 taken ≡ 10
unfolding best_place free_ranges stretches holds least_from is_tighter is_free highest top buffer
large_best = refl

-- two ranges of one length: the lower
tie_best : best_place sizes 2 ((0, 1) ∷ (1, 3) ∷ []) ≡ 0
unfolding best_place free_ranges stretches holds least_from is_tighter is_free highest top buffer
tie_best = refl

-- nothing is placed
alone_best : best_place sizes 4 [] ≡ 0
unfolding best_place free_ranges stretches holds least_from is_tighter is_free highest top buffer
alone_best = refl

-- ---- orders, the six starts with their heights, and the best
five_orders : orders five ≡ (0 ∷ 1 ∷ 2 ∷ 3 ∷ 4 ∷ []) ∷ (0 ∷ 2 ∷ 4 ∷ 1 ∷ 3 ∷ []) ∷ (4 ∷ 3 ∷ 2 ∷ 1 ∷ 0 ∷ []) ∷ []
unfolding orders falls_by rises_by buffer
five_orders = refl

evens_orders : orders evens ≡ (2 ∷ 0 ∷ 1 ∷ []) ∷ (0 ∷ 1 ∷ 2 ∷ []) ∷ (2 ∷ 0 ∷ 1 ∷ []) ∷ []
unfolding orders falls_by rises_by buffer
evens_orders = refl

made_orders : orders made ≡ (1 ∷ 0 ∷ []) ∷ (0 ∷ 1 ∷ []) ∷ (1 ∷ 0 ∷ []) ∷ []
unfolding orders falls_by rises_by buffer
made_orders = refl

two_parts_orders : orders two_parts ≡ (3 ∷ 0 ∷ 1 ∷ 2 ∷ []) ∷ (0 ∷ 1 ∷ 2 ∷ 3 ∷ []) ∷ (0 ∷ 3 ∷ 1 ∷ 2 ∷ []) ∷ []
unfolding orders falls_by rises_by buffer
two_parts_orders = refl

five_starts :
    starts five
    ≡ (0 ∷ 0 ∷ 4 ∷ 0 ∷ 8 ∷ []) ∷ (0 ∷ 0 ∷ 4 ∷ 0 ∷ 8 ∷ []) ∷ (8 ∷ 8 ∷ 4 ∷ 4 ∷ 0 ∷ [])
    ∷ (0 ∷ 0 ∷ 4 ∷ 0 ∷ 8 ∷ []) ∷ (0 ∷ 0 ∷ 4 ∷ 0 ∷ 8 ∷ []) ∷ (8 ∷ 8 ∷ 4 ∷ 4 ∷ 0 ∷ []) ∷ []
unfolding starts orders falls_by rises_by first_fit best_fit neighbours first_place is_clear best_place free_ranges
    stretches holds least_from is_tighter is_free highest top do_share some_before is_live buffer
five_starts = refl

five_heights : map (layout_height five) (starts five) ≡ 12 ∷ 12 ∷ 12 ∷ 12 ∷ 12 ∷ 12 ∷ []
unfolding layout_height starts orders falls_by rises_by first_fit best_fit neighbours first_place is_clear
    best_place free_ranges stretches holds least_from is_tighter is_free highest top do_share some_before is_live
    buffer
five_heights = refl

two_of_four_starts :
    starts two_of_four
    ≡ (0 ∷ 4 ∷ []) ∷ (0 ∷ 4 ∷ []) ∷ (0 ∷ 4 ∷ []) ∷ (0 ∷ 4 ∷ []) ∷ (0 ∷ 4 ∷ []) ∷ (0 ∷ 4 ∷ []) ∷ []
unfolding starts orders falls_by rises_by first_fit best_fit neighbours first_place is_clear best_place free_ranges
    stretches holds least_from is_tighter is_free highest top do_share some_before is_live buffer
two_of_four_starts = refl

two_of_four_heights : map (layout_height two_of_four) (starts two_of_four) ≡ 7 ∷ 7 ∷ 7 ∷ 7 ∷ 7 ∷ 7 ∷ []
unfolding layout_height starts orders falls_by rises_by first_fit best_fit neighbours first_place is_clear
    best_place free_ranges stretches holds least_from is_tighter is_free highest top do_share some_before is_live
    buffer
two_of_four_heights = refl

evens_starts :
    starts evens
    ≡ (2 ∷ 4 ∷ 0 ∷ []) ∷ (0 ∷ 2 ∷ 3 ∷ []) ∷ (2 ∷ 4 ∷ 0 ∷ [])
    ∷ (2 ∷ 4 ∷ 0 ∷ []) ∷ (0 ∷ 2 ∷ 3 ∷ []) ∷ (2 ∷ 4 ∷ 0 ∷ []) ∷ []
unfolding starts orders falls_by rises_by first_fit best_fit neighbours first_place is_clear best_place free_ranges
    stretches holds least_from is_tighter is_free highest top do_share some_before is_live buffer
evens_starts = refl

evens_heights : map (layout_height evens) (starts evens) ≡ 5 ∷ 5 ∷ 5 ∷ 5 ∷ 5 ∷ 5 ∷ []
unfolding layout_height starts orders falls_by rises_by first_fit best_fit neighbours first_place is_clear
    best_place free_ranges stretches holds least_from is_tighter is_free highest top do_share some_before is_live
    buffer
evens_heights = refl

filled_starts :
    starts filled
    ≡ (0 ∷ 0 ∷ []) ∷ (0 ∷ 0 ∷ []) ∷ (0 ∷ 0 ∷ []) ∷ (0 ∷ 0 ∷ []) ∷ (0 ∷ 0 ∷ []) ∷ (0 ∷ 0 ∷ []) ∷ []
unfolding starts orders falls_by rises_by first_fit best_fit neighbours first_place is_clear best_place free_ranges
    stretches holds least_from is_tighter is_free highest top do_share some_before is_live buffer
filled_starts = refl

filled_heights : map (layout_height filled) (starts filled) ≡ 4 ∷ 4 ∷ 4 ∷ 4 ∷ 4 ∷ 4 ∷ []
unfolding layout_height starts orders falls_by rises_by first_fit best_fit neighbours first_place is_clear
    best_place free_ranges stretches holds least_from is_tighter is_free highest top do_share some_before is_live
    buffer
filled_heights = refl

overrun_starts :
    starts overrun
    ≡ (0 ∷ 4 ∷ []) ∷ (0 ∷ 4 ∷ []) ∷ (0 ∷ 4 ∷ []) ∷ (0 ∷ 4 ∷ []) ∷ (0 ∷ 4 ∷ []) ∷ (0 ∷ 4 ∷ []) ∷ []
unfolding starts orders falls_by rises_by first_fit best_fit neighbours first_place is_clear best_place free_ranges
    stretches holds least_from is_tighter is_free highest top do_share some_before is_live buffer
overrun_starts = refl

overrun_heights : map (layout_height overrun) (starts overrun) ≡ 8 ∷ 8 ∷ 8 ∷ 8 ∷ 8 ∷ 8 ∷ []
unfolding layout_height starts orders falls_by rises_by first_fit best_fit neighbours first_place is_clear
    best_place free_ranges stretches holds least_from is_tighter is_free highest top do_share some_before is_live
    buffer
overrun_heights = refl

two_parts_starts :
    starts two_parts
    ≡ (0 ∷ 2 ∷ 4 ∷ 0 ∷ []) ∷ (0 ∷ 0 ∷ 2 ∷ 3 ∷ []) ∷ (0 ∷ 2 ∷ 4 ∷ 0 ∷ [])
    ∷ (0 ∷ 2 ∷ 4 ∷ 0 ∷ []) ∷ (0 ∷ 0 ∷ 2 ∷ 3 ∷ []) ∷ (0 ∷ 2 ∷ 4 ∷ 0 ∷ []) ∷ []
unfolding starts orders falls_by rises_by first_fit best_fit neighbours first_place is_clear best_place free_ranges
    stretches holds least_from is_tighter is_free highest top do_share some_before is_live buffer
two_parts_starts = refl

two_parts_heights : map (layout_height two_parts) (starts two_parts) ≡ 5 ∷ 5 ∷ 5 ∷ 5 ∷ 5 ∷ 5 ∷ []
unfolding layout_height starts orders falls_by rises_by first_fit best_fit neighbours first_place is_clear
    best_place free_ranges stretches holds least_from is_tighter is_free highest top do_share some_before is_live
    buffer
two_parts_heights = refl

small_below_starts :
    starts small_below
    ≡ (0 ∷ 4 ∷ []) ∷ (0 ∷ 4 ∷ []) ∷ (0 ∷ 4 ∷ []) ∷ (0 ∷ 4 ∷ []) ∷ (0 ∷ 4 ∷ []) ∷ (0 ∷ 4 ∷ []) ∷ []
unfolding starts orders falls_by rises_by first_fit best_fit neighbours first_place is_clear best_place free_ranges
    stretches holds least_from is_tighter is_free highest top do_share some_before is_live buffer
small_below_starts = refl

small_below_heights : map (layout_height small_below) (starts small_below) ≡ 5 ∷ 5 ∷ 5 ∷ 5 ∷ 5 ∷ 5 ∷ []
unfolding layout_height starts orders falls_by rises_by first_fit best_fit neighbours first_place is_clear
    best_place free_ranges stretches holds least_from is_tighter is_free highest top do_share some_before is_live
    buffer
small_below_heights = refl

made_starts :
    starts made
    ≡ (52 ∷ 0 ∷ []) ∷ (0 ∷ 15 ∷ []) ∷ (52 ∷ 0 ∷ []) ∷ (52 ∷ 0 ∷ []) ∷ (0 ∷ 15 ∷ []) ∷ (52 ∷ 0 ∷ []) ∷ []
unfolding starts orders falls_by rises_by first_fit best_fit neighbours first_place is_clear best_place free_ranges
    stretches holds least_from is_tighter is_free highest top do_share some_before is_live buffer
made_starts = refl

made_heights : map (layout_height made) (starts made) ≡ 66 ∷ 66 ∷ 66 ∷ 66 ∷ 66 ∷ 66 ∷ []
unfolding layout_height starts orders falls_by rises_by first_fit best_fit neighbours first_place is_clear
    best_place free_ranges stretches holds least_from is_tighter is_free highest top do_share some_before is_live
    buffer
made_heights = refl

unlike_starts :
    starts unlike
    ≡ (12 ∷ 6 ∷ 0 ∷ 14 ∷ 0 ∷ 10 ∷ []) ∷ (0 ∷ 9 ∷ 1 ∷ 2 ∷ 13 ∷ 6 ∷ []) ∷ (9 ∷ 12 ∷ 0 ∷ 8 ∷ 0 ∷ 6 ∷ [])
    ∷ (12 ∷ 6 ∷ 0 ∷ 14 ∷ 0 ∷ 10 ∷ []) ∷ (0 ∷ 9 ∷ 1 ∷ 8 ∷ 1 ∷ 6 ∷ []) ∷ (9 ∷ 12 ∷ 0 ∷ 8 ∷ 0 ∷ 6 ∷ []) ∷ []
unfolding starts orders falls_by rises_by first_fit best_fit neighbours first_place is_clear best_place free_ranges
    stretches holds least_from is_tighter is_free highest top do_share some_before is_live buffer
unlike_starts = refl

unlike_heights : map (layout_height unlike) (starts unlike) ≡ 15 ∷ 18 ∷ 16 ∷ 15 ∷ 13 ∷ 16 ∷ []
unfolding layout_height starts orders falls_by rises_by first_fit best_fit neighbours first_place is_clear
    best_place free_ranges stretches holds least_from is_tighter is_free highest top do_share some_before is_live
    buffer
unlike_heights = refl

five_best : best_start five ≡ 0 ∷ 0 ∷ 4 ∷ 0 ∷ 8 ∷ []
unfolding best_start lowest_place layout_height starts orders falls_by rises_by first_fit best_fit neighbours
    first_place is_clear best_place free_ranges stretches holds least_from is_tighter is_free highest top do_share
    some_before is_live buffer
five_best = refl

evens_best : best_start evens ≡ 2 ∷ 4 ∷ 0 ∷ []
unfolding best_start lowest_place layout_height starts orders falls_by rises_by first_fit best_fit neighbours
    first_place is_clear best_place free_ranges stretches holds least_from is_tighter is_free highest top do_share
    some_before is_live buffer
evens_best = refl

made_best : best_start made ≡ 52 ∷ 0 ∷ []
unfolding best_start lowest_place layout_height starts orders falls_by rises_by first_fit best_fit neighbours
    first_place is_clear best_place free_ranges stretches holds least_from is_tighter is_free highest top do_share
    some_before is_live buffer
made_best = refl

unlike_best : best_start unlike ≡ 0 ∷ 9 ∷ 1 ∷ 8 ∷ 1 ∷ 6 ∷ []
unfolding best_start lowest_place layout_height starts orders falls_by rises_by first_fit best_fit neighbours
    first_place is_clear best_place free_ranges stretches holds least_from is_tighter is_free highest top do_share
    some_before is_live buffer
unlike_best = refl

-- of equal heights the first
first_of_lowest : lowest_place (3 ∷ 2 ∷ 4 ∷ 2 ∷ []) ≡ 1
unfolding lowest_place
first_of_lowest = refl

-- no buffers
none_best : best_start [] ≡ []
unfolding best_start lowest_place layout_height starts orders falls_by rises_by first_fit best_fit
none_best = refl
