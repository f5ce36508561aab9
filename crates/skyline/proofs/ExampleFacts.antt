-- Worked skylines: lows, bounds that lie above them, and sections that are too full.
use Rattle.std.proofs.Common.{◌≡◌, ℕ, ◌+◌, false, List, [], ◌∷◌, Some, None, max, refl}
use Rattle.dsa_terms.specs.Buffers.{Buffer, Instance, is_live, buffer, do_share, some_before}
use Rattle.dsa_terms.specs.Claims.{child, number_of, step, up}
use Rattle.dsa_terms.specs.Parts.{whole}
use Rattle.dsa_terms.proofs.Examples.{high_fours, low}
use Rattle.lifetime.specs.SectionList.{SectionList, section_with}
use Rattle.skyline.specs.Carried.{claims_of, ledge_at, heights_after, offsets_after}
use Rattle.skyline.specs.LowsOf.{has_level, least_low, low_of}
use Rattle.skyline.specs.Overloads.{free_load, is_left, least_of, least_up, over, overloaded}
use Rattle.skyline.specs.Places.{at_places, set_each}
use Rattle.skyline.specs.Skies.{first_claim, last_claim}
use Rattle.skyline.specs.Standing.{claim_after, ledge, offset_after, raised, top_under}

abbrev pub plain : ℕ → ℕ → ℕ → ℕ → Buffer
plain lower upper size alignment =
    record { lower = lower; upper = upper; size = size; alignment = alignment; gaps = []; lowest = 0 }

abbrev pub all_three : List ℕ
all_three = 0 ∷ 1 ∷ 2 ∷ []

-- ---- two buffers of size 1 at even offsets and one of size 2, all live at moment 0
abbrev pub together : Instance
together = plain 0 1 1 2 ∷ plain 0 1 1 2 ∷ plain 0 1 2 1 ∷ []

abbrev pub one_section : SectionList
one_section = record {
  sections = section_with 0 all_three ∷ [];
  of_buffers = (0 ∷ []) ∷ (0 ∷ []) ∷ (0 ∷ []) ∷ [];
}

-- buffers 0 and 1 stand at 0 and 2
claims_are : claims_of together (whole together all_three) (1 ∷ 0 ∷ []) ≡
    ((0, 0) ∷ (1, 0) ∷ (2, 0) ∷ []) ∷ ((1, 1) ∷ (2, 1) ∷ []) ∷ ((2, 3) ∷ []) ∷ []
unfolding child up step do_share some_before is_live buffer
claims_are = refl

offsets_are : offsets_after together (whole together all_three) (1 ∷ 0 ∷ []) ≡ 2 ∷ 0 ∷ []
unfolding child up step do_share some_before is_live buffer
offsets_are = refl

heights_are : heights_after together one_section (whole together all_three) (1 ∷ 0 ∷ []) ≡ 3 ∷ []
unfolding child up step do_share some_before is_live buffer
heights_are = refl

first_is : first_claim (claims_of together (whole together all_three) (1 ∷ 0 ∷ [])) ≡ (0, 0) ∷ (1, 0) ∷ (2, 0) ∷ []
unfolding child up step do_share some_before is_live buffer
first_is = refl

last_is : last_claim (claims_of together (whole together all_three) (1 ∷ 0 ∷ [])) ≡ (2, 3) ∷ []
unfolding child up step do_share some_before is_live buffer
last_is = refl

-- buffer 2 at 3 passes 4, and so does buffer 1 at 4 once buffer 2 stands at 1
too_full_at_3 : overloaded together one_section ((2, 3) ∷ []) 4 ≡ Some (0, 3)
unfolding overloaded over least_up free_load is_left up buffer
too_full_at_3 = refl

too_full_at_4 : overloaded together one_section ((1, 3) ∷ []) 4 ≡ Some (0, 4)
unfolding overloaded over least_up free_load is_left up buffer
too_full_at_4 = refl

-- buffers 1 and 2 from 1 on just fit, and where nothing is left nothing is too full
just_fits : overloaded together one_section ((1, 2) ∷ (2, 1) ∷ []) 4 ≡ None
unfolding overloaded over least_up free_load is_left up buffer
just_fits = refl

nothing_left : overloaded together one_section [] 0 ≡ None
unfolding overloaded over least_up free_load is_left up buffer
nothing_left = refl

-- the earliest section counts: the first one just fits, the second one is too full
abbrev in_turn : Instance
in_turn = plain 0 1 3 1 ∷ plain 1 2 5 1 ∷ []

second_is_full : overloaded in_turn
    (record {
      sections = section_with 0 (0 ∷ []) ∷ section_with 1 (1 ∷ []) ∷ [];
      of_buffers =
          (0 ∷ []) ∷ (1 ∷ []) ∷ [];
    })
    ((0, 1) ∷ (1, 0) ∷ []) 4 ≡ Some (1, 0)
unfolding overloaded over least_up free_load is_left up buffer
second_is_full = refl

-- ---- the ledge
ledge_of_smaller : ledge_at (2 ∷ 0 ∷ []) (7 ∷ 5 ∷ []) 1 ≡ 8
ledge_of_smaller = refl

ledge_of_greater : ledge_at (2 ∷ 0 ∷ []) (7 ∷ 5 ∷ []) 3 ≡ 7
ledge_of_greater = refl

-- ---- heights and the ledge give the low of a buffer, and not its bound
-- buffer 1 has to start at a multiple of 4, and shares a moment with buffer 0 alone
abbrev rounded_twice : Instance
rounded_twice = plain 0 2 1 1 ∷ plain 0 1 1 4 ∷ plain 1 2 1 2 ∷ []

-- its bound once the buffers 0 and 2 stand
bound_is_4 : number_of (claim_after rounded_twice (whole rounded_twice all_three) (2 ∷ 0 ∷ [])) 1 ≡ 4
unfolding child up step do_share some_before is_live buffer
bound_is_4 = refl

-- the greatest of the tops and the ledge is less
tops_and_ledge_are_3 : max (top_under rounded_twice (whole rounded_twice all_three) (2 ∷ 0 ∷ []) 1)
    (ledge rounded_twice (whole rounded_twice all_three) (2 ∷ 0 ∷ []) 1) ≡ 3
unfolding child up step do_share some_before is_live buffer
tops_and_ledge_are_3 = refl

raised_is_3 : raised rounded_twice (whole rounded_twice all_three) (2 ∷ 0 ∷ []) 1 ≡ 3
unfolding child up step do_share some_before is_live buffer
raised_is_3 = refl

-- and the least multiple is the same
low_is_4 : offset_after rounded_twice (whole rounded_twice all_three) (2 ∷ 0 ∷ []) 1 ≡ 4
unfolding child up step do_share some_before is_live buffer
low_is_4 = refl

-- ---- the lowest: buffer 0 has to start at 6 or above, also where buffer 1 stands at 0 with its top at 4
low_claims : claims_of low (whole low (0 ∷ 1 ∷ [])) (1 ∷ []) ≡ ((0, 6) ∷ (1, 0) ∷ []) ∷ ((0, 6) ∷ []) ∷ []
unfolding child up step do_share some_before is_live buffer
low_claims = refl

raised_to_lowest : raised low (whole low (0 ∷ 1 ∷ [])) (1 ∷ []) 0 ≡ 6
unfolding child up step do_share some_before is_live buffer
raised_to_lowest = refl

tops_and_ledge_are_4 : max (top_under low (whole low (0 ∷ 1 ∷ [])) (1 ∷ []) 0)
    (ledge low (whole low (0 ∷ 1 ∷ [])) (1 ∷ []) 0) ≡ 4
unfolding child up step do_share some_before is_live buffer
tops_and_ledge_are_4 = refl

-- one that stands above its lowest raises the other past both
above_lowest : offsets_after low (whole low (0 ∷ 1 ∷ [])) (1 ∷ 0 ∷ []) ≡ 10 ∷ 6 ∷ []
unfolding child up step do_share some_before is_live buffer
above_lowest = refl

-- a lowest of 5 with the alignment 4 gives the low 8
rounded_lowest : offset_after high_fours (whole high_fours all_three) [] 0 ≡ 8
unfolding child up step do_share some_before is_live buffer
rounded_lowest = refl

-- ---- places
written : set_each (λ s. s + 10) (0 ∷ 2 ∷ []) (5 ∷ 6 ∷ 7 ∷ []) ≡ 10 ∷ 6 ∷ 12 ∷ []
written = refl

read : at_places (5 ∷ 6 ∷ 7 ∷ []) (2 ∷ 0 ∷ []) ≡ 7 ∷ 5 ∷ []
read = refl

least : least_of (4 ∷ 2 ∷ 3 ∷ []) ≡ Some 2
least = refl

least_of_none : least_of [] ≡ None
least_of_none = refl

-- ---- lows by levels: buffer 0 is not in the claim, and the others have the lows 4 and 2
least_by_levels : least_low (0 ∷ 5 ∷ 3 ∷ []) all_three ≡ Some 2
least_by_levels = refl

none_by_levels : least_low (0 ∷ 5 ∷ 3 ∷ []) (0 ∷ []) ≡ None
none_by_levels = refl

low_by_level : low_of (0 ∷ 5 ∷ 3 ∷ []) 1 ≡ 4
low_by_level = refl

no_level : has_level (0 ∷ 5 ∷ 3 ∷ []) 0 ≡ false
no_level = refl
