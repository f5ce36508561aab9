-- Parts: which buffers no cut lies between, and answers of the parts put together.
use Rattle.std.proofs.Common.{◌≡◌, ℕ, true, false, [], ◌∷◌, map, Some, None, refl}
use Rattle.dsa_terms.specs.Buffers.{Instance, is_live, buffer, do_share, have_same_moments, some_before}
use Rattle.dsa_terms.specs.Claims.{up, step, child}
use Rattle.dsa_terms.specs.Logs.{ends_below, is_twin}
use Rattle.dsa_terms.specs.Search.{is_tall, comes_before, first}
use Rattle.dsa_terms.specs.Parts.{is_cut, is_empty, are_parted, are_uncut, part_of, is_leader, parts, join, first_of_all, offsets_of, offsets_found}
use Rattle.dsa_terms.proofs.Examples.{plain, five, evens, two_parts}

some_item : is_empty {X = ℕ} (7 ∷ []) ≡ false
some_item = refl

no_item : is_empty {X = ℕ} [] ≡ true
no_item = refl

-- ---- a cut parts two buffers: 2 lies between the first of two parts and the others, and not the other way round
parted : map (are_parted two_parts 0) (0 ∷ 1 ∷ 2 ∷ 3 ∷ []) ≡ false ∷ true ∷ true ∷ true ∷ []
unfolding are_parted is_cut buffer
parted = refl

parted_backwards : map (λ b. are_parted two_parts b 0) (1 ∷ 2 ∷ 3 ∷ []) ≡ false ∷ false ∷ false ∷ []
unfolding are_parted is_cut buffer
parted_backwards = refl

-- whichever comes first
uncut : map (λ b. are_uncut two_parts b 1) (0 ∷ 1 ∷ 2 ∷ 3 ∷ []) ≡ false ∷ true ∷ true ∷ true ∷ []
unfolding are_uncut are_parted is_cut buffer
uncut = refl

uncut_from_first : map (are_uncut two_parts 0) (0 ∷ 1 ∷ 2 ∷ 3 ∷ []) ≡ true ∷ false ∷ false ∷ false ∷ []
unfolding are_uncut are_parted is_cut buffer
uncut_from_first = refl

-- 0..3 is followed by 3..9, and a third one is live before 3 and at 3, so that 3 is no cut
followed_uncut : are_uncut five 0 1 ≡ true
unfolding are_uncut are_parted is_cut buffer
followed_uncut = refl

-- each moment from 2 to 5 is a cut between the two
abbrev pub paused : Instance
paused = plain 0 2 1 1 ∷ plain 5 6 1 1 ∷ []

pause_parts : map (are_parted paused 0) (0 ∷ 1 ∷ []) ≡ false ∷ true ∷ []
unfolding are_parted is_cut buffer
pause_parts = refl

-- ---- the part of each buffer, and which of them have the smallest number in it
parts_of_each :
    map (part_of two_parts) (0 ∷ 1 ∷ 2 ∷ 3 ∷ [])
    ≡ (0 ∷ []) ∷ (1 ∷ 2 ∷ 3 ∷ []) ∷ (1 ∷ 2 ∷ 3 ∷ []) ∷ (1 ∷ 2 ∷ 3 ∷ []) ∷ []
unfolding part_of are_uncut are_parted is_cut buffer
parts_of_each = refl

firsts : map (is_leader two_parts) (0 ∷ 1 ∷ 2 ∷ 3 ∷ []) ≡ true ∷ true ∷ false ∷ false ∷ []
unfolding is_leader part_of are_uncut are_parted is_cut buffer
firsts = refl

-- the parts go by time, and not by number
abbrev pub later_first : Instance
later_first = plain 4 7 1 1 ∷ plain 0 2 1 1 ∷ plain 6 9 1 1 ∷ plain 1 3 1 1 ∷ []

by_time : parts later_first ≡ (1 ∷ 3 ∷ []) ∷ (0 ∷ 2 ∷ []) ∷ []
unfolding parts part_of is_leader are_uncut are_parted is_cut buffer
by_time = refl

-- ---- answers put together: none where one of them is none
joined : join (Some ((0, 3) ∷ [])) (Some ((1, 4) ∷ (2, 0) ∷ [])) ≡ Some ((0, 3) ∷ (1, 4) ∷ (2, 0) ∷ [])
joined = refl

first_is_none : join None (Some ((1, 4) ∷ [])) ≡ None
first_is_none = refl

second_is_none : join (Some ((0, 3) ∷ [])) None ≡ None
second_is_none = refl

-- a part of one buffer, and then one of three that needs a capacity of 5
both_parts :
    first_of_all two_parts 5 ((0 ∷ []) ∷ (1 ∷ 2 ∷ 3 ∷ []) ∷ []) ≡ Some ((0, 0) ∷ (1, 0) ∷ (2, 4) ∷ (3, 1) ∷ [])
unfolding first is_tall comes_before ends_below is_twin child up step have_same_moments do_share some_before is_live
    buffer
both_parts = refl

second_part_at_4 : first_of_all two_parts 4 ((0 ∷ []) ∷ (1 ∷ 2 ∷ 3 ∷ []) ∷ []) ≡ None
unfolding first is_tall comes_before ends_below is_twin child up step have_same_moments do_share some_before is_live
    buffer
second_part_at_4 = refl

-- offsets in order of the buffers
by_number : offsets_found evens (Some ((2, 1) ∷ (0, 3) ∷ (1, 7) ∷ [])) ≡ Some (3 ∷ 7 ∷ 1 ∷ [])
by_number = refl

-- one that has none is at 0, and of two that a buffer has the first stands
first_of_two : offsets_of evens ((2, 1) ∷ (0, 3) ∷ (2, 9) ∷ []) ≡ 3 ∷ 0 ∷ 1 ∷ []
first_of_two = refl

none_found : offsets_found evens None ≡ None
none_found = refl
