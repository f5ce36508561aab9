-- What the parts, the search and its work come to on small instances.
use Rattle.std.proofs.Common.{◌≡◌, [], ◌∷◌, Some, None, refl}
use Rattle.dsa_terms.specs.Buffers.{is_live, buffer, do_share, have_same_moments, some_before}
use Rattle.dsa_terms.specs.Claims.{up, step, child}
use Rattle.dsa_terms.specs.Logs.{ends_below, is_twin}
use Rattle.dsa_terms.specs.Search.{is_tall, comes_before, first, work}
use Rattle.dsa_terms.specs.Parts.{is_cut, part_of, parts, searched, whole_work, is_leader, are_parted, are_uncut}
use Rattle.dsa_terms.proofs.Examples.{plain, five, two_of_four, evens, gapped, filled, overrun, two_parts, small_below, made}

-- ---- parts
five_parts : parts five ≡ (0 ∷ 1 ∷ 2 ∷ 3 ∷ 4 ∷ []) ∷ []
unfolding parts part_of is_leader are_uncut are_parted is_cut buffer
five_parts = refl

filled_parts : parts filled ≡ (0 ∷ 1 ∷ []) ∷ []
unfolding parts part_of is_leader are_uncut are_parted is_cut buffer
filled_parts = refl

two_parts_parts : parts two_parts ≡ (0 ∷ []) ∷ (1 ∷ 2 ∷ 3 ∷ []) ∷ []
unfolding parts part_of is_leader are_uncut are_parted is_cut buffer
two_parts_parts = refl

made_parts : parts made ≡ (0 ∷ 1 ∷ []) ∷ []
unfolding parts part_of is_leader are_uncut are_parted is_cut buffer
made_parts = refl

-- a gap makes no cut: a lifetime goes on through it
gap_parts : parts (gapped ∷ plain 5 6 1 1 ∷ plain 10 11 1 1 ∷ []) ≡ (0 ∷ 1 ∷ []) ∷ (2 ∷ []) ∷ []
unfolding parts part_of is_leader are_uncut are_parted is_cut buffer
gap_parts = refl

-- and it parts no two others
through_gap : parts (plain 0 4 1 1 ∷ plain 6 9 1 1 ∷ gapped ∷ []) ≡ (0 ∷ 1 ∷ 2 ∷ []) ∷ []
unfolding parts part_of is_leader are_uncut are_parted is_cut buffer
through_gap = refl

no_parts : parts [] ≡ []
unfolding parts
no_parts = refl

-- ---- five buffers
five_at_11 : searched five 11 ≡ None
unfolding searched parts part_of is_leader are_uncut are_parted is_cut first is_tall comes_before ends_below is_twin
    child up step have_same_moments do_share some_before is_live buffer
five_at_11 = refl

five_work_at_11 : whole_work five 11 ≡ 52
unfolding whole_work work parts part_of is_leader are_uncut are_parted is_cut first is_tall comes_before ends_below
    is_twin child up step have_same_moments do_share some_before is_live buffer
five_work_at_11 = refl

five_at_12 : searched five 12 ≡ Some (0 ∷ 0 ∷ 4 ∷ 0 ∷ 8 ∷ [])
unfolding searched parts part_of is_leader are_uncut are_parted is_cut first is_tall comes_before ends_below is_twin
    child up step have_same_moments do_share some_before is_live buffer
five_at_12 = refl

five_work_at_12 : whole_work five 12 ≡ 6
unfolding whole_work work parts part_of is_leader are_uncut are_parted is_cut first is_tall comes_before ends_below
    is_twin child up step have_same_moments do_share some_before is_live buffer
five_work_at_12 = refl

-- ---- two buffers aligned to four
two_of_four_at_6 : searched two_of_four 6 ≡ None
unfolding searched parts part_of is_leader are_uncut are_parted is_cut first is_tall comes_before ends_below is_twin
    child up step have_same_moments do_share some_before is_live buffer
two_of_four_at_6 = refl

two_of_four_work_at_6 : whole_work two_of_four 6 ≡ 2
unfolding whole_work work parts part_of is_leader are_uncut are_parted is_cut first is_tall comes_before ends_below
    is_twin child up step have_same_moments do_share some_before is_live buffer
two_of_four_work_at_6 = refl

two_of_four_at_7 : searched two_of_four 7 ≡ Some (0 ∷ 4 ∷ [])
unfolding searched parts part_of is_leader are_uncut are_parted is_cut first is_tall comes_before ends_below is_twin
    child up step have_same_moments do_share some_before is_live buffer
two_of_four_at_7 = refl

two_of_four_work_at_7 : whole_work two_of_four 7 ≡ 3
unfolding whole_work work parts part_of is_leader are_uncut are_parted is_cut first is_tall comes_before ends_below
    is_twin child up step have_same_moments do_share some_before is_live buffer
two_of_four_work_at_7 = refl

-- ---- the load is not enough
evens_at_4 : searched evens 4 ≡ None
unfolding searched parts part_of is_leader are_uncut are_parted is_cut first is_tall comes_before ends_below is_twin
    child up step have_same_moments do_share some_before is_live buffer
evens_at_4 = refl

evens_work_at_4 : whole_work evens 4 ≡ 6
unfolding whole_work work parts part_of is_leader are_uncut are_parted is_cut first is_tall comes_before ends_below
    is_twin child up step have_same_moments do_share some_before is_live buffer
evens_work_at_4 = refl

evens_at_5 : searched evens 5 ≡ Some (0 ∷ 4 ∷ 1 ∷ [])
unfolding searched parts part_of is_leader are_uncut are_parted is_cut first is_tall comes_before ends_below is_twin
    child up step have_same_moments do_share some_before is_live buffer
evens_at_5 = refl

evens_work_at_5 : whole_work evens 5 ≡ 4
unfolding whole_work work parts part_of is_leader are_uncut are_parted is_cut first is_tall comes_before ends_below
    is_twin child up step have_same_moments do_share some_before is_live buffer
evens_work_at_5 = refl

-- ---- a gap that is filled
filled_at_3 : searched filled 3 ≡ None
unfolding searched parts part_of is_leader are_uncut are_parted is_cut first is_tall comes_before ends_below is_twin
    child up step have_same_moments do_share some_before is_live buffer
filled_at_3 = refl

filled_work_at_3 : whole_work filled 3 ≡ 1
unfolding whole_work work parts part_of is_leader are_uncut are_parted is_cut first is_tall comes_before ends_below
    is_twin child up step have_same_moments do_share some_before is_live buffer
filled_work_at_3 = refl

filled_at_4 : searched filled 4 ≡ Some (0 ∷ 0 ∷ [])
unfolding searched parts part_of is_leader are_uncut are_parted is_cut first is_tall comes_before ends_below is_twin
    child up step have_same_moments do_share some_before is_live buffer
filled_at_4 = refl

filled_work_at_4 : whole_work filled 4 ≡ 3
unfolding whole_work work parts part_of is_leader are_uncut are_parted is_cut first is_tall comes_before ends_below
    is_twin child up step have_same_moments do_share some_before is_live buffer
filled_work_at_4 = refl

-- ---- a gap that is overrun
overrun_at_7 : searched overrun 7 ≡ None
unfolding searched parts part_of is_leader are_uncut are_parted is_cut first is_tall comes_before ends_below is_twin
    child up step have_same_moments do_share some_before is_live buffer
overrun_at_7 = refl

overrun_work_at_7 : whole_work overrun 7 ≡ 3
unfolding whole_work work parts part_of is_leader are_uncut are_parted is_cut first is_tall comes_before ends_below
    is_twin child up step have_same_moments do_share some_before is_live buffer
overrun_work_at_7 = refl

overrun_at_8 : searched overrun 8 ≡ Some (0 ∷ 4 ∷ [])
unfolding searched parts part_of is_leader are_uncut are_parted is_cut first is_tall comes_before ends_below is_twin
    child up step have_same_moments do_share some_before is_live buffer
overrun_at_8 = refl

overrun_work_at_8 : whole_work overrun 8 ≡ 3
unfolding whole_work work parts part_of is_leader are_uncut are_parted is_cut first is_tall comes_before ends_below
    is_twin child up step have_same_moments do_share some_before is_live buffer
overrun_work_at_8 = refl

-- ---- two parts
two_parts_at_4 : searched two_parts 4 ≡ None
unfolding searched parts part_of is_leader are_uncut are_parted is_cut first is_tall comes_before ends_below is_twin
    child up step have_same_moments do_share some_before is_live buffer
two_parts_at_4 = refl

two_parts_work_at_4 : whole_work two_parts 4 ≡ 8
unfolding whole_work work parts part_of is_leader are_uncut are_parted is_cut first is_tall comes_before ends_below
    is_twin child up step have_same_moments do_share some_before is_live buffer
two_parts_work_at_4 = refl

two_parts_at_5 : searched two_parts 5 ≡ Some (0 ∷ 0 ∷ 4 ∷ 1 ∷ [])
unfolding searched parts part_of is_leader are_uncut are_parted is_cut first is_tall comes_before ends_below is_twin
    child up step have_same_moments do_share some_before is_live buffer
two_parts_at_5 = refl

two_parts_work_at_5 : whole_work two_parts 5 ≡ 6
unfolding whole_work work parts part_of is_leader are_uncut are_parted is_cut first is_tall comes_before ends_below
    is_twin child up step have_same_moments do_share some_before is_live buffer
two_parts_work_at_5 = refl

-- ---- better than every start
small_below_at_3 : searched small_below 3 ≡ None
unfolding searched parts part_of is_leader are_uncut are_parted is_cut first is_tall comes_before ends_below is_twin
    child up step have_same_moments do_share some_before is_live buffer
small_below_at_3 = refl

small_below_work_at_3 : whole_work small_below 3 ≡ 3
unfolding whole_work work parts part_of is_leader are_uncut are_parted is_cut first is_tall comes_before ends_below
    is_twin child up step have_same_moments do_share some_before is_live buffer
small_below_work_at_3 = refl

small_below_at_4 : searched small_below 4 ≡ Some (1 ∷ 0 ∷ [])
unfolding searched parts part_of is_leader are_uncut are_parted is_cut first is_tall comes_before ends_below is_twin
    child up step have_same_moments do_share some_before is_live buffer
small_below_at_4 = refl

small_below_work_at_4 : whole_work small_below 4 ≡ 4
unfolding whole_work work parts part_of is_leader are_uncut are_parted is_cut first is_tall comes_before ends_below
    is_twin child up step have_same_moments do_share some_before is_live buffer
small_below_work_at_4 = refl

-- ---- alignments that do not divide each other
made_at_65 : searched made 65 ≡ None
unfolding searched parts part_of is_leader are_uncut are_parted is_cut first is_tall comes_before ends_below is_twin
    child up step have_same_moments do_share some_before is_live buffer
made_at_65 = refl

made_work_at_65 : whole_work made 65 ≡ 3
unfolding whole_work work parts part_of is_leader are_uncut are_parted is_cut first is_tall comes_before ends_below
    is_twin child up step have_same_moments do_share some_before is_live buffer
made_work_at_65 = refl

made_at_66 : searched made 66 ≡ Some (0 ∷ 15 ∷ [])
unfolding searched parts part_of is_leader are_uncut are_parted is_cut first is_tall comes_before ends_below is_twin
    child up step have_same_moments do_share some_before is_live buffer
made_at_66 = refl

made_work_at_66 : whole_work made 66 ≡ 3
unfolding whole_work work parts part_of is_leader are_uncut are_parted is_cut first is_tall comes_before ends_below
    is_twin child up step have_same_moments do_share some_before is_live buffer
made_work_at_66 = refl

-- ---- the work stops at the first choice whose child has an answer: of two choices the second is not looked at
stops_at_found : whole_work (plain 0 1 1 1 ∷ plain 0 1 2 1 ∷ []) 3 ≡ 3
unfolding whole_work work parts part_of is_leader are_uncut are_parted is_cut first is_tall comes_before ends_below
    is_twin child up step have_same_moments do_share some_before is_live buffer
stops_at_found = refl

-- no buffers
none_at_0 : searched [] 0 ≡ Some []
unfolding searched parts
none_at_0 = refl

none_work : whole_work [] 0 ≡ 0
unfolding whole_work parts
none_work = refl

-- ---- one claim: its first placement
evens_first : first evens 5 ((0, 0) ∷ (1, 0) ∷ (2, 0) ∷ []) ≡ Some ((0, 0) ∷ (1, 4) ∷ (2, 1) ∷ [])
unfolding first is_tall comes_before ends_below is_twin child up step have_same_moments do_share some_before is_live
    buffer
evens_first = refl

-- buffer 1 has to start at 2 or above, and buffer 2, whose up is lower, comes before it
evens_bounded : first evens 6 ((0, 0) ∷ (1, 1) ∷ (2, 0) ∷ []) ≡ Some ((0, 0) ∷ (1, 4) ∷ (2, 1) ∷ [])
unfolding first is_tall comes_before ends_below is_twin child up step have_same_moments do_share some_before is_live
    buffer
evens_bounded = refl
