-- Each line of the sample log is legal and the log is accepted; each change of a line has what refuses it.
use Rattle.std.proofs.Common.{◌≡◌, ℕ, zero, suc, true, false, [], ◌∷◌, slice_get, take, Some, inl, inr, refl, subst, sym, arith}
use Rattle.dsa_terms.specs.Buffers.{is_live, buffer, do_share, have_same_moments, some_before, floor}
use Rattle.dsa_terms.specs.Claims.{up, step, child, IsWhole}
use Rattle.dsa_terms.specs.Logs.{is_stacked, rounded, rounding, ends_below, is_twin, ByLine, Below, Twin, Line, Over, Cases, claim_of, Log, IsLegal, IsAccepted}
use Rattle.dsa_terms.proofs.Examples.{evens, filled, over_2, over_1, case_12, over_01, case_all, sample}
use Rattle.dsa_search_laws.proofs.LineTests.{does_cover, do_rise, is_claim, is_over, is_legal_cite, are_legal_cites, has_reason, is_legal, legal, not_legal}

-- ---- the lines of the sample log
over_2_passes : is_legal evens 4 [] over_2 ≡ true
unfolding is_legal has_reason is_over is_claim do_rise is_stacked rounded rounding up is_live buffer
over_2_passes = refl

over_1_passes : is_legal evens 4 (over_2 ∷ []) over_1 ≡ true
unfolding is_legal has_reason is_over is_claim do_rise is_stacked rounded rounding up is_live buffer
over_1_passes = refl

case_12_passes : is_legal evens 4 (over_2 ∷ over_1 ∷ []) case_12 ≡ true
unfolding is_legal has_reason are_legal_cites is_legal_cite does_cover is_claim do_rise child step is_twin ends_below
    have_same_moments do_share some_before up is_live buffer
case_12_passes = refl

-- 2 and the two sizes rounded up to 2, less one rounding, are 5
over_01_passes : is_legal evens 4 (over_2 ∷ over_1 ∷ case_12 ∷ []) over_01 ≡ true
unfolding is_legal has_reason is_over is_claim do_rise is_stacked rounded rounding up is_live buffer
over_01_passes = refl

case_all_passes : is_legal evens 4 (over_2 ∷ over_1 ∷ case_12 ∷ over_01 ∷ []) case_all ≡ true
unfolding is_legal has_reason are_legal_cites is_legal_cite does_cover is_claim do_rise child step is_twin ends_below
    have_same_moments do_share some_before up is_live buffer
case_all_passes = refl

pub sample_lines : (k : ℕ) (line : Line) → slice_get sample.lines k ≡ Some line →
    IsLegal evens 4 (take k sample.lines) line
sample_lines zero line h = let e : over_2 ≡ line = cc in rw (← e) (legal evens 4 [] over_2 over_2_passes)
sample_lines (suc zero) line h = let e : over_1 ≡ line = cc in
    rw (← e) (legal evens 4 (over_2 ∷ []) over_1 over_1_passes)
sample_lines (suc (suc zero)) line h =
    let e : case_12 ≡ line = cc in rw (← e) (legal evens 4 (over_2 ∷ over_1 ∷ []) case_12 case_12_passes)
sample_lines (suc (suc (suc zero))) line h =
    let e : over_01 ≡ line = cc in
    rw (← e) (legal evens 4 (over_2 ∷ over_1 ∷ case_12 ∷ []) over_01 over_01_passes)
sample_lines (suc (suc (suc (suc zero)))) line h =
    let e : case_all ≡ line = cc in
    rw (← e) (legal evens 4 (over_2 ∷ over_1 ∷ case_12 ∷ over_01 ∷ []) case_all case_all_passes)
sample_lines (suc (suc (suc (suc (suc k))))) line h = absurd cc

-- its end is whole
sample_end : IsWhole evens (claim_of case_all)
unfolding buffer floor
sample_end e (inl q) = rw q (omega arith)
sample_end e (inr (inl q)) = rw q (omega arith)
sample_end e (inr (inr (inl q))) = rw q (omega arith)
sample_end e (inr (inr (inr i))) = absurd i

pub sample_is_accepted : IsAccepted evens sample
sample_is_accepted = record { same_count = refl; legal = sample_lines; whole = (case_all, refl, sample_end) }

-- the end of a changed log is not whole
other_end : IsWhole evens (claim_of case_12) → ⊥
unfolding buffer floor
other_end w = let h = w (1, 1) (inl refl) in omega arith

-- so it is not accepted with that line as its end, nor with another count
abbrev with_end : ℕ → ℕ → Log
with_end count final = record { count = count; capacity = 4; lines = sample.lines; final = final }

other_end_is_not_accepted : IsAccepted evens (with_end 3 2) → ⊥
other_end_is_not_accepted h =
    other_end (subst (λ (line : Line). IsWhole evens (claim_of line)) (sym (same h.whole.0 h.whole.1)) h.whole.2)
  where
    same : (line : Line) → slice_get sample.lines 2 ≡ Some line → case_12 ≡ line
    same line q = cc

other_count_is_not_accepted : IsAccepted evens (with_end 4 4) → ⊥
other_count_is_not_accepted h = let q = h.same_count in cc

-- ---- Over lines that are not legal
-- at a capacity of 5 the first line comes to the capacity and not above it
at_capacity : is_legal evens 5 [] over_2 ≡ false
unfolding is_legal has_reason is_over is_claim do_rise is_stacked rounded rounding up is_live buffer
at_capacity = refl

-- from height 2 on it comes to 4
too_low : is_legal evens 4 [] (Over ((2, 3) ∷ []) 0 2 1) ≡ false
unfolding is_legal has_reason is_over is_claim do_rise is_stacked rounded rounding up is_live buffer
too_low = refl

no_modulus : is_legal evens 4 [] (Over ((2, 3) ∷ []) 0 3 0) ≡ false
unfolding is_legal has_reason is_over is_claim do_rise is_stacked rounded rounding up is_live buffer
no_modulus = refl

-- 3 is no multiple of 2, though the up of buffer 0 is 4
no_multiple : is_legal evens 3 [] (Over ((0, 3) ∷ []) 0 3 2) ≡ false
unfolding is_legal has_reason is_over is_claim do_rise is_stacked rounded rounding up is_live buffer
no_multiple = refl

-- buffer 2 is not of an alignment that 2 divides
none_stacked : is_legal evens 3 [] (Over ((2, 4) ∷ []) 0 4 2) ≡ false
unfolding is_legal has_reason is_over is_claim do_rise is_stacked rounded rounding up is_live buffer
none_stacked = refl

-- at moment 1 nothing is live
none_live : is_legal evens 3 [] (Over ((1, 4) ∷ []) 1 4 1) ≡ false
unfolding is_legal has_reason is_over is_claim do_rise is_stacked rounded rounding up is_live buffer
none_live = refl

-- without taking off the rounding, 2 and 4 would come to 6
one_rounding : is_legal evens 5 (over_2 ∷ over_1 ∷ case_12 ∷ []) over_01 ≡ false
unfolding is_legal has_reason is_over is_claim do_rise is_stacked rounded rounding up is_live buffer
one_rounding = refl

-- what counts is the up of the bound 3, which is 4
by_up : is_legal evens 4 [] (Over ((1, 3) ∷ []) 0 4 1) ≡ true
unfolding is_legal has_reason is_over is_claim do_rise is_stacked rounded rounding up is_live buffer
by_up = refl

no_buffers : is_legal evens 4 [] (Over [] 0 3 1) ≡ false
unfolding is_legal has_reason is_over is_claim do_rise is_stacked rounded rounding up is_live buffer
no_buffers = refl

no_such_buffer : is_legal evens 4 [] (Over ((2, 3) ∷ (3, 0) ∷ []) 0 3 1) ≡ false
unfolding is_legal has_reason is_over is_claim do_rise is_stacked rounded rounding up is_live buffer
no_such_buffer = refl

not_rising : is_legal evens 4 [] (Over ((2, 3) ∷ (1, 0) ∷ []) 0 3 1) ≡ false
unfolding is_legal has_reason is_over is_claim do_rise is_stacked rounded rounding up is_live buffer
not_rising = refl

-- in the gap one of the two is live, and past it the other
in_gap : is_legal filled 4 [] (Over ((0, 0) ∷ (1, 0) ∷ []) 4 0 1) ≡ false
unfolding is_legal has_reason is_over is_claim do_rise is_stacked rounded rounding up is_live buffer
in_gap = refl

-- ---- Cases lines that are not legal
-- a buffer has no cite
one_cite : is_legal evens 4 (over_2 ∷ over_1 ∷ []) (Cases ((1, 1) ∷ (2, 1) ∷ []) (ByLine 0 ∷ [])) ≡ false
unfolding is_legal has_reason are_legal_cites is_legal_cite does_cover is_claim do_rise child step is_twin ends_below
    have_same_moments do_share some_before up is_live buffer
one_cite = refl

-- its own number is no earlier line
itself : is_legal evens 4 (over_2 ∷ over_1 ∷ []) (Cases ((1, 1) ∷ (2, 1) ∷ []) (ByLine 2 ∷ ByLine 1 ∷ [])) ≡ false
unfolding is_legal has_reason are_legal_cites is_legal_cite does_cover is_claim do_rise child step is_twin ends_below
    have_same_moments do_share some_before up is_live buffer
itself = refl

-- the child by buffer 2 has buffer 1 alone
not_covered : is_legal evens 4 (over_2 ∷ over_1 ∷ []) (Cases ((1, 1) ∷ (2, 1) ∷ []) (ByLine 0 ∷ ByLine 0 ∷ [])) ≡ false
unfolding is_legal has_reason are_legal_cites is_legal_cite does_cover is_claim do_rise child step is_twin ends_below
    have_same_moments do_share some_before up is_live buffer
not_covered = refl

-- each is like the other, and the twin has to have the smaller number
each_twin :
    is_legal evens 4 (over_2 ∷ over_1 ∷ case_12 ∷ over_01 ∷ [])
    (Cases ((0, 0) ∷ (1, 0) ∷ (2, 0) ∷ []) (Twin 1 ∷ Twin 0 ∷ ByLine 3 ∷ []))
    ≡ false
unfolding is_legal has_reason are_legal_cites is_legal_cite does_cover is_claim do_rise child step is_twin ends_below
    have_same_moments do_share some_before up is_live buffer
each_twin = refl

-- 2 ends at the up of 1, which is 4; 1 does not end below 2
below_by_up : is_legal evens 9 [] (Cases ((1, 3) ∷ (2, 2) ∷ []) (Below 2 ∷ Below 1 ∷ [])) ≡ false
unfolding is_legal has_reason are_legal_cites is_legal_cite does_cover is_claim do_rise child step is_twin ends_below
    have_same_moments do_share some_before up is_live buffer
below_by_up = refl

-- the child by 2 has no buffer 2
below_alone : is_legal evens 4 (over_2 ∷ []) (Cases ((1, 3) ∷ (2, 2) ∷ []) (Below 2 ∷ ByLine 0 ∷ [])) ≡ false
unfolding is_legal has_reason are_legal_cites is_legal_cite does_cover is_claim do_rise child step is_twin ends_below
    have_same_moments do_share some_before up is_live buffer
below_alone = refl

-- by the bounds, 2 and 2 above 3, the first cite would not be legal
below_and_line : is_legal evens 4 (over_1 ∷ []) (Cases ((1, 3) ∷ (2, 2) ∷ []) (Below 2 ∷ ByLine 0 ∷ [])) ≡ true
unfolding is_legal has_reason are_legal_cites is_legal_cite does_cover is_claim do_rise child step is_twin ends_below
    have_same_moments do_share some_before up is_live buffer
below_and_line = refl

-- buffer 2 is not in the claim
not_in_claim : is_legal evens 4 [] (Cases ((1, 3) ∷ []) (Below 2 ∷ [])) ≡ false
unfolding is_legal has_reason are_legal_cites is_legal_cite does_cover is_claim do_rise child step is_twin ends_below
    have_same_moments do_share some_before up is_live buffer
not_in_claim = refl

-- so it is no legal line
each_twin_is_not_legal :
    IsLegal evens 4 (over_2 ∷ over_1 ∷ case_12 ∷ over_01 ∷ [])
    (Cases ((0, 0) ∷ (1, 0) ∷ (2, 0) ∷ []) (Twin 1 ∷ Twin 0 ∷ ByLine 3 ∷ [])) → ⊥
each_twin_is_not_legal =
    not_legal evens 4 (over_2 ∷ over_1 ∷ case_12 ∷ over_01 ∷ [])
    (Cases ((0, 0) ∷ (1, 0) ∷ (2, 0) ∷ []) (Twin 1 ∷ Twin 0 ∷ ByLine 3 ∷ [])) each_twin
