-- Worked logs: the sample log has no fault, and each changed one has the fault that is said.
use Rattle.std.proofs.Common.{◌≡◌, ◌^◌, ◌-◌, ℕ, false, [], ◌∷◌, map, Some, None, refl}
use Rattle.dsa_terms.specs.Buffers.{Instance, buffer, do_share, floor, have_same_moments, is_live, some_before}
use Rattle.dsa_terms.specs.Claims.{child, step, up}
use Rattle.dsa_terms.specs.Logs.{Below, ByLine, Cases, Twin, ends_below, is_stacked, is_twin, rounded, rounding}
use Rattle.dsa_terms.proofs.Examples.{evens, low, raised, sample}
use Rattle.canonical_order.specs.Claims.{is_above_floor}
use Rattle.refute_log.specs.Reasons.{covers}
use Rattle.refute_log.specs.declared.line.Cite.TheVariants as cite
use Rattle.refute_log.specs.declared.reason.Reason.TheVariants as reason
use Rattle.log_text.specs.Text.{raw_line_of, raw_log_of}
use Rattle.log_text.specs.declared.raw.RawCite.TheVariants as raw_cite
use Rattle.log_text.specs.declared.raw.RawLine.{RawLine}
use Rattle.log_text.specs.declared.raw.RawLine.TheVariants as raw
use Rattle.log_text.specs.declared.raw.RawLog.{RawLog}
use Rattle.log_check.specs.declared.fault.CheckFault.TheVariants as fault
use Rattle.log_check.specs.Faults.{check_fault, cite_of, end_fault, has_own_cites, illegal_fault, line_of, raw_reason, reason_at}
use Rattle.log_check.specs.Narrowing.{narrow_cite, narrow_line, shape_reason}

-- ---- lines as a text says them
abbrev over_2 : RawLine
over_2 = raw.Over 0 3 1 ((2, 3) ∷ [])

abbrev over_1 : RawLine
over_1 = raw.Over 0 4 1 ((1, 4) ∷ [])

abbrev case_12 : RawLine
case_12 = raw.Cases ((1, 1) ∷ (2, 1) ∷ []) ((1, raw_cite.Line 0) ∷ (2, raw_cite.Line 1) ∷ [])

abbrev over_01 : RawLine
over_01 = raw.Over 0 2 2 ((0, 2) ∷ (1, 2) ∷ [])

abbrev case_all : RawLine
case_all = raw.Cases ((0, 0) ∷ (1, 0) ∷ (2, 0) ∷ [])
    ((0, raw_cite.Line 2) ∷ (1, raw_cite.Twin 0) ∷ (2, raw_cite.Line 3) ∷ [])

abbrev log_of : RawLine → RawLine → RawLine → ℕ → RawLog
log_of first third last end = record {
  count = 3;
  capacity = 4;
  lines = first ∷ over_1 ∷ third ∷ over_01 ∷ last ∷ [];
  end = end;
}

-- ---- logs
sample_as_text : raw_log_of sample ≡ log_of over_2 case_12 case_all 4
sample_as_text = refl

sample_has_none : check_fault evens (raw_log_of sample) ≡ None
unfolding covers child step do_share some_before have_same_moments is_twin ends_below is_stacked rounded rounding up
    is_live buffer floor is_above_floor
sample_has_none = refl

-- the count comes before all lines
other_count : check_fault evens (record (log_of over_1 case_12 case_all 9) { count = 4 }) ≡ Some (fault.WrongCount 4 3)
other_count = refl

too_low : check_fault evens (log_of (raw.Over 0 2 1 ((2, 3) ∷ [])) case_12 case_all 9)
    ≡ Some (fault.Illegal 0 reason.NotOver)
unfolding is_stacked rounded rounding up is_live buffer
too_low = refl

one_cite : check_fault evens (log_of over_2 (raw.Cases ((1, 1) ∷ (2, 1) ∷ []) ((1, raw_cite.Line 0) ∷ [])) case_all 4)
    ≡ Some (fault.Illegal 2 reason.CitesDiffer)
unfolding is_stacked rounded rounding up is_live buffer
one_cite = refl

-- a cite of a buffer that is not in the claim comes before what the cites say
cite_of_another : check_fault evens (log_of over_2 (raw.Cases ((1, 1) ∷ (2, 1) ∷ [])
    ((0, raw_cite.Line 9) ∷ (2, raw_cite.Line 1) ∷ [])) case_all 4) ≡ Some (fault.Illegal 2 reason.CitesDiffer)
unfolding is_stacked rounded rounding up is_live buffer
cite_of_another = refl

own_number : check_fault evens (log_of over_2 (raw.Cases ((1, 1) ∷ (2, 1) ∷ [])
    ((1, raw_cite.Line 2) ∷ (2, raw_cite.Line 1) ∷ [])) case_all 4) ≡ Some (fault.Illegal 2 (reason.NotEarlier 1))
unfolding is_stacked rounded rounding up is_live buffer
own_number = refl

later_twin : check_fault evens (log_of over_2 case_12 (raw.Cases ((0, 0) ∷ (1, 0) ∷ (2, 0) ∷ [])
    ((0, raw_cite.Twin 1) ∷ (1, raw_cite.Twin 0) ∷ (2, raw_cite.Line 3) ∷ [])) 4)
    ≡ Some (fault.Illegal 4 (reason.NotTwin 0))
unfolding covers child step do_share some_before have_same_moments is_twin ends_below is_stacked rounded rounding up
    is_live buffer
later_twin = refl

-- the least line, where the last is not legal either
least_line : check_fault evens (log_of (raw.Over 0 3 0 ((2, 3) ∷ [])) case_12 over_2 9)
    ≡ Some (fault.Illegal 0 reason.ZeroModulus)
least_line = refl

end_of_no_line : check_fault evens (log_of over_2 case_12 case_all 5) ≡ Some (fault.EndRange 5)
unfolding covers child step do_share some_before have_same_moments is_twin ends_below is_stacked rounded rounding up
    is_live buffer
end_of_no_line = refl

end_with_bounds : check_fault evens (log_of over_2 case_12 case_all 2) ≡ Some (fault.EndNotWhole 2 1)
unfolding covers child step do_share some_before have_same_moments is_twin ends_below is_stacked rounded rounding up
    is_live buffer floor is_above_floor
end_with_bounds = refl

-- the least buffer whose bound is above its floor
least_raised :
    end_fault evens 7 (Some (raw.Over 0 0 1 ((0, 0) ∷ (1, 2) ∷ (2, 1) ∷ []))) ≡ Some (fault.EndNotWhole 7 1)
unfolding is_above_floor floor buffer
least_raised = refl

-- ---- a buffer of size 4 from 6 on, and one from 0 on: at 9 a log may end at 6, and not at 7
abbrev of_one : RawLine → RawLog
of_one line = record { count = 2; capacity = 9; lines = line ∷ []; end = 0 }

ends_at_the_floor : check_fault low (of_one (raw.Over 0 6 1 ((0, 6) ∷ []))) ≡ None
unfolding is_stacked rounded rounding up is_live is_above_floor floor buffer
ends_at_the_floor = refl

ends_above_it : check_fault low (of_one (raw.Over 0 7 1 ((0, 7) ∷ []))) ≡ Some (fault.EndNotWhole 0 0)
unfolding is_stacked rounded rounding up is_live is_above_floor floor buffer
ends_above_it = refl

-- the floor of a buffer aligned to four is 8 where its lowest is 6
abbrev fours : Instance
fours = raised 4 4 6 1 ∷ []

whole_up_to_8 : end_fault fours 0 (Some (raw.Over 0 8 4 ((0, 8) ∷ []))) ≡ None
unfolding is_above_floor floor buffer
whole_up_to_8 = refl

not_whole_at_9 : end_fault fours 0 (Some (raw.Over 0 8 4 ((0, 9) ∷ []))) ≡ Some (fault.EndNotWhole 0 0)
unfolding is_above_floor floor buffer
not_whole_at_9 = refl

-- ---- one line
no_such_line : reason_at evens 4 (over_2 ∷ []) 1 ≡ None
no_such_line = refl

text_of_a_line : raw_line_of (line_of case_all) ≡ case_all
text_of_a_line = refl

three_cites : map cite_of (raw_cite.Line 7 ∷ raw_cite.Below 8 ∷ raw_cite.Twin 9 ∷ []) ≡ ByLine 7 ∷ Below 8 ∷ Twin 9 ∷ []
three_cites = refl

other_cites : has_own_cites (raw.Cases ((1, 1) ∷ []) ((2, raw_cite.Line 0) ∷ [])) ≡ false
other_cites = refl

-- a number past 32 bits is found before it is narrowed
far_buffer : raw_reason evens 4 [] (raw.Over 0 3 0 ((2, 3) ∷ (2 ^ 40, 0) ∷ [])) ≡ Some (reason.BufferRange (2 ^ 40))
far_buffer = refl

far_cite : raw_reason evens 4 [] (raw.Cases ((1, 3) ∷ (2, 2) ∷ [])
    ((1, raw_cite.Below 2) ∷ (2, raw_cite.Below (2 ^ 40)) ∷ [])) ≡ Some (reason.NotBelow 2)
unfolding ends_below up buffer
far_cite = refl

-- ---- narrowing
narrowed_cite : narrow_cite (raw_cite.Below (2 ^ 40)) ≡ cite.Below (2 ^ 32 - 1)
narrowed_cite = refl

narrowed_line : narrow_line (raw.Cases ((1, 3) ∷ []) ((1, raw_cite.Below (2 ^ 32 - 2)) ∷ []))
    ≡ Cases ((1, 3) ∷ []) (Below (2 ^ 32 - 2) ∷ [])
narrowed_line = refl

-- the claim comes before the cites
range_first : shape_reason evens (raw.Cases ((3, 3) ∷ []) ((1, raw_cite.Line 0) ∷ [])) ≡ Some (reason.BufferRange 3)
range_first = refl

second_line : illegal_fault evens 4 (over_2 ∷ raw.Over 0 3 0 ((2, 3) ∷ []) ∷ [])
    ≡ Some (fault.Illegal 1 reason.ZeroModulus)
unfolding is_stacked rounded rounding up is_live buffer
second_line = refl
