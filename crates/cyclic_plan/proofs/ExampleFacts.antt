-- What lifetimes on a circle come to on small rows of period 10.
use Rattle.std.proofs.Common.{◌≡◌, arith, lit<, lit≤, inl, inr, ℕ, ◌%◌, nat_le, nat_lt, ◌||◌, ◌&&◌, true, false, [], ◌∷◌, ◌++◌, map, flat_map, replicate, codes, Some, None, Ok, Err, refl, sym, ◌∙◌}
use Rattle.std.proofs.lemmas.Bool.Decides.{nat_tests}
use Rattle.std.specs.Fmt.{digits}
use Rattle.csv.specs.Machine.{next_record}
use Rattle.csv.specs.Reading.{records_from, strip_bom}
use Rattle.csv.specs.Writing.{fields_text, is_blank}
use Rattle.dsa_model.specs.Buffer.{buffer_of, is_ever_live}
use Rattle.dsa_model.specs.declared.buffer_fault.BufferFault.TheVariants as buffer_fault
use Rattle.csv_instance.specs.declared.fault.InstanceFault.TheVariants as instance_fault
use Rattle.csv_instance.specs.Records.{table_of}
use Rattle.csv_instance.specs.Parse.{parse}
use Rattle.cyclic_plan.specs.FaultTexts.{cycle_text}
use Rattle.cyclic_plan.specs.Unrolled.{IsUnrolled, cycle_row_fault, cycle_rows_fault, unrolled_of, unrolled_text, wraps_from}
use Rattle.cyclic_plan.specs.declared.fault.CycleFault.TheVariants as fault
use Rattle.dsa_terms.specs.Buffers.{Buffer, is_live, buffer, do_share, some_before, have_same_moments, floor}
use Rattle.dsa_terms.specs.Claims.{up, step, child}
use Rattle.dsa_terms.specs.Logs.{ends_below, is_twin}
use Rattle.dsa_terms.specs.Search.{is_tall, comes_before, first}
use Rattle.dsa_terms.specs.Parts.{is_cut, part_of, parts, searched, is_leader, are_parted, are_uncut}
use Rattle.dsa_terms.specs.Plans.{layout_height, plan}
use Rattle.dsa_terms.specs.Fits.{top, highest, neighbours, is_free, first_place, stretches, free_ranges, holds, is_tighter, best_place, first_fit, best_fit, least_from, is_clear}
use Rattle.dsa_terms.specs.Orders.{falls_by, rises_by, orders}
use Rattle.dsa_terms.specs.Starts.{starts, planned}
use Rattle.dsa_terms.proofs.Examples.{plain}
use Rattle.cyclic_plan.proofs.Tables.{unrolled_gives}
use Rattle.cyclic_plan.specs.Cycles.{IsCycleLayout, IsInPeriod, IsLiveRound, does_wrap, is_live_round, lasts_at, unrolled}

-- a row that wraps, one that fills what it leaves, and one that does not
abbrev wrapping : Buffer
wrapping = plain 8 2 4 1

-- it is live at the beginning and at the end of each period, and not between
wraps_round : is_live_round 10 wrapping 8 ≡ true
unfolding is_live_round lasts_at
wraps_round = refl

wraps_into_the_next : is_live_round 10 wrapping 11 ≡ true
unfolding is_live_round lasts_at
wraps_into_the_next = refl

ends_at_its_upper : is_live_round 10 wrapping 12 ≡ false
unfolding is_live_round lasts_at
ends_at_its_upper = refl

stays_away_before_its_lower : is_live_round 10 wrapping 17 ≡ false
unfolding is_live_round lasts_at
stays_away_before_its_lower = refl

-- an empty lifetime is never live
empty_is_never_live : is_live_round 10 (plain 3 3 4 1) 3 ≡ false
unfolding is_live_round lasts_at
empty_is_never_live = refl

-- a row that ends at its beginning does not wrap
wraps : does_wrap wrapping ≡ true
wraps = refl

does_not_wrap : does_wrap (plain 3 3 4 1) ≡ false
does_not_wrap = refl

-- a gap is away in each period
gap_in_each_period : is_live_round 10
    (record { lower = 8; upper = 4; size = 4; alignment = 1; gaps = (1, 3) ∷ []; lowest = 0 }) 22
    ≡ false
unfolding is_live_round lasts_at
gap_in_each_period = refl

-- the period is no moment of it
within_its_period : IsInPeriod 10 wrapping
within_its_period = (lit< tt, lit≤ tt)

begins_at_the_period : IsInPeriod 10 (plain 10 2 4 1) → ⊥
begins_at_the_period h = let k = h.0 in omega arith

-- it becomes the whole period with a gap, and a row that does not wrap stays
unrolled_wraps : unrolled 10 wrapping
    ≡ record { lower = 0; upper = 10; size = 4; alignment = 1; gaps = (2, 8) ∷ []; lowest = 0 }
unfolding unrolled
unrolled_wraps = refl

unrolled_stays : unrolled 10 (plain 2 8 4 1) ≡ plain 2 8 4 1
unfolding unrolled
unrolled_stays = refl

-- a row that fills the gap needs no more room, and one that begins a moment earlier does
filled_at_4 : planned (map (unrolled 10) (wrapping ∷ plain 2 8 4 1 ∷ [])) 4 ≡ Some (0 ∷ 0 ∷ [])
unfolding unrolled planned plan layout_height starts orders falls_by rises_by first_fit best_fit neighbours
    first_place floor is_clear best_place free_ranges stretches holds least_from is_tighter is_free highest top
    do_share some_before is_live buffer searched parts part_of is_leader are_uncut are_parted is_cut first is_tall
    comes_before ends_below is_twin child up step have_same_moments
filled_at_4 = refl

overrun_at_7 : planned (map (unrolled 10) (wrapping ∷ plain 1 8 4 1 ∷ [])) 7 ≡ None
unfolding unrolled planned plan layout_height starts orders falls_by rises_by first_fit best_fit neighbours
    first_place floor is_clear best_place free_ranges stretches holds least_from is_tighter is_free highest top
    do_share some_before is_live buffer searched parts part_of is_leader are_uncut are_parted is_cut first is_tall
    comes_before ends_below is_twin child up step have_same_moments
overrun_at_7 = refl

overrun_at_8 : planned (map (unrolled 10) (wrapping ∷ plain 1 8 4 1 ∷ [])) 8 ≡ Some (0 ∷ 4 ∷ [])
unfolding unrolled planned plan layout_height starts orders falls_by rises_by first_fit best_fit neighbours
    first_place floor is_clear best_place free_ranges stretches holds least_from is_tighter is_free highest top
    do_share some_before is_live buffer searched parts part_of is_leader are_uncut are_parted is_cut first is_tall
    comes_before ends_below is_twin child up step have_same_moments
overrun_at_8 = refl

-- one that begins a moment earlier than the other ends is live with it at a moment of each period
overlaps_each_period : IsCycleLayout 10 7 (wrapping ∷ plain 1 8 4 1 ∷ []) (0 ∷ 0 ∷ []) → ⊥
unfolding is_live_round lasts_at buffer
overlaps_each_period l = elim (l.apart 0 1 11 (lit< tt) (lit< tt) (λ e. omega arith) refl refl) [
  | inl h ↦ omega arith
  | inr h ↦ omega arith
]

-- one that fills what it leaves is never live with it, so both may have one offset
never_both : (r : ℕ) → ((nat_le 8 r || nat_lt r 2) && true) ≡ true → ((nat_le 2 r && nat_lt r 8) && true) ≡ true → ⊥
never_both r = grind (arith, nat_tests)

filled_rows_apart : (t : ℕ) → IsLiveRound 10 wrapping t → IsLiveRound 10 (plain 2 8 4 1) t → ⊥
unfolding is_live_round lasts_at
filled_rows_apart t = never_both (t % 10)

-- ---- changes and faults
one_change : wraps_from 10 0 (wrapping ∷ plain 2 8 4 1 ∷ []) ≡ (0, 0, 10, 2, 8) ∷ []
one_change = refl

first_bad_row : cycle_rows_fault 10 0 (plain 2 8 4 1 ∷ plain 1 11 0 1 ∷ plain 3 3 4 1 ∷ []) ≡ Some (fault.Outside 1)
unfolding unrolled is_ever_live some_before is_live
first_bad_row = refl

-- row 3 by itself
begins_too_late : cycle_row_fault 10 3 (plain 10 2 4 1) ≡ Some (fault.Outside 3)
unfolding unrolled is_ever_live some_before is_live
begins_too_late = refl

wraps_without_a_size : cycle_row_fault 10 3 (plain 8 2 0 1) ≡ Some (fault.BadBuffer 3 buffer_fault.ZeroSize)
unfolding unrolled is_ever_live some_before is_live
wraps_without_a_size = refl

wraps_without_a_fault : cycle_row_fault 10 3 wrapping ≡ None
unfolding unrolled is_ever_live some_before is_live
wraps_without_a_fault = refl

texts_of_faults : cycle_text (fault.BadBuffer 1 buffer_fault.TooManyGaps) ≡ codes "row 1 too many gaps"
unfolding digits
texts_of_faults = refl

text_outside : cycle_text (fault.Outside 12) ≡ codes "row 12 outside"
unfolding digits
text_outside = refl

text_of_the_file : cycle_text (fault.Instance instance_fault.NoHeader) ≡ codes "no header"
text_of_the_file = refl

-- ---- files
wrapping_file : unrolled_of 10 (table_of (codes "id,lower,upper,size\nA,8,2,4\nB,2,8,4\n"))
    ≡ Ok (record { lower = 0; upper = 10; size = 4; alignment = 1; gaps = (2, 8) ∷ []; lowest = 0 } ∷ plain 2 8 4 1 ∷
    [])
unfolding unrolled_of unrolled records_from strip_bom next_record is_ever_live some_before is_live
wrapping_file = refl

wrapping_text : unrolled_text 10 (table_of (codes "id,lower,upper,size\nA,8,2,4\nB,2,8,4\n"))
    ≡ codes "id,lower,upper,size,gaps\nA,0,10,4,2-8\nB,2,8,4,\n"
unfolding unrolled_text records_from strip_bom next_record fields_text is_blank digits
wrapping_text = refl

-- the gap of a wrap stands after the row's own, and a carried column stays where it is
gaps_text : unrolled_text 10 (table_of (codes "id,gaps,lower,note,upper,size\nA,9-10,8,x,2,4\n"))
    ≡ codes "id,gaps,lower,note,upper,size\nA,9-10 2-8,0,x,10,4\n"
unfolding unrolled_text records_from strip_bom next_record fields_text is_blank digits
gaps_text = refl

-- nothing wraps: the column of gaps comes all the same
no_change_text : unrolled_text 10 (table_of (codes "id,lower,upper,size\nB,2,8,4\n"))
    ≡ codes "id,lower,upper,size,gaps\nB,2,8,4,\n"
unfolding unrolled_text records_from strip_bom next_record fields_text is_blank digits
no_change_text = refl

outside_file : unrolled_of 10 (table_of (codes "id,lower,upper,size\nA,10,2,4\n")) ≡ Err (fault.Outside 0)
unfolding unrolled_of unrolled records_from strip_bom next_record
outside_file = refl

-- a row that ends at the period lies within it
to_the_end : unrolled_of 10 (table_of (codes "id,lower,upper,size\nA,2,10,4\n")) ≡ Ok (plain 2 10 4 1 ∷ [])
unfolding unrolled_of unrolled records_from strip_bom next_record is_ever_live some_before is_live
to_the_end = refl

empty_file_lifetime : unrolled_of 10 (table_of (codes "id,lower,upper,size\nA,3,3,4\n"))
    ≡ Err (fault.BadBuffer 0 buffer_fault.EmptyLifetime)
unfolding unrolled_of unrolled records_from strip_bom next_record
empty_file_lifetime = refl

-- the faults of all rows as such come before those of buffers
later_form_first : unrolled_of 10 (table_of (codes "id,lower,upper,size\nA,3,3,4\nA,1,2,4\n"))
    ≡ Err (fault.Instance (instance_fault.DuplicateId 1 0))
unfolding unrolled_of unrolled records_from strip_bom next_record
later_form_first = refl

no_header : unrolled_of 0 (table_of []) ≡ Err (fault.Instance instance_fault.NoHeader)
unfolding unrolled_of records_from strip_bom next_record
no_header = refl

-- the header alone has no row outside the period 0
header_alone : unrolled_of 0 (table_of (codes "id,lower,upper,size\n")) ≡ Ok []
unfolding unrolled_of records_from strip_bom next_record
header_alone = refl

-- the text parses as the instance
wrapping_parses : parse (table_of (unrolled_text 10 (table_of (codes "id,lower,upper,size\nA,8,2,4\nB,2,8,4\n"))))
    ≡ Ok (map (unrolled 10) (wrapping ∷ plain 2 8 4 1 ∷ []))
unfolding unrolled_text unrolled records_from strip_bom next_record fields_text is_blank digits is_ever_live some_before
    is_live
wrapping_parses = refl

-- it has just the layouts of the rows
wrapping_is_unrolled : IsUnrolled 10 (table_of (codes "id,lower,upper,size\nA,8,2,4\nB,2,8,4\n"))
    (buffer_of 0 10 4 1 ((2, 8) ∷ []) 0 ∷ plain 2 8 4 1 ∷ [])
wrapping_is_unrolled = unrolled_gives 10 _ _ (lit≤ tt) wrapping_file

-- not without the row that does not wrap
not_the_first_alone : IsUnrolled 10 (table_of (codes "id,lower,upper,size\nA,8,2,4\nB,2,8,4\n"))
    (buffer_of 0 10 4 1 ((2, 8) ∷ []) 0 ∷ []) → ⊥
not_the_first_alone h = let e = sym wrapping_parses ∙ h.parsed in absurd cc

-- a row at the limit of gaps that wraps has one too many
one_gap_too_many : unrolled_of 20 (table_of (codes "id,lower,upper,size,gaps\nA,18,17,4,0-1"
    ++ flat_map (λ (n : ℕ). codes " 2-3") (replicate 63 0) ++ codes "\n"))
    ≡ Err (fault.BadBuffer 0 buffer_fault.TooManyGaps)
unfolding unrolled_of unrolled records_from strip_bom next_record
one_gap_too_many = refl

-- a gap outside the lifetime on the circle lies within the whole period: it is carried
gap_of_the_wrap : unrolled_of 10 (table_of (codes "id,lower,upper,size,gaps\nA,8,2,4,4-6\n"))
    ≡ Ok (record { lower = 0; upper = 10; size = 4; alignment = 1; gaps = (4, 6) ∷ (2, 8) ∷ []; lowest = 0 } ∷ [])
unfolding unrolled_of unrolled records_from strip_bom next_record is_ever_live some_before is_live
gap_of_the_wrap = refl

-- gaps over the whole lifetime on the circle
never_live : unrolled_of 10 (table_of (codes "id,lower,upper,size,gaps\nA,8,2,4,8-10 0-2\n"))
    ≡ Err (fault.BadBuffer 0 buffer_fault.NeverLive)
unfolding unrolled_of unrolled records_from strip_bom next_record is_ever_live some_before is_live
never_live = refl

past_the_period : unrolled_of 10 (table_of (codes "id,lower,upper,size\nA,2,11,4\n")) ≡ Err (fault.Outside 0)
unfolding unrolled_of unrolled records_from strip_bom next_record
past_the_period = refl

-- ---- least offsets
-- the whole period may not be lower than the row
lowest_stays : unrolled_of 10 (table_of (codes "id,lower,upper,size,lowest\nA,8,2,4,6\n"))
    ≡ Ok (record { lower = 0; upper = 10; size = 4; alignment = 1; gaps = (2, 8) ∷ []; lowest = 6 } ∷ [])
unfolding unrolled_of unrolled records_from strip_bom next_record is_ever_live some_before is_live
lowest_stays = refl

lowest_too_large : unrolled_of 10 (table_of (codes "id,lower,upper,size,lowest\nA,8,2,4,1099511627777\n"))
    ≡ Err (fault.BadBuffer 0 buffer_fault.LowestTooLarge)
unfolding unrolled_of unrolled records_from strip_bom next_record is_ever_live some_before is_live
lowest_too_large = refl

below_its_lowest :
    IsCycleLayout 10 10 (record { lower = 8; upper = 2; size = 4; alignment = 1; gaps = []; lowest = 6 } ∷ [])
    (5 ∷ []) → ⊥
unfolding buffer
below_its_lowest h = let k = h.above 0 (lit< tt) in omega (arith, k)
