-- Small made instances.
use Rattle.std.proofs.Common.{◌≡◌, [], ◌∷◌, Some, None, codes, refl}
use Rattle.std.specs.Fmt.{digits}
use Rattle.make_instance.specs.Draws.{draw, first_state, next_state, state_at}
use Rattle.make_instance.specs.Made.{gap_text, header, made_record, made_table, made_text, record_line, record_of}
use Rattle.make_instance.specs.Rows.{gap_in, made_row, row_of}

-- the states of the generator, at first and by the ten draws of two buffers
first : state_at 1 0 ≡ 2
unfolding state_at
first = refl

fifth : state_at 1 5 ≡ 2009854435
unfolding state_at
fifth = refl

tenth : state_at 1 10 ≡ 1045878015
unfolding state_at
tenth = refl

-- two buffers
two : made_text 1 2 ≡ codes "id,lower,upper,size,alignment,gaps\nb0,2,7,14,4,\nb1,2,6,51,3,\n"
unfolding made_text made_row state_at digits
two = refl

-- no buffers
none : made_text 7 0 ≡ codes "id,lower,upper,size,alignment,gaps\n"
unfolding made_text
none = refl

-- the greatest first state, and a gap of all but the first and the last moment
a_gap : made_text 2147483645 2 ≡ codes "id,lower,upper,size,alignment,gaps\nb0,0,14,58,3,\nb1,0,15,39,1,1-14\n"
unfolding made_text made_row state_at digits
a_gap = refl

-- seeds go round: this one draws as 0 does
round : made_text 2147483646 1 ≡ made_text 0 1
unfolding made_text made_row state_at digits
round = refl

least : made_text 0 2 ≡ codes "id,lower,upper,size,alignment,gaps\nb0,3,6,7,2,\nb1,3,5,26,4,\n"
unfolding made_text made_row state_at digits
least = refl

greatest_first : first_state 2147483645 ≡ 2147483646
greatest_first = refl

-- the greatest seed that a command line gives
large : made_text 1152921504606846976 2 ≡ codes "id,lower,upper,size,alignment,gaps\nb0,2,6,42,1,\nb1,0,11,7,1,\n"
unfolding made_text made_row state_at digits
large = refl

-- ---- draws, gaps and records one by one
after_two : next_state 2 ≡ 96542
after_two = refl

first_draw : draw 1 1 4 ≡ 2
unfolding state_at
first_draw = refl

gap_of_three : gap_in 0 5 3 ≡ Some (6, 7)
gap_of_three = refl

no_room : gap_in 0 5 2 ≡ None
no_room = refl

no_flag : gap_in 1 5 3 ≡ None
no_flag = refl

a_row : row_of 5 3 7 2 0 ≡ record { lower = 5; upper = 8; size = 7; alignment = 2; gap = Some (6, 7) }
a_row = refl

text_of_a_gap : gap_text (Some (6, 7)) ≡ codes "6-7"
unfolding digits
text_of_a_gap = refl

a_record : record_of 3 (row_of 5 3 7 2 0)
    ≡ codes "b3" ∷ codes "5" ∷ codes "8" ∷ codes "7" ∷ codes "2" ∷ codes "6-7" ∷ []
unfolding digits
a_record = refl

second_record : made_record 1 2 1 ≡ codes "b1" ∷ codes "2" ∷ codes "6" ∷ codes "51" ∷ codes "3" ∷ [] ∷ []
unfolding made_row state_at digits
second_record = refl

no_records : made_table 7 0 ≡ header ∷ []
no_records = refl

-- ---- lines: an empty field is written as nothing, and the comma before it stays
a_line : record_line (codes "b1" ∷ codes "2" ∷ [] ∷ []) ≡ codes "b1,2,\n"
a_line = refl

of_one_field : record_line (codes "b1" ∷ []) ≡ codes "b1\n"
of_one_field = refl
