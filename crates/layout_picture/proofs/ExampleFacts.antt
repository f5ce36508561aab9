-- Small pictures, worked out.
use Rattle.std.proofs.Common.{◌≡◌, ℕ, ◌+◌, true, false, List, [], ◌∷◌, ◌++◌, map, codes, refl}
use lib.Utf8.{encode}
use Rattle.std.specs.Fmt.{digits}
use Rattle.dsa_terms.specs.Buffers.{Buffer, Instance, buffer, do_share, is_live, some_before}
use Rattle.dsa_terms.specs.Parts.{numbers}
use Rattle.lifetime.specs.Runs.{was_live}
use Rattle.layout_picture.specs.Colours.{colours_below, colours_of, is_taken, next_colour, touch}
use Rattle.layout_picture.specs.Columns.{columns_of, turns_at}
use Rattle.layout_picture.specs.Escape.{char_text, escaped, is_allowed}
use Rattle.layout_picture.specs.Rectangles.{begins_at, rectangles, rectangles_of, run_end}
use Rattle.layout_picture.specs.Scale.{area_of, column_width, scaled, spans, x_of, y_of}
use Rattle.layout_picture.specs.Texts.{area_text, attribute, colour_text, has_room, id_text, is_marked, label_text, load_step, mark_text, moment_text, picture_width, rectangle_text, title_text}
use Rattle.layout_picture.specs.declared.rectangle.Rectangle.{Rectangle}
use Rattle.layout_picture.specs.declared.scale.Scale.{Scale}

abbrev pub lasting : ℕ → ℕ → ℕ → Buffer
lasting lower upper size = record { lower = lower; upper = upper; size = size; alignment = 1; gaps = []; lowest = 0 }

abbrev pub drawn : ℕ → ℕ → ℕ → ℕ → ℕ → Rectangle
drawn b first end place top = record { buffer = b; first = first; end = end; place = place; top = top }

-- ---- five buffers
abbrev pub five : Instance
five = lasting 0 3 4 ∷ lasting 3 9 4 ∷ lasting 0 9 4 ∷ lasting 9 21 4 ∷ lasting 0 21 4 ∷ []

five_columns : columns_of five ≡ 0 ∷ 3 ∷ 9 ∷ 21 ∷ []
unfolding columns_of turns_at was_live is_live
five_columns = refl

five_rectangles : rectangles five (0 ∷ 0 ∷ 4 ∷ 0 ∷ 8 ∷ []) ≡
    drawn 0 0 1 0 4 ∷ drawn 1 1 2 0 4 ∷ drawn 2 0 2 4 8 ∷ drawn 3 2 3 0 4 ∷ drawn 4 0 3 8 12 ∷ []
unfolding rectangles rectangles_of run_end columns_of turns_at was_live is_live buffer
five_rectangles = refl

-- ---- a buffer with a gap has two rectangles
abbrev pub with_gap : Buffer
with_gap = record { lower = 0; upper = 10; size = 4; alignment = 1; gaps = (3, 6) ∷ []; lowest = 0 }

gap_columns : columns_of (with_gap ∷ []) ≡ 0 ∷ 3 ∷ 6 ∷ 10 ∷ []
unfolding columns_of turns_at was_live is_live
gap_columns = refl

gap_rectangles : rectangles (with_gap ∷ []) (8 ∷ []) ≡ drawn 0 0 1 8 12 ∷ drawn 0 2 3 8 12 ∷ []
unfolding rectangles rectangles_of run_end columns_of turns_at was_live is_live buffer
gap_rectangles = refl

no_rectangles : rectangles [] [] ≡ []
unfolding rectangles
no_rectangles = refl

-- ---- colours
-- the first two of the five follow each other, and the third lies upon both
abbrev pub five_offsets : List ℕ
five_offsets = 0 ∷ 0 ∷ 4 ∷ 0 ∷ 8 ∷ []

these_follow : touch five five_offsets 0 1 ≡ true
unfolding touch buffer do_share some_before is_live
these_follow = refl

this_lies_upon : touch five five_offsets 0 2 ≡ true
unfolding touch buffer do_share some_before is_live
this_lies_upon = refl

these_share_no_moment : touch five five_offsets 2 3 ≡ false
unfolding touch buffer do_share some_before is_live
these_share_no_moment = refl

these_are_apart : touch five five_offsets 0 4 ≡ false
unfolding touch buffer do_share some_before is_live
these_are_apart = refl

three_colours : colours_of five five_offsets ≡ 0 ∷ 1 ∷ 2 ∷ 0 ∷ 0 ∷ []
unfolding colours_of colours_below next_colour is_taken touch buffer do_share some_before is_live
three_colours = refl

the_next_is_taken : is_taken five five_offsets (0 ∷ 1 ∷ []) 1 ≡ true
unfolding is_taken touch buffer do_share some_before is_live
the_next_is_taken = refl

the_third_is_left : next_colour five five_offsets (0 ∷ 1 ∷ []) ≡ 2
unfolding next_colour is_taken touch buffer do_share some_before is_live
the_third_is_left = refl

-- nine that follow each other, and one that lies upon all of them: where all eight are taken, the rest of 9 by 8
abbrev nine_and_one : Instance
nine_and_one = map (λ k. lasting k (k + 1) 1) (numbers 9) ++ lasting 0 9 1 ∷ []

all_are_taken : next_colour nine_and_one (0 ∷ 0 ∷ 0 ∷ 0 ∷ 0 ∷ 0 ∷ 0 ∷ 0 ∷ 0 ∷ 1 ∷ [])
    (0 ∷ 1 ∷ 2 ∷ 3 ∷ 4 ∷ 5 ∷ 6 ∷ 7 ∷ 7 ∷ []) ≡ 1
unfolding next_colour is_taken touch buffer do_share some_before is_live
all_are_taken = refl

-- ---- runs
a_run_begins : begins_at (false ∷ true ∷ true ∷ []) 1 ≡ true
a_run_begins = refl

a_run_goes_on : begins_at (false ∷ true ∷ true ∷ []) 2 ≡ false
a_run_goes_on = refl

a_run_ends : run_end (false ∷ true ∷ true ∷ false ∷ []) 1 ≡ 3
unfolding run_end
a_run_ends = refl

-- ---- scaling
abbrev twelve : Scale
twelve = record { columns = 4; height = 12 }

three_spans : spans twelve ≡ 3
three_spans = refl

wide_columns : column_width twelve ≡ 400
wide_columns = refl

narrow_columns : column_width (record { columns = 5000; height = 12 }) ≡ 1
narrow_columns = refl

second_column : x_of twelve 1 ≡ 600
unfolding x_of
second_column = refl

rounded_down : scaled (record { columns = 4; height = 7 }) 1 ≡ 85
unfolding scaled
rounded_down = refl

at_the_base : y_of twelve 0 ≡ 624
unfolding y_of scaled
at_the_base = refl

at_the_top : y_of twelve 12 ≡ 24
unfolding y_of scaled
at_the_top = refl

a_third_up : area_of twelve (drawn 2 0 2 4 8) ≡ record { x = 200; y = 224; width = 800; height = 200 }
unfolding area_of x_of y_of scaled
a_third_up = refl

-- ---- ids
a_mark_is_escaped : char_text 60 ≡ codes "&lt;"
a_mark_is_escaped = refl

no_zero_byte : is_allowed 0 ≡ false
no_zero_byte = refl

no_noncharacter : is_allowed 0xFFFE ≡ false
no_noncharacter = refl

a_return_is_escaped : char_text 13 ≡ codes "&#13;"
a_return_is_escaped = refl

-- two bytes that are no UTF-8, the first as if three more were to come
one_for_one : escaped (97 ∷ 240 ∷ 159 ∷ 38 ∷ []) ≡
    97 ∷ 239 ∷ 191 ∷ 189 ∷ 239 ∷ 191 ∷ 189 ∷ 38 ∷ 97 ∷ 109 ∷ 112 ∷ 59 ∷ []
unfolding escaped encode
one_for_one = refl

-- a letter of two bytes stays
a_letter_stays : escaped (195 ∷ 169 ∷ []) ≡ 195 ∷ 169 ∷ []
unfolding escaped encode
a_letter_stays = refl

-- ---- texts
an_attribute : attribute (codes "x") 42 ≡ codes " x='42'"
unfolding digits
an_attribute = refl

an_outline : area_text (record { x = 200; y = 224; width = 800; height = 200 }) ≡ codes " d='M200 224h800v200h-800z'"
unfolding digits
an_outline = refl

-- what is too low for a unit is drawn all the same, as a line
a_flat_outline : area_text (record { x = 200; y = 224; width = 400; height = 0 }) ≡ codes " d='M200 224h400v0h-400z'"
unfolding digits
a_flat_outline = refl

a_title : title_text (codes "b<1") (lasting 0 3 4) 8 ≡ codes "4 bytes at 8, live 0-3: b&lt;1"
unfolding digits escaped encode
a_title = refl

the_second_colour : colour_text 1 ≡ codes "9ac4ff"
the_second_colour = refl

a_rectangle : rectangle_text twelve five (codes "b1" ∷ codes "b2" ∷ codes "b3" ∷ []) (0 ∷ 1 ∷ 2 ∷ [])
    (drawn 2 0 2 4 8) ≡
    codes "<path d='M200 224h800v200h-800z' fill='#db8a9e'><title>4 bytes at 4, live 0-9: b3</title></path>\n"
unfolding rectangle_text area_of x_of y_of scaled buffer digits escaped encode
a_rectangle = refl

room : has_room 2 (record { x = 200; y = 24; width = 22; height = 14 }) ≡ true
room = refl

no_room : has_room 2 (record { x = 200; y = 24; width = 21; height = 14 }) ≡ false
no_room = refl

an_id : id_text (codes "b3") (record { x = 200; y = 224; width = 800; height = 200 }) ≡
    codes "<text x='204' y='328'>b3</text>\n"
unfolding digits escaped encode
an_id = refl

a_label : label_text twelve (codes "b1" ∷ codes "b2" ∷ codes "b3" ∷ []) (drawn 2 0 2 4 8) ≡
    codes "<text x='204' y='328'>b3</text>\n"
unfolding digits escaped encode label_text area_of x_of y_of scaled
a_label = refl

a_step : load_step twelve (12 ∷ 12 ∷ 8 ∷ 0 ∷ []) 2 ≡ codes "H1000V224"
unfolding digits load_step x_of y_of scaled
a_step = refl

a_mark : mark_text (codes "height ") 12 24 22
    ≡ codes "<path stroke='#000' d='M194 24H200'/><text x='191' y='22'>height 12</text>\n"
unfolding digits
a_mark = refl

a_width : picture_width twelve ≡ 1472
unfolding x_of
a_width = refl

each_wide_column_is_marked : is_marked twelve 1 ≡ true
each_wide_column_is_marked = refl

not_each_narrow_one : is_marked (record { columns = 31; height = 12 }) 3 ≡ false
not_each_narrow_one = refl

a_moment : moment_text twelve (0 ∷ 3 ∷ 9 ∷ 21 ∷ []) 2 ≡
    codes "<path stroke='#000' d='M1000 624v6'/><text x='1000' y='650'>9</text>\n"
unfolding digits moment_text x_of
a_moment = refl
