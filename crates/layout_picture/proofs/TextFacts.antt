-- The text of a whole picture of two buffers, and of its pieces.
use Rattle.std.proofs.Common.{◌≡◌, ℕ, List, [], ◌∷◌, ◌++◌, map, length, codes, refl}
use lib.Utf8.{encode}
use Rattle.std.specs.Prelude.{encode_utf8}
use Rattle.std.specs.Fmt.{digits}
use Rattle.dsa_terms.specs.Buffers.{Instance, buffer, do_share, is_live, some_before}
use Rattle.dsa_terms.specs.Plans.{layout_height, load}
use Rattle.lifetime.specs.Runs.{was_live}
use Rattle.layout_picture.specs.Colours.{colours_below, colours_of, is_taken, next_colour, touch}
use Rattle.layout_picture.specs.Columns.{columns_of, turns_at}
use Rattle.layout_picture.specs.Escape.{escaped, escaped_after, replacement}
use Rattle.layout_picture.specs.Rectangles.{rectangles, rectangles_of, run_end}
use Rattle.layout_picture.specs.Scale.{area_of, scaled, x_of, y_of}
use Rattle.layout_picture.specs.Texts.{axes_text, colour_text, frame_text, head_text, label_text, load_step, load_text, marks_text, moment_text, palette, picture_text, plot_text, rectangle_text, scale_of}
use Rattle.layout_picture.specs.declared.scale.Scale.{Scale}
use Rattle.layout_picture.proofs.ExampleFacts.{drawn, lasting}

-- ---- ids: what stands for no character is U+FFFD, and the rest of a character is passed over
no_character : replacement ≡ encode_utf8 0xFFFD
unfolding encode
no_character = refl

after_one_more : escaped_after 1 (169 ∷ 60 ∷ 97 ∷ []) ≡ codes "&lt;a"
unfolding encode
after_one_more = refl

after_all : escaped_after 2 (97 ∷ []) ≡ []
after_all = refl

-- ---- eight colours, each of six digits
eight_colours : map length palette ≡ 6 ∷ 6 ∷ 6 ∷ 6 ∷ 6 ∷ 6 ∷ 6 ∷ 6 ∷ []
eight_colours = refl

the_ninth_is_the_first : colour_text 8 ≡ codes "ffe58d"
the_ninth_is_the_first = refl

-- ---- two that follow each other, the first at 4, the second at 0 and not drawn up to the height: three columns, the
-- last with no width
abbrev two : Instance
two = lasting 0 3 4 ∷ lasting 3 9 6 ∷ []

abbrev eight : Scale
eight = record { columns = 3; height = 8 }

its_scale : scale_of two (4 ∷ 0 ∷ []) ≡ eight
unfolding columns_of turns_at was_live is_live layout_height buffer
its_scale = refl

-- two columns of 600 units from 200 on, and 72 units more
its_head : List ℕ
its_head = codes "<svg xmlns='http://www.w3.org/2000/svg' width='1472' height='672' viewBox='0 0 1472 672' "
    ++ codes "font-family='monospace' font-size='11'>\n<rect width='100%' height='100%' fill='#fff'/>\n"

a_head : head_text eight ≡ its_head
unfolding its_head digits x_of
a_head = refl

-- the loads are 4, 6 and 0 bytes: 300 units, 450 units and none above the base at 624
its_load : List ℕ
its_load = codes "<path fill='none' stroke='#a00' stroke-width='2' stroke-dasharray='6 3' "
    ++ codes "d='M200 624H200V324H800V174H1400V624'/>\n"

a_load : load_text eight (4 ∷ 6 ∷ 0 ∷ []) ≡ its_load
unfolding its_load digits load_step x_of y_of scaled
a_load = refl

-- with no columns the line does not leave the base
no_load : load_text eight []
    ≡ codes "<path fill='none' stroke='#a00' stroke-width='2' stroke-dasharray='6 3' d='M200 624'/>\n"
no_load = refl

-- ---- the rectangles, the load and the ids
its_plot : List ℕ
its_plot = codes "<g stroke='#333' stroke-width='.5'>\n"
    ++ codes "<path d='M200 24h600v300h-600z' fill='#ffe58d'><title>4 bytes at 4, live 0-3: a</title></path>\n"
    ++ codes "<path d='M800 174h600v450h-600z' fill='#9ac4ff'><title>6 bytes at 0, live 3-9: b&lt;</title></path>\n"
    ++ codes "</g>\n<g pointer-events='none'>\n" ++ its_load
    ++ codes "<g stroke='#fff' stroke-width='2' paint-order='stroke'>\n"
    ++ codes "<text x='204' y='178'>a</text>\n<text x='804' y='403'>b&lt;</text>\n</g>\n</g>\n"

a_plot : plot_text eight two (codes "a" ∷ codes "b<" ∷ []) (0 ∷ 1 ∷ []) (4 ∷ 6 ∷ 0 ∷ [])
    (drawn 0 0 1 4 8 ∷ drawn 1 1 2 0 6 ∷ []) ≡ its_plot
unfolding its_plot its_load plot_text rectangle_text label_text load_step area_of x_of y_of scaled buffer digits escaped
    encode
a_plot = refl

-- ---- the axes: the height at the top, the peak load below it, and each moment
the_axes : axes_text eight ≡ codes "<path fill='none' stroke='#000' d='M200 24V624H1400'/>\n"
unfolding digits x_of
the_axes = refl

its_marks : List ℕ
its_marks = codes "<path stroke='#000' d='M194 24H200'/><text x='191' y='22'>height 8</text>\n"
    ++ codes "<path stroke='#000' d='M194 174H200'/><text x='191' y='186'>peak 6</text>\n"

the_marks : marks_text eight 6 ≡ its_marks
unfolding its_marks digits y_of scaled
the_marks = refl

its_frame : List ℕ
its_frame = codes "<g pointer-events='none'>\n<path fill='none' stroke='#000' d='M200 24V624H1400'/>\n"
    ++ codes "<g text-anchor='end'>\n" ++ its_marks ++ codes "</g>\n<g text-anchor='middle'>\n"
    ++ codes "<path stroke='#000' d='M200 624v6'/><text x='200' y='650'>0</text>\n"
    ++ codes "<path stroke='#000' d='M800 624v6'/><text x='800' y='650'>3</text>\n"
    ++ codes "<path stroke='#000' d='M1400 624v6'/><text x='1400' y='650'>9</text>\n</g>\n"
    ++ codes "<text x='200' y='664'>dashed: load in bytes; a column for each moment at which something changes, "
    ++ codes "not to scale</text>\n</g>\n"

a_frame : frame_text eight (0 ∷ 3 ∷ 9 ∷ []) (4 ∷ 6 ∷ 0 ∷ []) ≡ its_frame
unfolding its_frame its_marks frame_text moment_text digits x_of y_of scaled
a_frame = refl

-- ---- the whole
a_picture : picture_text two (codes "a" ∷ codes "b<" ∷ []) (4 ∷ 0 ∷ [])
    ≡ its_head ++ its_plot ++ its_frame ++ codes "</svg>\n"
unfolding its_head its_plot its_load its_frame its_marks picture_text plot_text frame_text rectangle_text label_text
    load_step moment_text colours_of colours_below next_colour is_taken touch rectangles rectangles_of run_end
    columns_of turns_at was_live is_live do_share some_before load layout_height area_of x_of y_of scaled buffer digits
    escaped encode
a_picture = refl
