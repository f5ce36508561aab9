-- The text of a picture.
use Rattle.std.specs.Prelude.{ℕ, ◌+◌, ◌*◌, ◌-◌, ◌/◌, ◌%◌, ◌==◌, ◌&&◌, Bool, nat_le, if◌then◌else◌, List, [], ◌∷◌, ◌++◌, codes, decimal, length, map, slice_index, slice_index_or}
use Rattle.std.specs.List.{flat_map}
use Rattle.dsa_terms.specs.Buffers.{Buffer, Instance, buffer}
use Rattle.dsa_terms.specs.Logs.{greatest}
use Rattle.dsa_terms.specs.Parts.{numbers}
use Rattle.dsa_terms.specs.Plans.{layout_height, load}
use Rattle.layout_picture.specs.Colours.{colours_of}
use Rattle.layout_picture.specs.Columns.{columns_of}
use Rattle.layout_picture.specs.Escape.{escaped}
use Rattle.layout_picture.specs.Rectangles.{rectangles}
use Rattle.layout_picture.specs.Scale.{area_of, column_width, spans, x_of, y_of}
use Rattle.layout_picture.specs.declared.rectangle.Rectangle.{Rectangle}
use Rattle.layout_picture.specs.declared.scale.Area.{Area}
use Rattle.layout_picture.specs.declared.scale.Scale.{Scale}

-- an attribute that is a number
abbrev pub attribute : List ℕ → ℕ → List ℕ
attribute name n = codes " " ++ name ++ codes "='" ++ decimal n ++ codes "'"

-- the outline of an area, which is drawn as a line where its height is 0
abbrev pub area_text : Area → List ℕ
area_text area =
    codes " d='M" ++ decimal area.x ++ codes " " ++ decimal area.y ++ codes "h" ++ decimal area.width ++ codes "v"
    ++ decimal area.height ++ codes "h-" ++ decimal area.width ++ codes "z'"

-- eight light tints, told apart by the colour-blind and in grey, the first ones best
abbrev pub palette : List (List ℕ)
palette =
    codes "ffe58d" ∷ codes "9ac4ff" ∷ codes "db8a9e" ∷ codes "5deae9" ∷ codes "a1bc7a" ∷ codes "ffbcab"
    ∷ codes "ce99d2" ∷ codes "c5b5c8" ∷ []

-- the digits of a colour
abbrev pub colour_text : ℕ → List ℕ
colour_text k = slice_index_or palette (k % 8) []

-- a buffer's size, place, lifetime and id; the id is last, so none is taken for the numbers
abbrev pub title_text : List ℕ → Buffer → ℕ → List ℕ
title_text id b place =
    decimal b.size ++ codes " bytes at " ++ decimal place ++ codes ", live " ++ decimal b.lower ++ codes "-"
    ++ decimal b.upper ++ codes ": " ++ escaped id

-- a rectangle with its title
unfoldable pub rectangle_text : Scale → Instance → List (List ℕ) → List ℕ → Rectangle → List ℕ
rectangle_text s I ids colours r =
    codes "<path" ++ area_text (area_of s r) ++ codes " fill='#" ++ colour_text (slice_index colours r.buffer)
    ++ codes "'><title>"
    ++ title_text (slice_index_or ids r.buffer []) (buffer I r.buffer) r.place ++ codes "</title></path>\n"

-- whether an id of so many bytes has room in the area
abbrev pub has_room : ℕ → Area → Bool
has_room n area = nat_le (7 * n + 8) area.width && nat_le 14 area.height

-- an id in its area
abbrev pub id_text : List ℕ → Area → List ℕ
id_text id area =
    codes "<text" ++ attribute (codes "x") (area.x + 4) ++ attribute (codes "y") (area.y + area.height / 2 + 4)
    ++ codes ">" ++ escaped id ++ codes "</text>\n"

-- the id inside a rectangle, where there is room
unfoldable pub label_text : Scale → List (List ℕ) → Rectangle → List ℕ
label_text s ids r =
    let id = slice_index_or ids r.buffer [] in
    if has_room (length id) (area_of s r) then id_text id (area_of s r) else []

-- the load's line from the base to a column's beginning and to its load
unfoldable pub load_step : Scale → List ℕ → ℕ → List ℕ
load_step s loads k = codes "H" ++ decimal (x_of s k) ++ codes "V" ++ decimal (y_of s (slice_index loads k))

-- the load's line, in steps
abbrev pub load_text : Scale → List ℕ → List ℕ
load_text s loads =
    codes "<path fill='none' stroke='#a00' stroke-width='2' stroke-dasharray='6 3' d='M200 624"
    ++ flat_map (load_step s loads) (numbers (length loads)) ++ codes "'/>\n"

-- the two axes
abbrev pub axes_text : Scale → List ℕ
axes_text s =
    codes "<path fill='none' stroke='#000' d='M200 24V624H" ++ decimal (x_of s (spans s)) ++ codes "'/>\n"

-- a mark of the left axis at y, with a name and a number beside it
abbrev pub mark_text : List ℕ → ℕ → ℕ → ℕ → List ℕ
mark_text name n y beside =
    codes "<path stroke='#000' d='M194 " ++ decimal y ++ codes "H200'/><text x='191'" ++ attribute (codes "y") beside
    ++ codes ">" ++ name ++ decimal n ++ codes "</text>\n"

-- the marks of the height and of the peak load, one name above its mark and one below
abbrev pub marks_text : Scale → ℕ → List ℕ
marks_text s peak =
    mark_text (codes "height ") s.height (y_of s s.height) (y_of s s.height - 2)
    ++ mark_text (codes "peak ") peak (y_of s peak) (y_of s peak + 12)

-- whether column k has a mark on the lower axis: marks are further apart than their moments are long
abbrev pub is_marked : Scale → ℕ → Bool
is_marked s k = k % (130 / column_width s + 1) == 0

-- the mark of column k with its moment, if it has one
unfoldable pub moment_text : Scale → List ℕ → ℕ → List ℕ
moment_text s moments k =
    if is_marked s k
    then codes "<path stroke='#000' d='M" ++ decimal (x_of s k) ++ codes " 624v6'/><text"
    ++ attribute (codes "x") (x_of s k) ++ codes " y='650'>" ++ decimal (slice_index moments k)
    ++ codes "</text>\n"
    else []

-- how wide the picture is, with room for half of the longest moment at its right edge
abbrev pub picture_width : Scale → ℕ
picture_width s = x_of s (spans s) + 72

-- the size of the picture, in which lines and text are drawn, each letter of an id as wide as any other
abbrev pub head_text : Scale → List ℕ
head_text s =
    codes "<svg xmlns='http://www.w3.org/2000/svg'" ++ attribute (codes "width") (picture_width s)
    ++ codes " height='672' viewBox='0 0 " ++ decimal (picture_width s)
    ++ codes " 672' font-family='monospace' font-size='11'>\n<rect width='100%' height='100%' fill='#fff'/>\n"

-- the rectangles, and over them the load's line and the ids, which are edged in white
unfoldable pub plot_text : Scale → Instance → List (List ℕ) → List ℕ → List ℕ → List Rectangle → List ℕ
plot_text s I ids colours loads all =
    codes "<g stroke='#333' stroke-width='.5'>\n" ++ flat_map (rectangle_text s I ids colours) all
    ++ codes "</g>\n<g pointer-events='none'>\n" ++ load_text s loads
    ++ codes "<g stroke='#fff' stroke-width='2' paint-order='stroke'>\n" ++ flat_map (label_text s ids) all
    ++ codes "</g>\n</g>\n"

-- what the lines and the axes mean
abbrev pub note_text : List ℕ
note_text = codes "<text x='200' y='664'>dashed: load in bytes; "
    ++ codes "a column for each moment at which something changes, not to scale</text>\n"

-- the axes with their marks and what they mean; the pointer finds the rectangles under them
unfoldable pub frame_text : Scale → List ℕ → List ℕ → List ℕ
frame_text s moments loads =
    codes "<g pointer-events='none'>\n" ++ axes_text s ++ codes "<g text-anchor='end'>\n"
    ++ marks_text s (greatest loads) ++ codes "</g>\n<g text-anchor='middle'>\n"
    ++ flat_map (moment_text s moments) (numbers (length moments)) ++ codes "</g>\n" ++ note_text ++ codes "</g>\n"

-- the scale of a layout
abbrev pub scale_of : Instance → List ℕ → Scale
scale_of I offsets = record { columns = length (columns_of I); height = layout_height I offsets }

-- the picture of a layout
unfoldable pub picture_text : Instance → List (List ℕ) → List ℕ → List ℕ
picture_text I ids offsets =
    let s = scale_of I offsets in
    let loads = map (load I) (columns_of I) in
    head_text s ++ plot_text s I ids (colours_of I offsets) loads (rectangles I offsets)
    ++ frame_text s (columns_of I) loads ++ codes "</svg>\n"
