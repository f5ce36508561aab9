-- Where columns and places are drawn, in whole units of the picture; y grows downwards.
use Rattle.std.specs.Prelude.{ℕ, ◌+◌, ◌-◌, ◌*◌, ◌/◌, min, max}
use Rattle.layout_picture.specs.declared.rectangle.Rectangle.{Rectangle}
use Rattle.layout_picture.specs.declared.scale.Area.{Area}
use Rattle.layout_picture.specs.declared.scale.Scale.{Scale}

-- how many columns have a width: the last one has none, since nothing is live then
abbrev pub spans : Scale → ℕ
spans s = max (s.columns - 1) 1

-- the width of each: 1200 shared out and rounded down, and at least 1
abbrev pub column_width : Scale → ℕ
column_width s = max (1200 / spans s) 1

-- where column k begins
unfoldable pub x_of : Scale → ℕ → ℕ
x_of s k = 200 + k * column_width s

-- how far above the base a place is drawn: the height is 600, and nothing is above it
unfoldable pub scaled : Scale → ℕ → ℕ
scaled s place = min place s.height * 600 / max s.height 1

-- where a place is drawn; the base is at 624
unfoldable pub y_of : Scale → ℕ → ℕ
y_of s place = 624 - scaled s place

-- where a rectangle is drawn
unfoldable pub area_of : Scale → Rectangle → Area
area_of s r = record {
  x = x_of s r.first;
  y = y_of s r.top;
  width = x_of s r.end - x_of s r.first;
  height = y_of s r.place - y_of s r.top;
}
