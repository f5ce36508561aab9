-- The rows of a made instance.
use Rattle.std.specs.Prelude.{ℕ, ◌+◌, ◌-◌, ◌*◌, ◌==◌, ◌&&◌, nat_le, if◌then◌else◌, Option, Some, None}
use Rattle.make_instance.specs.Draws.{draw}
use Rattle.make_instance.specs.declared.row.Row.{Row}

-- the gap of a lifetime: all of it but its first and its last moment, where the flag is 0 and there is room
abbrev pub gap_in : (flag lower length : ℕ) → Option (ℕ × ℕ)
gap_in flag lower length = if (flag == 0) && nat_le 3 length then Some (lower + 1, lower + length - 1) else None

-- the row of a lifetime's begin and length, a size, an alignment and the flag of a gap
abbrev pub row_of : (lower length size alignment flag : ℕ) → Row
row_of lower length size alignment flag = record {
  lower = lower;
  upper = lower + length;
  size = size;
  alignment = alignment;
  gap = gap_in flag lower length;
}

-- the row of buffer i, of five draws
unfoldable pub made_row : (seed count i : ℕ) → Row
made_row seed count i = row_of
    (draw seed (5 * i + 1) (2 * count))
    (1 + draw seed (5 * i + 2) 16)
    (1 + draw seed (5 * i + 3) 64)
    (1 + draw seed (5 * i + 4) 4)
    (draw seed (5 * i + 5) 4)
