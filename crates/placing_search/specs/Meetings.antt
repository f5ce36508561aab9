-- Who shares a moment with whom, in rows of bits.
use Rattle.std.specs.Prelude.{◌≡◌, ◌*◌, ◌/◌, ◌+◌, length}
use Rattle.dsa_terms.specs.Buffers.{Instance}
use Rattle.placing_search.specs.Sides.{AreSidesOf}
use Rattle.placing_search.specs.declared.meetings.Meetings.{Meetings}

-- a row of words for each buffer, with a bit for each buffer, and what stands beside them
pub record AreMeetingsOf (I : Instance) (m : Meetings) : Type 0 where
  pub width : m.width ≡ length I / 64 + 1
  pub count : length m.words.items ≡ length I * m.width
  pub sides : AreSidesOf I m.sides
